-- What RANGE comes to.
use Rattle.std.proofs.Common.{◌≡◌, ℕ, List, [], ◌∷◌, ◌++◌, Option, None, Some, Result, Ok, Err, option_map, refl, sym, ap, subst, inl, inr, ◌∙◌}
use Rattle.job_devices.specs.States.{SinkState}
use Rattle.job_devices.specs.declared.device.WriteStop.{WriteStop}
use Rattle.job_devices.specs.Text.{Writes}
use Rattle.lp_model.specs.declared.reports.RangeReport.{RangeReport}
use Rattle.exact_values.specs.Rational.{ℚ}
use Rattle.lp_definitions.specs.LinearProgram.{LinearProgram}
use Rattle.lp_definitions.specs.Basis.{Basics, basics_of}
use Rattle.lp_definitions.specs.Waypoints.{waypoint}
use Rattle.lp_definitions.specs.declared.Evidence.{Evidence}
use Rattle.simplex_definitions.specs.Statements.{Range as RangeStatement}
use Rattle.problem_definitions.specs.Problem.{Problem}
use Rattle.problem_file.specs.Filed.{filed_under}
use Rattle.listing_tables.specs.Lines.{range_lines}
use Rattle.listing_definitions.specs.Text.{report_text}
use Rattle.control_definitions.specs.Program.{Ranging}
use Rattle.selection_definitions.specs.Selection.{matrix_of, selected}
use Rattle.listing_definitions.specs.declared.Mark.{Mark}
use Rattle.listing_definitions.specs.declared.Mark.TheVariants.{Optimal, Infeasible, Unbounded}
use Rattle.listing_definitions.specs.declared.VerbFault.{VerbFault}
use Rattle.listing_definitions.specs.declared.VerbFault.TheVariants as verb_fault
use Rattle.listing_definitions.specs.Report.{RangeLines, Ranges}
use Rattle.listing_definitions.specs.Ending as endings
use Rattle.question_definitions.specs.Answers.{Basis, OfRanges}
use Rattle.control_definitions.specs.Cells.{Cells}
use Rattle.answer_definitions.specs.Sections.{IsRanged}
use Rattle.answer_definitions.specs.Evidence.{IsEvidence}
use Rattle.listing_tables.specs.declared.sheet.Sheet.{Sheet as OwnSheet}
use Rattle.verb_answers.specs.Answers.{sheet_view}
use Rattle.verb_answers.specs.Stops.{RangesRefused}
use Rattle.run_definitions.specs.State.{Present, State, choice_of, present_basis, path_of}
use Rattle.run_definitions.specs.Moves.{Gain, Nothing, Prints, StatementOutcome, next, stops, InAnswer, StatementMove, MayStop, Asks, Gives}
use Rattle.run_definitions.specs.Moves.{or_fault}
use Rattle.run_definitions.specs.Verbs.{if_optimal, or_selection_fault, verb_move}
use Rattle.run_machine.specs.declared.act.Halt.TheVariants as halt
use Rattle.run_machine.specs.declared.end.Place.{Place as OwnPlace}
use Rattle.run_machine.specs.declared.finding.Finding.{Finding}
use Rattle.run_machine.specs.declared.finding.Finding.TheVariants.{Overflow, Printed}
use Rattle.setup_verbs.specs.Machines.{Machine}
use Rattle.setup_verbs.specs.Kept.{Setup}
use Rattle.run_machine.specs.declared.selecting.Refusal.TheVariants.{Fault}
use Rattle.run_machine.specs.Ends.{place_view}
use Rattle.fitting_answers.specs.Fitting.{EvidenceFits}
use Rattle.fitting_answers.specs.Real.{linear_programming_of_128_bits}
use Rattle.setup_verbs.specs.Standing.{IsPresent, ShowsSetup, Represents}
use Rattle.setup_verbs.specs.Statements.{LeadsTo, Executes}
use Rattle.run_machine.specs.Choosing.{refused_act}
use Rattle.run_machine.specs.Findings.{ReportsFinding, act_of}
use Rattle.showing_verbs.specs.Shown.{RangesFound, ranged, stopped, Shows, view_of, IsSameSetup}
use Rattle.showing_verbs.specs.declared.present.ShowingVerb.TheVariants as verbs
use Rattle.showing_verbs.specs.declared.present.View.{View}
use Rattle.showing_verbs.specs.declared.present.View.TheVariants.{Intervals}
use Rattle.setup_verbs.proofs.Selected.{same_matrix}
use Rattle.run_machine.proofs.Giving.{quietly}
use Rattle.setup_verbs.proofs.Giving.{gives_fault, gives_found, gives_selected}
use Rattle.showing_verbs.proofs.Showing.{sheet_of, still_stands}
use Rattle.setup_verbs.proofs.Present.{IsPresentOf, lie_up_to, present_at, present_with}

-- ---- the intervals of a basis

-- they are printed or broken off
module _ {print_old print_new : SinkState} (sheet : OwnSheet) (s : Basis) (before : List Basics) (point : List ℚ) (report : RangeReport)
    (is_ranged : IsRanged (sheet_view sheet) s (range_lines sheet.lp.now s point report sheet.problem.now)) where
  pub ranges_reported : Writes {T = Unit {0}} print_old print_new (Ok tt) (report_text (Ranges (range_lines sheet.lp.now s point report sheet.problem.now))) →
      ReportsFinding (RangesFound (sheet_view sheet) s before) print_old print_new (Ok Printed)
  ranges_reported writes = record {
    gain = Prints (Ranges (range_lines sheet.lp.now s point report sheet.problem.now));
    holds = ranged is_ranged;
    writes = writes;
  }

  pub ranges_cut : (stop : WriteStop) →
      Writes {T = Unit {0}} print_old print_new (Err stop) (report_text (Ranges (range_lines sheet.lp.now s point report sheet.problem.now))) →
      ReportsFinding (RangesFound (sheet_view sheet) s before) print_old print_new (Err (halt.Print stop))
  ranges_cut stop writes = record {
    gain = Prints (Ranges (range_lines sheet.lp.now s point report sheet.problem.now));
    finding = Printed;
    holds = ranged is_ranged;
    writes = writes;
  }

pub ranges_overflow : (sheet : OwnSheet) (s : Basis) (before after : List Basics) (e : Evidence) → RangesRefused sheet.lp.now before s after e →
    (place : OwnPlace) → place_view place ≡ record { basis = s; way = waypoint (basics_of s) after e.way } → EvidenceFits e →
    RangesFound (sheet_view sheet) s before Nothing (Overflow e (Some place))
ranges_overflow sheet s before after e o place is fit =
    stopped (λ earlier lie. subst (λ (p : endings.Place). IsEvidence (RangeStatement sheet.lp.now) None 0 (earlier ++ s ∷ []) [] e (Some p)) (sym is)
    (o.shows earlier lie)) fit

-- ---- the statement

pub same_fault : (found : Result View VerbFault) (one other : VerbFault) → found ≡ Err one → found ≡ Err other → one ≡ other
same_fault found one other is also = cc

module _ (card : ℕ) (state : State) where
  abbrev printed : RangeLines → StatementOutcome
  printed lines = next (Prints (Ranges lines)) state

  abbrev go_view : Present → LinearProgram → StatementMove
  go_view present lp = MayStop (InAnswer OfRanges (sheet_of present lp) (path_of present)) (Asks OfRanges (sheet_of present lp) (present_basis present) printed)

  abbrev go_optimal : Present → Mark → StatementMove
  go_optimal present mark = or_selection_fault card (selected present.problem (choice_of state.cells present.options)) (go_view present)

  abbrev go_marked : Present → Mark → StatementMove
  go_marked present mark = or_fault card verb_fault.NotOptimal (if_optimal mark) (go_optimal present)

  abbrev go_set_up : Present → StatementMove
  go_set_up present = or_fault card verb_fault.NotSolved state.mark (go_marked present)

  range_gives : (outcome : StatementOutcome) → Gives linear_programming_of_128_bits card (or_fault card verb_fault.NoSetup state.setup go_set_up) outcome →
      Gives linear_programming_of_128_bits card (verb_move Ranging card state) outcome
  unfolding linear_programming_of_128_bits verb_move
  range_gives outcome g = g

  gives_no_setup : state.setup ≡ None →
      Gives linear_programming_of_128_bits card (verb_move Ranging card state) (stops (endings.VerbStop (record { fault = verb_fault.NoSetup; card = card })))
  gives_no_setup e =
      range_gives (stops (endings.VerbStop (record { fault = verb_fault.NoSetup; card = card }))) (gives_fault card verb_fault.NoSetup state.setup go_set_up e)

  gives_set_up : (present : Present) (outcome : StatementOutcome) → state.setup ≡ Some present →
      Gives linear_programming_of_128_bits card (go_set_up present) outcome → Gives linear_programming_of_128_bits card (verb_move Ranging card state) outcome
  gives_set_up present outcome e given = range_gives outcome (gives_found card verb_fault.NoSetup state.setup go_set_up present outcome e given)

  -- the mark is refused
  gives_refused : (present : Present) (mark : Option Mark) (fault : VerbFault) → state.mark ≡ mark → view_of verbs.Ranging mark ≡ Err fault →
      Gives linear_programming_of_128_bits card (go_set_up present) (stops (endings.VerbStop (record { fault = fault; card = card })))
  gives_refused present None fault is e =
      subst (λ (f : VerbFault). Gives linear_programming_of_128_bits card (go_set_up present) (stops (endings.VerbStop (record { fault = f; card = card }))))
      (same_fault (view_of verbs.Ranging None) verb_fault.NotSolved fault refl e)
      (gives_fault card verb_fault.NotSolved state.mark (go_marked present) is)
  gives_refused present (Some Optimal) fault is e = absurd (cc e)
  gives_refused present (Some Infeasible) fault is e =
      subst (λ (f : VerbFault). Gives linear_programming_of_128_bits card (go_set_up present) (stops (endings.VerbStop (record { fault = f; card = card }))))
      (same_fault (view_of verbs.Ranging (Some Infeasible)) verb_fault.NotOptimal fault refl e)
      (gives_found card verb_fault.NotSolved state.mark (go_marked present) Infeasible
      (stops (endings.VerbStop (record { fault = verb_fault.NotOptimal; card = card }))) is
      (gives_fault card verb_fault.NotOptimal (if_optimal Infeasible) (go_optimal present) refl))
  gives_refused present (Some Unbounded) fault is e =
      subst (λ (f : VerbFault). Gives linear_programming_of_128_bits card (go_set_up present) (stops (endings.VerbStop (record { fault = f; card = card }))))
      (same_fault (view_of verbs.Ranging (Some Unbounded)) verb_fault.NotOptimal fault refl e)
      (gives_found card verb_fault.NotSolved state.mark (go_marked present) Unbounded
      (stops (endings.VerbStop (record { fault = verb_fault.NotOptimal; card = card }))) is
      (gives_fault card verb_fault.NotOptimal (if_optimal Unbounded) (go_optimal present) refl))

pub ranges_no_setup : (card : ℕ) (cards : List (List ℕ)) (machine : Machine) (print : SinkState) → machine.setup ≡ None →
    Executes linear_programming_of_128_bits Ranging card print print cards machine machine (refused_act card (Fault verb_fault.NoSetup))
ranges_no_setup card cards machine print none =
    quietly IsPresent (Gives linear_programming_of_128_bits) Ranging card cards machine print (λ position executed state s.
    gives_no_setup card state (subst (λ (kept : Option Setup). ShowsSetup machine.file kept state.setup) none s.setup))

module _ (card : ℕ) (cards : List (List ℕ)) (old : Machine) (setup : Setup) (is_setup : old.setup ≡ Some setup) (problem : Problem ℕ)
    (on_file : filed_under setup.name old.file ≡ Some problem) where
  module _ (position executed : ℕ) (state : State) (s : Represents cards old position executed state) where
    p : IsPresentOf problem setup state.setup
    p = present_at old.file setup state.setup problem on_file (subst (λ (kept : Option Setup). ShowsSetup old.file kept state.setup) is_setup s.setup)

    abbrev present : Present
    present = present_with problem setup.options p.opening p.steps

    not_optimal : (fault : VerbFault) → view_of verbs.Ranging old.mark ≡ Err fault →
        Gives linear_programming_of_128_bits card (verb_move Ranging card state) (stops (endings.VerbStop (record { fault = fault; card = card })))
    not_optimal fault is =
        gives_set_up card state present (stops (endings.VerbStop (record { fault = fault; card = card }))) p.is_viewed
        (gives_refused card state present old.mark fault s.mark is)

    module _ (new : Setup) (is_mark : old.mark ≡ Some Optimal) (ok : selected problem (choice_of old.cells setup.options) ≡ Ok setup.lp)
        (k : IsSameSetup setup new) where
      optimal_gives : (outcome : StatementOutcome) → Gives linear_programming_of_128_bits card (go_view card state present setup.lp) outcome →
          Gives linear_programming_of_128_bits card (verb_move Ranging card state) outcome
      optimal_gives outcome g =
          gives_set_up card state present outcome p.is_viewed
          (gives_found card verb_fault.NotSolved state.mark (go_marked card state present) Optimal outcome (s.mark ∙ is_mark)
          (gives_found card verb_fault.NotOptimal (if_optimal Optimal) (go_optimal card state present) Optimal outcome refl
          (gives_selected card (selected problem (choice_of state.cells setup.options)) (go_view card state present) setup.lp outcome
          (ap (λ (c : Cells). selected problem (choice_of c setup.options)) s.cells ∙ ok) g)))

      pub ranged_comes : (gain : Gain) (finding : Finding) → Shows Intervals problem setup gain finding →
          LeadsTo linear_programming_of_128_bits Ranging card cards position executed state (record old { setup = Some new }) gain
          (act_of old.cells card finding)
      unfolding linear_programming_of_128_bits
      ranged_comes _ _ (ranged {lines = lines} h) = (
        state,
        optimal_gives (printed card state lines)
            (inl (lines, subst (λ (b : Basis). IsRanged (record { problem = problem; lp = setup.lp }) b lines) (sym p.reached) h, refl)),
        still_stands card cards old setup is_setup problem on_file position executed state s new Optimal is_mark ok k,
      )
      ranged_comes _ _ (stopped {e = e} {place = place} h fit) =
          let same : matrix_of problem ≡ setup.lp.matrix = same_matrix problem (choice_of old.cells setup.options) setup.lp ok in
          optimal_gives (stops (endings.OverflowStop (record { evidence = e; place = option_map place_view place; card = card })))
          (inr (
            e,
            option_map place_view place,
            (
              subst (λ (bs : List Basis). IsEvidence (RangeStatement setup.lp) None 0 bs [] e (option_map place_view place)) (sym p.ends)
                  (h p.initial (lie_up_to problem setup state.setup p setup.lp same)),
              fit,
            ),
            refl,
          ))

  module _ where
    pub ranges_refused : (print : SinkState) (any : Machine) (fault : VerbFault) → view_of verbs.Ranging old.mark ≡ Err fault →
        Executes linear_programming_of_128_bits Ranging card print print cards old any (refused_act card (Fault fault))
    ranges_refused print any fault is =
        quietly IsPresent (Gives linear_programming_of_128_bits) Ranging card cards old print {new = any}
        (λ position executed state s. not_optimal position executed state s fault is)
