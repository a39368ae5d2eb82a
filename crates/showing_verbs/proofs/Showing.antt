-- What SOLUTION comes to.
use Rattle.std.proofs.Common.{◌≡◌, ℕ, List, [], ◌∷◌, ◌++◌, Option, None, Some, Result, Ok, Err, option_map, refl, sym, ap, subst, inl, inr, ◌∙◌}
use Rattle.job_devices.specs.States.{SinkState}
use Rattle.job_devices.specs.declared.device.WriteStop.{WriteStop}
use Rattle.job_devices.specs.Text.{Writes}
use Rattle.exact_values.specs.Rational.{ℚ}
use Rattle.lp_definitions.specs.LinearProgram.{Matrix, LinearProgram}
use Rattle.lp_definitions.specs.Basis.{Basics, basics_of, IsOptimalBasis}
use Rattle.lp_definitions.specs.Waypoints.{waypoint, KeepsWaypoints}
use Rattle.lp_model.specs.RatesState.{RatesState}
use Rattle.lp_definitions.specs.declared.Evidence.{Evidence}
use Rattle.simplex_definitions.specs.Statements.{Solution as SolutionStatement}
use Rattle.problem_definitions.specs.Problem.{Problem}
use Rattle.problem_file.specs.Filed.{Filed, filed_under}
use Rattle.basis_values.specs.Calls.{LieIn}
use Rattle.listing_tables.specs.Lines.{solution_lines}
use Rattle.listing_definitions.specs.Text.{report_text}
use Rattle.control_definitions.specs.Program.{SetupOptions, Solution as SolutionVerb}
use Rattle.selection_definitions.specs.Selection.{matrix_of, selected}
use Rattle.listing_definitions.specs.declared.Mark.{Mark}
use Rattle.listing_definitions.specs.declared.VerbFault.TheVariants as verb_fault
use Rattle.listing_definitions.specs.Report.{SolutionLines, Solution}
use Rattle.listing_definitions.specs.Ending as endings
use Rattle.question_definitions.specs.Answers.{Basis, Sheet, OfSolution}
use Rattle.control_definitions.specs.Cells.{Cells}
use Rattle.answer_definitions.specs.Sections.{IsSolutionOf}
use Rattle.answer_definitions.specs.Evidence.{IsEvidence}
use Rattle.listing_tables.specs.declared.sheet.Sheet.{Sheet as OwnSheet}
use Rattle.verb_answers.specs.Answers.{sheet_view}
use Rattle.verb_answers.specs.Stops.{SolutionRefused}
use Rattle.run_definitions.specs.State.{Present, State, choice_of, present_basis, path_of}
use Rattle.run_definitions.specs.Moves.{Gain, Nothing, Prints, StatementOutcome, next, stops, InAnswer, StatementMove, MayStop, Asks, Gives}
use Rattle.run_definitions.specs.Moves.{or_fault}
use Rattle.run_definitions.specs.Verbs.{or_selection_fault, verb_move}
use Rattle.run_machine.specs.declared.act.Halt.{Halt}
use Rattle.run_machine.specs.declared.act.Halt.TheVariants as halt
use Rattle.run_machine.specs.declared.end.Place.{Place as OwnPlace}
use Rattle.run_machine.specs.declared.finding.Finding.{Finding}
use Rattle.run_machine.specs.declared.finding.Finding.TheVariants.{Overflow, Printed}
use Rattle.setup_verbs.specs.Machines.{Machine}
use Rattle.setup_verbs.specs.Kept.{Setup}
use Rattle.run_machine.specs.declared.selecting.Refusal.TheVariants.{Fault}
use Rattle.run_machine.specs.Ends.{place_view}
use Rattle.fitting_answers.specs.Fitting.{SolutionFits, EvidenceFits}
use Rattle.fitting_answers.specs.Real.{linear_programming_of_128_bits}
use Rattle.setup_verbs.specs.Standing.{IsPresent, IsSolved, ShowsSetup, Represents}
use Rattle.setup_verbs.specs.Statements.{LeadsTo, Executes}
use Rattle.run_machine.specs.Choosing.{refused_act, IsSelected}
use Rattle.run_machine.specs.Findings.{ReportsFinding, act_of}
use Rattle.showing_verbs.specs.Shown.{LinesFound, viewed, overflows, Shows, IsSameSetup}
use Rattle.showing_verbs.specs.declared.present.View.{View}
use Rattle.showing_verbs.specs.declared.present.View.TheVariants.{Lines}
use Rattle.setup_verbs.proofs.Selected.{same_matrix}
use Rattle.run_machine.proofs.Giving.{quietly}
use Rattle.setup_verbs.proofs.Giving.{gives_fault, gives_found, gives_selected}
use Rattle.bounded_primal.proofs.Within.{lie_same}
use Rattle.setup_verbs.proofs.Present.{IsPresentOf, lie_up_to, one_problem, present_at, present_with}

-- ---- the lines of a basis

-- they are printed or broken off
module _ {print_old print_new : SinkState} (sheet : OwnSheet) (s : Basis) (before : List Basics) (mark : Mark) (point prices slack list : List ℚ)
    (same : list ≡ slack)
    (is_viewed : IsSolutionOf (sheet_view sheet) s (solution_lines sheet.problem.now sheet.lp.now s point prices slack))
    (fit : SolutionFits (solution_lines sheet.problem.now sheet.lp.now s point prices slack)) where
  pub lines_reported : Writes {T = Unit {0}} print_old print_new (Ok tt)
      (report_text (Solution mark (solution_lines sheet.problem.now sheet.lp.now s point prices list))) →
      ReportsFinding (LinesFound (sheet_view sheet) s before mark) print_old print_new (Ok Printed)
  lines_reported writes = record {
    gain = Prints (Solution mark (solution_lines sheet.problem.now sheet.lp.now s point prices slack));
    holds = viewed is_viewed fit;
    writes =
        subst (λ (xs : List ℚ). Writes {T = Unit {0}} print_old print_new (Ok tt)
        (report_text (Solution mark (solution_lines sheet.problem.now sheet.lp.now s point prices xs)))) same writes;
  }

  pub lines_cut : (stop : WriteStop) →
      Writes {T = Unit {0}} print_old print_new (Err stop) (report_text (Solution mark (solution_lines sheet.problem.now sheet.lp.now s point prices list))) →
      ReportsFinding (LinesFound (sheet_view sheet) s before mark) print_old print_new (Err (halt.Print stop))
  lines_cut stop writes = record {
    gain = Prints (Solution mark (solution_lines sheet.problem.now sheet.lp.now s point prices slack));
    finding = Printed;
    holds = viewed is_viewed fit;
    writes =
        subst (λ (xs : List ℚ). Writes {T = Unit {0}} print_old print_new (Err stop)
        (report_text (Solution mark (solution_lines sheet.problem.now sheet.lp.now s point prices xs)))) same writes;
  }

pub lines_overflow : (sheet : OwnSheet) (s : Basis) (before after : List Basics) (mark : Mark) (e : Evidence) → SolutionRefused sheet.lp.now before s after e →
    (place : OwnPlace) → place_view place ≡ record { basis = s; way = waypoint (basics_of s) after e.way } → EvidenceFits e →
    LinesFound (sheet_view sheet) s before mark Nothing (Overflow e (Some place))
lines_overflow sheet s before after mark e o place is fit =
    overflows (λ earlier lie. subst (λ (p : endings.Place). IsEvidence (SolutionStatement sheet.lp.now) None 0 (earlier ++ s ∷ []) [] e (Some p)) (sym is)
    (o.shows earlier lie)) fit

-- ---- a setup

pub still_selected : (cells : Cells) (file : Filed) (setup new : Setup) → IsSameSetup setup new →
    IsSelected file setup.name (choice_of cells setup.options) setup.lp → IsSelected file new.name (choice_of cells new.options) new.lp
still_selected cells file setup new k h = λ problem on_file.
    ap (λ (o : SetupOptions). selected problem (choice_of cells o)) k.options ∙ h problem (ap (λ name. filed_under name file) (sym k.name) ∙ on_file)
    ∙ ap Ok (sym k.lp)

pub still_solved : (cells : Cells) (file : Filed) (setup new : Setup) (mark : Mark) → IsSameSetup setup new → IsSolved mark cells.xobj cells.xrhs file setup →
    IsSolved mark cells.xobj cells.xrhs file new
still_solved cells file setup new mark k h = record {
  is_selected = still_selected cells file setup new k h.is_selected;
  optimal =
      λ is. subst (λ (p : LinearProgram). IsOptimalBasis p new.basis) (sym k.lp)
      (subst (λ (b : Basis). IsOptimalBasis setup.lp b) (sym k.basis) (h.optimal is));
}

-- a call at its basis changes the engine of a setup alone
pub same_setup : {setup old : Setup} → setup ≡ old → (engine : RatesState) →
    KeepsWaypoints setup.lp.matrix (basics_of setup.basis) setup.engine.waypoints (basics_of setup.basis) engine.waypoints →
    IsSameSetup old (record setup { engine = engine })
same_setup {setup = setup} is_old engine keeps =
    subst (λ (s : Setup). IsSameSetup s (record setup { engine = engine })) is_old
    (record { name = refl; options = refl; lp = refl; basis = refl; keeps = keeps })

-- the setup that code has opened, which is the one that is spoken of
module _ (file : Filed) {setup old : Setup} (is_old : setup ≡ old) (view : View) (there : Problem ℕ) (is_there : filed_under setup.name file ≡ Some there) where
  pub shown_at : (print_old print_new : SinkState) (result : Result Finding Halt) → ReportsFinding (Shows view there setup) print_old print_new result →
      (problem : Problem ℕ) → filed_under old.name file ≡ Some problem → ReportsFinding (Shows view problem old) print_old print_new result
  shown_at print_old print_new result t problem on_file =
      subst (λ (s : Setup). ReportsFinding (Shows view problem s) print_old print_new result) is_old
      (subst (λ (q : Problem ℕ). ReportsFinding (Shows view q setup) print_old print_new result)
      (one_problem file setup there problem is_there (ap (λ (s : Setup). filed_under s.name file) is_old ∙ on_file)) t)

-- ---- the statement

abbrev pub sheet_of : Present → LinearProgram → Sheet
sheet_of present lp = record { problem = present.problem; lp = lp }

module _ (card : ℕ) (state : State) where
  abbrev printed : Mark → SolutionLines → StatementOutcome
  printed mark lines = next (Prints (Solution mark lines)) state

  abbrev go_view : Present → Mark → LinearProgram → StatementMove
  go_view present mark lp =
      MayStop (InAnswer (OfSolution mark) (sheet_of present lp) (path_of present))
      (Asks (OfSolution mark) (sheet_of present lp) (present_basis present) (printed mark))

  abbrev go_marked : Present → Mark → StatementMove
  go_marked present mark = or_selection_fault card (selected present.problem (choice_of state.cells present.options)) (go_view present mark)

  abbrev go_set_up : Present → StatementMove
  go_set_up present = or_fault card verb_fault.NotSolved state.mark (go_marked present)

  solution_gives : (outcome : StatementOutcome) → Gives linear_programming_of_128_bits card (or_fault card verb_fault.NoSetup state.setup go_set_up) outcome →
      Gives linear_programming_of_128_bits card (verb_move SolutionVerb card state) outcome
  unfolding linear_programming_of_128_bits verb_move
  solution_gives outcome g = g

  gives_no_setup : state.setup ≡ None →
      Gives linear_programming_of_128_bits card (verb_move SolutionVerb card state)
      (stops (endings.VerbStop (record { fault = verb_fault.NoSetup; card = card })))
  gives_no_setup e =
      solution_gives (stops (endings.VerbStop (record { fault = verb_fault.NoSetup; card = card })))
      (gives_fault card verb_fault.NoSetup state.setup go_set_up e)

  gives_set_up : (present : Present) (outcome : StatementOutcome) → state.setup ≡ Some present →
      Gives linear_programming_of_128_bits card (go_set_up present) outcome →
      Gives linear_programming_of_128_bits card (verb_move SolutionVerb card state) outcome
  gives_set_up present outcome e given = solution_gives outcome (gives_found card verb_fault.NoSetup state.setup go_set_up present outcome e given)

pub solution_no_setup : (card : ℕ) (cards : List (List ℕ)) (machine : Machine) (print : SinkState) → machine.setup ≡ None →
    Executes linear_programming_of_128_bits SolutionVerb card print print cards machine machine (refused_act card (Fault verb_fault.NoSetup))
solution_no_setup card cards machine print none =
    quietly IsPresent (Gives linear_programming_of_128_bits) SolutionVerb card cards machine print (λ position executed state s.
    gives_no_setup card state (subst (λ (kept : Option Setup). ShowsSetup machine.file kept state.setup) none s.setup))

module _ (card : ℕ) (cards : List (List ℕ)) (old : Machine) (setup : Setup) (is_setup : old.setup ≡ Some setup) (problem : Problem ℕ)
    (on_file : filed_under setup.name old.file ≡ Some problem) where
  module _ (position executed : ℕ) (state : State) (s : Represents cards old position executed state) where
    p : IsPresentOf problem setup state.setup
    p = present_at old.file setup state.setup problem on_file (subst (λ (kept : Option Setup). ShowsSetup old.file kept state.setup) is_setup s.setup)

    abbrev present : Present
    present = present_with problem setup.options p.opening p.steps

    not_solved : old.mark ≡ None →
        Gives linear_programming_of_128_bits card (verb_move SolutionVerb card state)
        (stops (endings.VerbStop (record { fault = verb_fault.NotSolved; card = card })))
    not_solved none =
        gives_set_up card state present (stops (endings.VerbStop (record { fault = verb_fault.NotSolved; card = card }))) p.is_viewed
        (gives_fault card verb_fault.NotSolved state.mark (go_marked card state present) (s.mark ∙ none))

    module _ (new : Setup) (mark : Mark) (is_mark : old.mark ≡ Some mark) (ok : selected problem (choice_of old.cells setup.options) ≡ Ok setup.lp)
        (k : IsSameSetup setup new) where
      marked_gives : (outcome : StatementOutcome) → Gives linear_programming_of_128_bits card (go_view card state present mark setup.lp) outcome →
          Gives linear_programming_of_128_bits card (verb_move SolutionVerb card state) outcome
      marked_gives outcome g =
          gives_set_up card state present outcome p.is_viewed
          (gives_found card verb_fault.NotSolved state.mark (go_marked card state present) mark outcome (s.mark ∙ is_mark)
          (gives_selected card (selected problem (choice_of state.cells setup.options)) (go_view card state present mark) setup.lp outcome
          (ap (λ (c : Cells). selected problem (choice_of c setup.options)) s.cells ∙ ok) g))

      pub still_stands : Represents cards (record old { setup = Some new }) position executed state
      still_stands =
          let same : matrix_of problem ≡ setup.lp.matrix = same_matrix problem (choice_of old.cells setup.options) setup.lp ok in
          let lie : LieIn setup.lp.matrix new.engine.waypoints (p.initial ++ setup.basis ∷ []) =
          lie_same setup.lp.matrix p.initial setup.basis setup.engine.waypoints new.engine.waypoints k.keeps
          (lie_up_to problem setup state.setup p setup.lp same) in
          record {
            is_position = s.is_position;
            is_executed = s.is_executed;
            cells = s.cells;
            file = s.file;
            decks = s.decks;
            setup = (
              present,
              p.is_viewed,
              record {
                on_file = ap (λ name. filed_under name old.file) k.name ∙ on_file;
                has_options = sym k.options;
                reached = p.reached ∙ sym k.basis;
                lie =
                    subst (λ (bs : List Basis). LieIn (matrix_of problem) new.engine.waypoints bs) (sym p.ends)
                    (subst (λ (a : Matrix). LieIn a new.engine.waypoints (p.initial ++ setup.basis ∷ [])) (sym same) lie);
              },
            );
            mark = s.mark;
          }

      pub reported_comes : (gain : Gain) (finding : Finding) → Shows (Lines mark) problem setup gain finding →
          LeadsTo linear_programming_of_128_bits SolutionVerb card cards position executed state (record old { setup = Some new }) gain
          (act_of old.cells card finding)
      unfolding linear_programming_of_128_bits
      reported_comes _ _ (viewed {lines = lines} h fit) = (
        state,
        marked_gives (printed card state mark lines)
            (inl (
              lines,
              (subst (λ (b : Basis). IsSolutionOf (record { problem = problem; lp = setup.lp }) b lines) (sym p.reached) h, fit),
              refl,
            )),
        still_stands,
      )
      reported_comes _ _ (overflows {e = e} {place = place} h fit) =
          let same : matrix_of problem ≡ setup.lp.matrix = same_matrix problem (choice_of old.cells setup.options) setup.lp ok in
          marked_gives (stops (endings.OverflowStop (record { evidence = e; place = option_map place_view place; card = card })))
          (inr (
            e,
            option_map place_view place,
            (
              subst (λ (bs : List Basis). IsEvidence (SolutionStatement setup.lp) None 0 bs [] e (option_map place_view place)) (sym p.ends)
                  (h p.initial (lie_up_to problem setup state.setup p setup.lp same)),
              fit,
            ),
            refl,
          ))

  module _ where
    pub solution_not_solved : (print : SinkState) (any : Machine) → old.mark ≡ None →
        Executes linear_programming_of_128_bits SolutionVerb card print print cards old any (refused_act card (Fault verb_fault.NotSolved))
    solution_not_solved print any none =
        quietly IsPresent (Gives linear_programming_of_128_bits) SolutionVerb card cards old print {new = any}
        (λ position executed state s. not_solved position executed state s none)
