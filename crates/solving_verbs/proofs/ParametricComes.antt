-- What PARAOBJ and PARARHS do by what they find.
use Rattle.std.proofs.Common.{◌≡◌, ℕ, inl, inr, List, [], Option, None, Some, Ok, Err, refl, sym, ap, subst, ◌∙◌, option_map}
use Rattle.std.specs.Prelude.{option_and_then}
use Rattle.job_devices.specs.States.{SinkState}
use Rattle.exact_values.specs.Rational.{ℚ}
use Rattle.lp_definitions.specs.LinearProgram.{LinearProgram}
use Rattle.lp_definitions.specs.declared.Evidence.{Evidence}
use Rattle.problem_definitions.specs.Problem.{Problem}
use Rattle.problem_file.specs.Filed.{filed_under}
use Rattle.control_definitions.specs.Cells.{Cells, steps_allowed}
use Rattle.selection_definitions.specs.Selection.{selected}
use Rattle.listing_definitions.specs.declared.VerbFault.{VerbFault}
use Rattle.listing_definitions.specs.declared.VerbFault.TheVariants.{NoSetup, NoParmax, ParmaxBelow}
use Rattle.listing_definitions.specs.Report.{Solved}
use Rattle.listing_definitions.specs.Ending as endings
use Rattle.question_definitions.specs.Answers.{Basis, Sheet, Changing, parametric_solver, ParametricRun, OfParametricRun, ParametricRunEnd, Opening, Chained}
use Rattle.question_definitions.specs.Answers.{ParametricRunLimit}
use Rattle.fitting_answers.specs.Fitting.{EvidenceFits, ParametricRunEndFits}
use Rattle.fitting_answers.specs.Real.{linear_programming_of_128_bits}
use Rattle.answer_definitions.specs.ParametricRuns.{IsParametricRun}
use Rattle.answer_definitions.specs.Evidence.{OverflowsAt}
use Rattle.run_definitions.specs.State.{Present, State, choice_of, gone_through}
use Rattle.run_definitions.specs.Moves.{Gain, punched_by, StatementOutcome, stops, StatementMove, MayStop, Gives, or_fault, InSelection, SelectionOverflows}
use Rattle.run_definitions.specs.Verbs.{mark_of, last_value, not_less, or_selection_fault, asks, after_parametric_run, verb_move}
use Rattle.run_machine.specs.declared.act.Act.{Act}
use Rattle.run_machine.specs.declared.act.Halt.{Halt}
use Rattle.run_machine.specs.declared.finding.Finding.{Finding}
use Rattle.setup_verbs.specs.Machines.{Machine}
use Rattle.setup_verbs.specs.Kept.{Setup}
use Rattle.run_machine.specs.declared.selecting.Refusal.TheVariants.{Fault}
use Rattle.parametric_request.specs.declared.request.ParametricVerb.{ParametricVerb}
use Rattle.parametric_request.specs.declared.request.ParametricVerb.TheVariants.{Paraobj, Pararhs}
use Rattle.run_machine.specs.Choosing.{HasSelectionFault, HasSelectionOverflow, refused_act}
use Rattle.run_machine.specs.Ends.{place_view}
use Rattle.run_machine.specs.Standing.{AreDemands}
use Rattle.setup_verbs.specs.Standing.{IsPresent, IsReady, ShowsSetup, Represents}
use Rattle.setup_verbs.specs.Statements.{LeadsTo, Executes}
use Rattle.run_machine.specs.Findings.{ReportsFinding, act_of}
use Rattle.parametric_request.specs.Asking.{verb_of, name_moved, change_of, change_fault, IsAsked, no_last, below, IsAskFault, no_change, no_value}
use Rattle.solving_verbs.specs.ParametricVerbs.{ParametricRunReaches, ParametricRunOverflows, opened, chained, at_limit, overflows, ParametricRuns, unselected}
use Rattle.solving_verbs.specs.ParametricVerbs.{too_large, not_asked, run_through, cells_left}
use Rattle.setup_verbs.proofs.Selected.{same_matrix}
use Rattle.run_machine.proofs.Giving.{quietly}
use Rattle.setup_verbs.proofs.Giving.{gives_fault, gives_found, gives_unselected, gives_selected}
use Rattle.setup_verbs.proofs.Reporting.{reported_executes, cut_executes}
use Rattle.solving_verbs.proofs.Present.{goes_through}
use Rattle.solving_verbs.proofs.Demanded.{verdict_comes}
use Rattle.setup_verbs.proofs.Present.{IsPresentOf, lie_up_to, present_at, present_with}

no_cards_by : (problem : Problem ℕ) (cells : Cells) (verb : ParametricVerb) (setup new : Setup) (gain : Gain) (finding : Finding) →
    ParametricRuns problem cells verb setup new gain finding → punched_by gain ≡ []
no_cards_by problem cells verb setup new _ _ (unselected h) = refl
no_cards_by problem cells verb setup new _ _ (too_large h) = refl
no_cards_by problem cells verb setup new _ _ (not_asked ok h) = refl
no_cards_by problem cells verb setup new _ _ (run_through ok a e f (opened r fit)) = refl
no_cards_by problem cells verb setup new _ _ (run_through ok a e f (chained r fit)) = refl
no_cards_by problem cells verb setup new _ _ (run_through ok a e f (at_limit r)) = refl
no_cards_by problem cells verb setup new _ _ (run_through ok a e f (overflows r fit)) = refl

-- ---- the verb's tests

abbrev sheet_of : Present → LinearProgram → Sheet
sheet_of present lp = record { problem = present.problem; lp = lp }

module _ (verb : ParametricVerb) (card : ℕ) (state : State) (present : Present) where
  -- the run from the present basis
  abbrev run_move : LinearProgram → ParametricRun → StatementMove
  run_move lp parametric_run = asks (OfParametricRun parametric_run) (sheet_of present lp) present (after_parametric_run card parametric_run present state)

  abbrev up_to : LinearProgram → Changing → ℚ → StatementMove
  up_to lp changing to = run_move lp (record { changing = changing; from = state.cells.xparam; to = to; limit = steps_allowed state.cells })

  abbrev with_last : LinearProgram → Changing → ℚ → StatementMove
  with_last lp changing last = or_fault card ParmaxBelow (not_less state.cells.xparam last) (up_to lp changing)

  abbrev with_change : LinearProgram → Changing → StatementMove
  with_change lp changing = or_fault card NoParmax state.cells.xparmax (with_last lp changing)

  abbrev tested_move : LinearProgram → StatementMove
  tested_move lp = or_fault card (change_fault verb) (option_and_then (change_of verb present.problem) (name_moved verb state.cells)) (with_change lp)

  abbrev parametric_run_move : LinearProgram → StatementMove
  parametric_run_move lp = MayStop (InSelection present.problem (choice_of state.cells present.options)) (tested_move lp)

  abbrev with_setup : StatementMove
  with_setup = or_selection_fault card (selected present.problem (choice_of state.cells present.options)) parametric_run_move

  asked_gives : (lp : LinearProgram) (parametric_run : ParametricRun) → IsAsked verb present.problem state.cells parametric_run → (outcome : StatementOutcome) →
      Gives linear_programming_of_128_bits card (run_move lp parametric_run) outcome → Gives linear_programming_of_128_bits card (tested_move lp) outcome
  asked_gives lp parametric_run a outcome g =
      let same : parametric_run ≡ record {
        changing = parametric_run.changing;
        from = state.cells.xparam;
        to = parametric_run.to;
        limit =
            steps_allowed state.cells;
      } =
      λ i. record { changing = parametric_run.changing; from = a.is_first i; to = parametric_run.to; limit = a.is_limit i } in
      gives_found card (change_fault verb) (option_and_then (change_of verb present.problem) (name_moved verb state.cells))
      (with_change lp) parametric_run.changing outcome a.changes
      (gives_found card NoParmax state.cells.xparmax (with_last lp parametric_run.changing) a.is_last.last outcome a.is_last.is_moved
      (gives_found card ParmaxBelow (not_less state.cells.xparam a.is_last.last) (up_to lp parametric_run.changing) parametric_run.to outcome a.is_last.is_last
      (subst (λ (s : ParametricRun). Gives linear_programming_of_128_bits card (run_move lp s) outcome) same g)))

  abbrev faulted : VerbFault → StatementOutcome
  faulted fault = stops (endings.VerbStop (record { fault = fault; card = card }))

  refused_gives : (lp : LinearProgram) (fault : VerbFault) → IsAskFault verb present.problem state.cells fault →
      Gives linear_programming_of_128_bits card (tested_move lp) (faulted fault)
  refused_gives lp _ (no_change none) =
      gives_fault card (change_fault verb) (option_and_then (change_of verb present.problem) (name_moved verb state.cells)) (with_change lp) none
  refused_gives lp _ (no_value {changing = changing} changes (no_last none)) =
      gives_found card (change_fault verb) (option_and_then (change_of verb present.problem) (name_moved verb state.cells)) (with_change lp) changing
      (faulted NoParmax) changes
      (gives_fault card NoParmax state.cells.xparmax (with_last lp changing) none)
  refused_gives lp _ (no_value {changing = changing} changes (below {last = last} moved less)) =
      gives_found card (change_fault verb) (option_and_then (change_of verb present.problem) (name_moved verb state.cells)) (with_change lp) changing
      (faulted ParmaxBelow) changes
      (gives_found card NoParmax state.cells.xparmax (with_last lp changing) last (faulted ParmaxBelow) moved
      (gives_fault card ParmaxBelow (not_less state.cells.xparam last) (up_to lp changing) less))

parametric_run_gives : (verb : ParametricVerb) (card : ℕ) (state : State) (outcome : StatementOutcome) →
    Gives linear_programming_of_128_bits card (or_fault card NoSetup state.setup (with_setup verb card state)) outcome →
    Gives linear_programming_of_128_bits card (verb_move (verb_of verb) card state) outcome
unfolding linear_programming_of_128_bits verb_move
parametric_run_gives Paraobj card state outcome g = g
parametric_run_gives Pararhs card state outcome g = g

pub parametric_run_no_setup : (verb : ParametricVerb) (card : ℕ) (cards : List (List ℕ)) (machine : Machine) (print : SinkState) → machine.setup ≡ None →
    Executes linear_programming_of_128_bits (verb_of verb) card print print cards machine machine (refused_act card (Fault NoSetup))
parametric_run_no_setup verb card cards machine print none =
    quietly IsPresent (Gives linear_programming_of_128_bits) (verb_of verb) card cards machine print (λ position executed state s.
    parametric_run_gives verb card state (stops (endings.VerbStop (record { fault = NoSetup; card = card })))
    (gives_fault card NoSetup state.setup (with_setup verb card state)
    (subst (λ (kept : Option Setup). ShowsSetup machine.file kept state.setup) none s.setup)))

-- ---- with a setup, whose problem is on file

module _ (verb : ParametricVerb) (card : ℕ) (cards : List (List ℕ)) (old : Machine) (setup new : Setup) (is_setup : old.setup ≡ Some setup)
    (problem : Problem ℕ) (on_file : filed_under setup.name old.file ≡ Some problem)
    (demands : AreDemands old.cells) (position executed : ℕ) (state : State) (s : Represents cards old position executed state) where
  p : IsPresentOf problem setup state.setup
  p = present_at old.file setup state.setup problem on_file (subst (λ (kept : Option Setup). ShowsSetup old.file kept state.setup) is_setup s.setup)

  abbrev present : Present
  present = present_with problem setup.options p.opening p.steps

  abbrev after : Cells → Machine
  after cells = record old { setup = Some new; mark = None; cells = cells }

  setup_gives : (outcome : StatementOutcome) → Gives linear_programming_of_128_bits card (with_setup verb card state present) outcome →
      Gives linear_programming_of_128_bits card (verb_move (verb_of verb) card state) outcome
  setup_gives outcome g =
      parametric_run_gives verb card state outcome (gives_found card NoSetup state.setup (with_setup verb card state) present outcome p.is_viewed g)

  selected_gives : (lp : LinearProgram) → selected problem (choice_of old.cells setup.options) ≡ Ok lp → (outcome : StatementOutcome) →
      Gives linear_programming_of_128_bits card (parametric_run_move verb card state present lp) outcome →
      Gives linear_programming_of_128_bits card (verb_move (verb_of verb) card state) outcome
  selected_gives lp ok outcome g =
      setup_gives outcome (gives_selected card (selected problem (choice_of state.cells setup.options)) (parametric_run_move verb card state present) lp outcome
      (ap (λ (c : Cells). selected problem (choice_of c setup.options)) s.cells ∙ ok) g)

  fault_gives : (fault : VerbFault) → HasSelectionFault problem (choice_of old.cells setup.options) fault →
      Gives linear_programming_of_128_bits card (verb_move (verb_of verb) card state) (faulted verb card state present fault)
  fault_gives fault h =
      setup_gives (faulted verb card state present fault)
      (gives_unselected card (selected problem (choice_of state.cells setup.options)) (parametric_run_move verb card state present) h.why fault
      (ap (λ (c : Cells). selected problem (choice_of c setup.options)) s.cells ∙ h.is_refused) h.is_fault)

  selection_gives : (e : Evidence) → HasSelectionOverflow problem (choice_of old.cells setup.options) e →
      Gives linear_programming_of_128_bits card (verb_move (verb_of verb) card state)
      (stops (endings.OverflowStop (record { evidence = e; place = None; card = card })))
  selection_gives e h =
      selected_gives h.lp h.is_selected (stops (endings.OverflowStop (record { evidence = e; place = None; card = card })))
      (inr (e, None, (subst (λ (c : Cells). SelectionOverflows problem (choice_of c setup.options) e None) (sym s.cells) (h.is_refusal, refl)), refl))

  not_asked_gives : (lp : LinearProgram) → selected problem (choice_of old.cells setup.options) ≡ Ok lp → (fault : VerbFault) →
      IsAskFault verb problem old.cells fault →
      Gives linear_programming_of_128_bits card (verb_move (verb_of verb) card state) (faulted verb card state present fault)
  not_asked_gives lp ok fault h =
      selected_gives lp ok (faulted verb card state present fault)
      (inl (refused_gives verb card state present lp fault (subst (λ (c : Cells). IsAskFault verb problem c fault) (sym s.cells) h)))

  module _ (lp : LinearProgram) (ok : selected problem (choice_of old.cells setup.options) ≡ Ok lp) (parametric_run : ParametricRun)
      (a : IsAsked verb problem old.cells parametric_run) where
    abbrev sheet : Sheet
    sheet = record { problem = problem; lp = lp }

    run_gives : (outcome : StatementOutcome) → Gives linear_programming_of_128_bits card (run_move verb card state present lp parametric_run) outcome →
        Gives linear_programming_of_128_bits card (verb_move (verb_of verb) card state) outcome
    run_gives outcome g =
        selected_gives lp ok outcome
        (inl (asked_gives verb card state present lp parametric_run (subst (λ (c : Cells). IsAsked verb problem c parametric_run) (sym s.cells) a) outcome g))

    run_through_gives : (answer : ParametricRunEnd) → IsParametricRun sheet setup.basis parametric_run answer → ParametricRunEndFits answer →
        Gives linear_programming_of_128_bits card (verb_move (verb_of verb) card state) (after_parametric_run card parametric_run present state answer)
    unfolding linear_programming_of_128_bits
    run_through_gives answer right fit =
        run_gives (after_parametric_run card parametric_run present state answer)
        (inl (answer, (subst (λ (b : Basis). IsParametricRun sheet b parametric_run answer) (sym p.reached) right, fit), refl))

    overflow_gives : (e : Evidence) (place : Option endings.Place) →
        ParametricRunOverflows sheet setup.basis new.basis parametric_run setup.engine.waypoints new.engine.waypoints e place → EvidenceFits e →
        Gives linear_programming_of_128_bits card (verb_move (verb_of verb) card state)
        (stops (endings.OverflowStop (record { evidence = e; place = place; card = card })))
    unfolding linear_programming_of_128_bits
    overflow_gives e place h fit =
        run_gives (stops (endings.OverflowStop (record { evidence = e; place = place; card = card })))
        (inr (
          e,
          place,
          (
            subst (λ (bs : List Basis). OverflowsAt (OfParametricRun parametric_run) sheet bs e place) (sym p.ends)
                (h p.initial (lie_up_to problem setup state.setup p lp (same_matrix problem (choice_of old.cells setup.options) lp ok))),
            fit,
          ),
          refl,
        ))

    after_stands : new.name ≡ setup.name → new.options ≡ setup.options → (bases : List Basis) (end : ParametricRunEnd) →
        ParametricRunReaches sheet setup.basis new.basis parametric_run setup.engine.waypoints new.engine.waypoints bases end →
        (theirs own : Cells) → theirs ≡ own →
        Represents cards (after own) position executed (record state { setup = Some (gone_through bases present); mark = None; cells = theirs })
    after_stands same_name same_options bases end r theirs own same_cells =
        let same = same_matrix problem (choice_of old.cells setup.options) lp ok in
        record {
          is_position = s.is_position;
          is_executed = s.is_executed;
          cells = same_cells;
          file = s.file;
          decks = s.decks;
          setup =
              goes_through problem setup state.setup p lp same old.file new bases on_file same_name same_options r.leads
              (r.lie p.initial (lie_up_to problem setup state.setup p lp same));
          mark = refl;
        }

  pub found_comes : (gain : Gain) (finding : Finding) → ParametricRuns problem old.cells verb setup new gain finding →
      LeadsTo linear_programming_of_128_bits (verb_of verb) card cards position executed state (after (cells_left finding old.cells)) gain
      (act_of (cells_left finding old.cells) card finding)
  found_comes _ _ (unselected {fault = fault} h) = fault_gives fault h
  found_comes _ _ (too_large {e = e} h) = selection_gives e h
  found_comes _ _ (not_asked {lp = lp} {fault = fault} ok h) = not_asked_gives lp ok fault h
  found_comes _ _
      (run_through {lp = lp} {parametric_run = parametric_run} ok a same_name same_options (opened {bases = bases} {verdict = verdict} {check = check} r fit)) =
      verdict_comes card cards (after old.cells) position executed (verb_move (verb_of verb) card state)
      (Solved (parametric_solver parametric_run.changing) verdict check) (record state { setup = Some (gone_through bases present); mark = None })
      (after_stands lp ok parametric_run a same_name same_options bases (Opening bases verdict check) r state.cells old.cells s.cells) old.cells demands s.cells
      (mark_of verdict)
      (run_through_gives lp ok parametric_run a (Opening bases verdict check) r.reaches fit)
  found_comes _ _
      (run_through {lp = lp} {parametric_run = parametric_run} ok a same_name same_options
      (chained {bases = bases} {intervals = intervals} {end = end} r fit)) = (
        record state { setup = Some (gone_through bases present); mark = None; cells = record (state.cells) { xparam = last_value end } },
        run_through_gives lp ok parametric_run a (Chained bases intervals end) r.reaches fit,
        after_stands lp ok parametric_run a same_name same_options bases (Chained bases intervals end) r (record (state.cells) { xparam = last_value end })
            (record (old.cells) { xparam = last_value end })
            (ap (λ (c : Cells). record c { xparam = last_value end }) s.cells),
      )
  found_comes _ _ (run_through {lp = lp} {parametric_run = parametric_run} ok a same_name same_options (at_limit right)) =
      subst (λ (c : Cells). Gives linear_programming_of_128_bits card (verb_move (verb_of verb) card state)
      (stops (endings.LimitStop (record { limit = steps_allowed c; card = card })))) s.cells
      (run_through_gives lp ok parametric_run a ParametricRunLimit right tt)
  found_comes _ _ (run_through {lp = lp} {parametric_run = parametric_run} ok a same_name same_options (overflows {e = e} {place = place} h fit)) =
      overflow_gives lp ok parametric_run a e (option_map place_view place) h fit

module _ (verb : ParametricVerb) (card : ℕ) (print_old print_new : SinkState) (cards : List (List ℕ)) (old : Machine) (setup new : Setup)
    (is_setup : old.setup ≡ Some setup)
    (ready : IsReady old.file setup) (demands : AreDemands old.cells) where
  abbrev left_by : Finding → Machine
  left_by finding = record old { setup = Some new; mark = None; cells = cells_left finding old.cells }

  pub parametric_run_found : (finding : Finding) (cells : Cells) (then : Act) → cells ≡ cells_left finding old.cells → then ≡ act_of cells card finding →
      ReportsFinding (ParametricRuns ready.problem old.cells verb setup new) print_old print_new (Ok finding) →
      Executes linear_programming_of_128_bits (verb_of verb) card print_old print_new cards old (record old { setup = Some new; mark = None; cells = cells })
      (Ok then)
  parametric_run_found finding cells then e f t =
      subst (λ (a : Act). Executes linear_programming_of_128_bits (verb_of verb) card print_old print_new cards old
      (record old { setup = Some new; mark = None; cells = cells }) (Ok a)) (sym f)
      (subst (λ (c : Cells). Executes linear_programming_of_128_bits (verb_of verb) card print_old print_new cards old
      (record old { setup = Some new; mark = None; cells = c }) (Ok (act_of c card finding))) (sym e)
      (reported_executes (verb_of verb) card cards old (ParametricRuns ready.problem old.cells verb setup new) left_by
      (λ found. act_of (cells_left found old.cells) card found)
      (no_cards_by ready.problem old.cells verb setup new)
      (λ gain found h position executed state s. found_comes verb card cards old setup new is_setup ready.problem ready.on_file demands position executed
      state s gain found h) print_old print_new finding t))

  pub parametric_run_cut : (any : Machine) (h : Halt) → ReportsFinding (ParametricRuns ready.problem old.cells verb setup new) print_old print_new (Err h) →
      Executes linear_programming_of_128_bits (verb_of verb) card print_old print_new cards old any (Err h)
  parametric_run_cut any h t =
      cut_executes (verb_of verb) card cards old (ParametricRuns ready.problem old.cells verb setup new) left_by
      (λ found. act_of (cells_left found old.cells) card found)
      (no_cards_by ready.problem old.cells verb setup new)
      (λ gain found h position executed state s. found_comes verb card cards old setup new is_setup ready.problem ready.on_file demands position executed
      state s gain found h) print_old print_new any h t
