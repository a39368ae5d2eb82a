-- What PRIMAL and DUAL do by what they find.
use Rattle.std.proofs.Common.{◌≡◌, ℕ, inl, inr, List, [], Option, None, Some, Ok, Err, refl, sym, ap, subst, ◌∙◌, option_map}
use Rattle.job_devices.specs.States.{SinkState}
use Rattle.lp_definitions.specs.LinearProgram.{LinearProgram}
use Rattle.lp_definitions.specs.declared.Evidence.{Evidence}
use Rattle.problem_definitions.specs.Problem.{Problem}
use Rattle.problem_file.specs.Filed.{filed_under}
use Rattle.control_definitions.specs.Cells.{Cells, steps_allowed}
use Rattle.selection_definitions.specs.Selection.{selected}
use Rattle.listing_definitions.specs.declared.Mark.{Mark}
use Rattle.listing_definitions.specs.declared.VerbFault.{VerbFault}
use Rattle.listing_definitions.specs.declared.VerbFault.TheVariants.{NoSetup}
use Rattle.listing_definitions.specs.Report.{PathVerdict, Check, Solved}
use Rattle.listing_definitions.specs.Ending as endings
use Rattle.question_definitions.specs.Answers.{Basis, Sheet, OfPath, PathEnd, Reached, PathLimit, PricesWrong}
use Rattle.answer_definitions.specs.Verdicts.{IsSolvedBy}
use Rattle.answer_definitions.specs.Evidence.{OverflowsBy}
use Rattle.run_definitions.specs.State.{Present, present_basis, path_of, State, choice_of, gone_through}
use Rattle.run_definitions.specs.Moves.{Gain, punched_by, StatementOutcome, stops, StatementMove, MayStop, Asks, Gives, or_fault, InSelection, InAnswer}
use Rattle.run_definitions.specs.Moves.{SelectionOverflows}
use Rattle.run_definitions.specs.Verbs.{mark_of, or_selection_fault, after_path, verb_move}
use Rattle.run_machine.specs.declared.act.Act.{Act}
use Rattle.run_machine.specs.declared.act.Halt.{Halt}
use Rattle.run_machine.specs.declared.finding.Finding.{Finding}
use Rattle.setup_verbs.specs.Machines.{Machine}
use Rattle.setup_verbs.specs.Kept.{Setup}
use Rattle.run_machine.specs.declared.selecting.Refusal.TheVariants.{Fault}
use Rattle.run_machine.specs.Choosing.{HasSelectionFault, HasSelectionOverflow, refused_act}
use Rattle.run_machine.specs.Ends.{place_view}
use Rattle.fitting_answers.specs.Fitting.{EvidenceFits, PathEndFits}
use Rattle.fitting_answers.specs.Real.{linear_programming_of_128_bits}
use Rattle.run_machine.specs.Standing.{AreDemands}
use Rattle.setup_verbs.specs.Standing.{IsPresent, IsReady, ShowsSetup, Represents}
use Rattle.setup_verbs.specs.Statements.{LeadsTo, Executes}
use Rattle.run_machine.specs.Findings.{ReportsFinding, act_of, mark_left}
use Rattle.run_machine.specs.declared.solving.SolvingVerb.{SolvingVerb}
use Rattle.run_machine.specs.declared.solving.SolvingVerb.TheVariants.{Primal, Dual}
use Rattle.run_machine.specs.SolvingVerbs.{verb_of, solver_of, limit_of}
use Rattle.solving_verbs.specs.Found.{PathReaches, PathOverflows, reached, wrong_prices, at_limit, overflows, Finds, unselected, too_large, solved}
use Rattle.setup_verbs.proofs.Selected.{same_matrix}
use Rattle.run_machine.proofs.Giving.{quietly}
use Rattle.setup_verbs.proofs.Giving.{gives_fault, gives_found, gives_unselected, gives_selected}
use Rattle.setup_verbs.proofs.Reporting.{reported_executes, cut_executes}
use Rattle.solving_verbs.proofs.Demanded.{verdict_comes}
use Rattle.solving_verbs.proofs.Present.{goes_through}
use Rattle.setup_verbs.proofs.Present.{IsPresentOf, lie_up_to, present_at, present_with}

pub no_cards_by : (verb : SolvingVerb) (problem : Problem ℕ) (cells : Cells) (setup new : Setup) (gain : Gain) (finding : Finding) →
    Finds verb problem cells setup new gain finding → punched_by gain ≡ []
no_cards_by verb problem cells setup new _ _ (unselected h) = refl
no_cards_by verb problem cells setup new _ _ (too_large h) = refl
no_cards_by verb problem cells setup new _ _ (solved ok e f (reached r fit)) = refl
no_cards_by verb problem cells setup new _ _ (solved ok e f (wrong_prices r)) = refl
no_cards_by verb problem cells setup new _ _ (solved ok e f (at_limit r)) = refl
no_cards_by verb problem cells setup new _ _ (solved ok e f (overflows r fit)) = refl

abbrev sheet_of : Present → LinearProgram → Sheet
sheet_of present lp = record { problem = present.problem; lp = lp }

-- the path of a verb from the present basis
abbrev path_move : SolvingVerb → ℕ → State → Present → LinearProgram → StatementMove
path_move verb card state present lp =
    MayStop (InSelection present.problem (choice_of state.cells present.options))
    (MayStop (InAnswer (OfPath (solver_of verb) (limit_of verb state.cells)) (sheet_of present lp) (path_of present))
    (Asks (OfPath (solver_of verb) (limit_of verb state.cells)) (sheet_of present lp) (present_basis present) (after_path (solver_of verb) card present state)))

-- what the verb does with a setup
abbrev with_setup : SolvingVerb → ℕ → State → Present → StatementMove
with_setup verb card state present =
    or_selection_fault card (selected present.problem (choice_of state.cells present.options)) (path_move verb card state present)

solving_gives : (verb : SolvingVerb) (card : ℕ) (state : State) (outcome : StatementOutcome) →
    Gives linear_programming_of_128_bits card (or_fault card NoSetup state.setup (with_setup verb card state)) outcome →
    Gives linear_programming_of_128_bits card (verb_move (verb_of verb) card state) outcome
unfolding linear_programming_of_128_bits verb_move
solving_gives Primal card state outcome g = g
solving_gives Dual card state outcome g = g

solving_without : (verb : SolvingVerb) (card : ℕ) (state : State) → state.setup ≡ None →
    Gives linear_programming_of_128_bits card (verb_move (verb_of verb) card state) (stops (endings.VerbStop (record { fault = NoSetup; card = card })))
solving_without verb card state none =
    solving_gives verb card state (stops (endings.VerbStop (record { fault = NoSetup; card = card })))
    (gives_fault card NoSetup state.setup (with_setup verb card state) none)

pub solving_no_setup : (verb : SolvingVerb) (card : ℕ) (cards : List (List ℕ)) (machine : Machine) (print : SinkState) → machine.setup ≡ None →
    Executes linear_programming_of_128_bits (verb_of verb) card print print cards machine machine (refused_act card (Fault NoSetup))
solving_no_setup verb card cards machine print none =
    quietly IsPresent (Gives linear_programming_of_128_bits) (verb_of verb) card cards machine print (λ position executed state s.
    solving_without verb card state (subst (λ (kept : Option Setup). ShowsSetup machine.file kept state.setup) none s.setup))

-- with a setup, whose problem is on file
module _ (verb : SolvingVerb) (card : ℕ) (cards : List (List ℕ)) (old : Machine) (setup new : Setup) (is_setup : old.setup ≡ Some setup) (problem : Problem ℕ)
    (on_file : filed_under setup.name old.file ≡ Some problem)
    (demands : AreDemands old.cells) (position executed : ℕ) (state : State) (s : Represents cards old position executed state) where
  p : IsPresentOf problem setup state.setup
  p = present_at old.file setup state.setup problem on_file (subst (λ (kept : Option Setup). ShowsSetup old.file kept state.setup) is_setup s.setup)

  abbrev present : Present
  present = present_with problem setup.options p.opening p.steps

  abbrev after : Option Mark → Machine
  after mark = record old { setup = Some new; mark = mark }

  setup_gives : (outcome : StatementOutcome) → Gives linear_programming_of_128_bits card (with_setup verb card state present) outcome →
      Gives linear_programming_of_128_bits card (verb_move (verb_of verb) card state) outcome
  setup_gives outcome g =
      solving_gives verb card state outcome (gives_found card NoSetup state.setup (with_setup verb card state) present outcome p.is_viewed g)

  selected_gives : (lp : LinearProgram) → selected problem (choice_of old.cells setup.options) ≡ Ok lp → (outcome : StatementOutcome) →
      Gives linear_programming_of_128_bits card (path_move verb card state present lp) outcome →
      Gives linear_programming_of_128_bits card (verb_move (verb_of verb) card state) outcome
  selected_gives lp ok outcome g =
      setup_gives outcome (gives_selected card (selected problem (choice_of state.cells setup.options)) (path_move verb card state present) lp outcome
      (ap (λ (c : Cells). selected problem (choice_of c setup.options)) s.cells ∙ ok) g)

  path_gives : (lp : LinearProgram) → selected problem (choice_of old.cells setup.options) ≡ Ok lp → (answer : PathEnd) →
      IsSolvedBy (solver_of verb) (record { problem = problem; lp = lp }) setup.basis (limit_of verb old.cells) answer → PathEndFits answer →
      Gives linear_programming_of_128_bits card (verb_move (verb_of verb) card state) (after_path (solver_of verb) card present state answer)
  unfolding linear_programming_of_128_bits
  path_gives lp ok answer right fit =
      selected_gives lp ok (after_path (solver_of verb) card present state answer)
      (inl (inl (
        answer,
        (
          subst (λ (c : Cells). IsSolvedBy (solver_of verb) (record { problem = problem; lp = lp }) (present_basis present) (limit_of verb c) answer)
              (sym s.cells)
              (subst (λ (b : Basis). IsSolvedBy (solver_of verb) (record { problem = problem; lp = lp }) b (limit_of verb old.cells) answer)
              (sym p.reached) right),
          fit,
        ),
        refl,
      )))

  fault_gives : (fault : VerbFault) → HasSelectionFault problem (choice_of old.cells setup.options) fault →
      Gives linear_programming_of_128_bits card (verb_move (verb_of verb) card state) (stops (endings.VerbStop (record { fault = fault; card = card })))
  fault_gives fault h =
      setup_gives (stops (endings.VerbStop (record { fault = fault; card = card })))
      (gives_unselected card (selected problem (choice_of state.cells setup.options)) (path_move verb card state present) h.why fault
      (ap (λ (c : Cells). selected problem (choice_of c setup.options)) s.cells ∙ h.is_refused) h.is_fault)

  selection_gives : (e : Evidence) → HasSelectionOverflow problem (choice_of old.cells setup.options) e →
      Gives linear_programming_of_128_bits card (verb_move (verb_of verb) card state)
      (stops (endings.OverflowStop (record { evidence = e; place = None; card = card })))
  selection_gives e h =
      selected_gives h.lp h.is_selected (stops (endings.OverflowStop (record { evidence = e; place = None; card = card })))
      (inr (e, None, (subst (λ (c : Cells). SelectionOverflows problem (choice_of c setup.options) e None) (sym s.cells) (h.is_refusal, refl)), refl))

  overflow_gives : (lp : LinearProgram) → selected problem (choice_of old.cells setup.options) ≡ Ok lp → (e : Evidence) (place : Option endings.Place) →
      PathOverflows (solver_of verb) (record { problem = problem; lp = lp }) setup.basis new.basis
      (limit_of verb old.cells) setup.engine.waypoints new.engine.waypoints e place → EvidenceFits e →
      Gives linear_programming_of_128_bits card (verb_move (verb_of verb) card state)
      (stops (endings.OverflowStop (record { evidence = e; place = place; card = card })))
  unfolding linear_programming_of_128_bits
  overflow_gives lp ok e place h fit =
      selected_gives lp ok (stops (endings.OverflowStop (record { evidence = e; place = place; card = card })))
      (inl (inr (
        e,
        place,
        (
          subst (λ (c : Cells). OverflowsBy (solver_of verb) (record { problem = problem; lp = lp }) (path_of present) (limit_of verb c) e place) (sym s.cells)
              (subst (λ (bs : List Basis). OverflowsBy (solver_of verb) (record { problem = problem; lp = lp }) bs (limit_of verb old.cells) e place)
              (sym p.ends)
              (h p.initial (lie_up_to problem setup state.setup p lp (same_matrix problem (choice_of old.cells setup.options) lp ok)))),
          fit,
        ),
        refl,
      )))

  after_stands : (lp : LinearProgram) → selected problem (choice_of old.cells setup.options) ≡ Ok lp → new.name ≡ setup.name → new.options ≡ setup.options →
      (bases : List Basis) (verdict : PathVerdict) (check : Check) →
      PathReaches (solver_of verb) (record { problem = problem; lp = lp }) setup.basis new.basis
      (limit_of verb old.cells) setup.engine.waypoints new.engine.waypoints bases verdict check →
      (mark : Mark) → Represents cards (after (Some mark)) position executed (record state { setup = Some (gone_through bases present); mark = Some mark })
  after_stands lp ok same_name same_options bases verdict check r mark =
      let same = same_matrix problem (choice_of old.cells setup.options) lp ok in
      record {
        is_position = s.is_position;
        is_executed = s.is_executed;
        cells = s.cells;
        file = s.file;
        decks = s.decks;
        setup =
            goes_through problem setup state.setup p lp same old.file new bases on_file same_name same_options r.leads
            (r.lie p.initial (lie_up_to problem setup state.setup p lp same));
        mark = refl;
      }

  pub found_comes : (gain : Gain) (finding : Finding) → Finds verb problem old.cells setup new gain finding →
      LeadsTo linear_programming_of_128_bits (verb_of verb) card cards position executed state (after (mark_left finding)) gain (act_of old.cells card finding)
  found_comes _ _ (unselected {fault = fault} h) = fault_gives fault h
  found_comes _ _ (too_large {e = e} h) = selection_gives e h
  found_comes _ _ (solved {lp = lp} ok same_name same_options (reached {bases = bases} {verdict = verdict} {check = check} r fit)) =
      verdict_comes card cards (after (Some (mark_of verdict))) position executed (verb_move (verb_of verb) card state) (Solved (solver_of verb) verdict check)
      (record state { setup = Some (gone_through bases present); mark = Some (mark_of verdict) })
      (after_stands lp ok same_name same_options bases verdict check r (mark_of verdict)) old.cells demands s.cells (mark_of verdict)
      (path_gives lp ok (Reached bases verdict check) r.reaches fit)
  found_comes _ _ (solved {lp = lp} ok same_name same_options (wrong_prices {variable = variable} right)) = path_gives lp ok (PricesWrong variable) right tt
  found_comes _ _ (solved {lp = lp} ok same_name same_options (at_limit right)) =
      subst (λ (c : Cells). Gives linear_programming_of_128_bits card (verb_move (verb_of verb) card state)
      (stops (endings.LimitStop (record { limit = steps_allowed c; card = card })))) s.cells (path_gives lp ok PathLimit right tt)
  found_comes _ _ (solved {lp = lp} ok same_name same_options (overflows {e = e} {place = place} h fit)) =
      overflow_gives lp ok e (option_map place_view place) h fit

module _ (verb : SolvingVerb) (card : ℕ) (print_old print_new : SinkState) (cards : List (List ℕ)) (old : Machine) (setup new : Setup)
    (is_setup : old.setup ≡ Some setup)
    (ready : IsReady old.file setup) (demands : AreDemands old.cells) where
  pub solving_found : (finding : Finding) (mark : Option Mark) (then : Act) → mark ≡ mark_left finding → then ≡ act_of old.cells card finding →
      ReportsFinding (Finds verb ready.problem old.cells setup new) print_old print_new (Ok finding) →
      Executes linear_programming_of_128_bits (verb_of verb) card print_old print_new cards old (record old { setup = Some new; mark = mark }) (Ok then)
  solving_found finding mark then e f t =
      subst (λ (m : Option Mark). Executes linear_programming_of_128_bits (verb_of verb) card print_old print_new cards old
      (record old { setup = Some new; mark = m }) (Ok then)) (sym e)
      (subst (λ (a : Act). Executes linear_programming_of_128_bits (verb_of verb) card print_old print_new cards old
      (record old { setup = Some new; mark = mark_left finding }) (Ok a)) (sym f)
      (reported_executes (verb_of verb) card cards old (Finds verb ready.problem old.cells setup new)
      (λ found. record old { setup = Some new; mark = mark_left found }) (act_of old.cells card)
      (no_cards_by verb ready.problem old.cells setup new)
      (λ gain found h position executed state s. found_comes verb card cards old setup new is_setup ready.problem ready.on_file demands position executed
      state s gain found h) print_old print_new finding t))

  pub solving_cut : (any : Machine) (h : Halt) → ReportsFinding (Finds verb ready.problem old.cells setup new) print_old print_new (Err h) →
      Executes linear_programming_of_128_bits (verb_of verb) card print_old print_new cards old any (Err h)
  solving_cut any h t =
      cut_executes (verb_of verb) card cards old (Finds verb ready.problem old.cells setup new)
      (λ found. record old { setup = Some new; mark = mark_left found }) (act_of old.cells card)
      (no_cards_by verb ready.problem old.cells setup new)
      (λ gain found h position executed state s. found_comes verb card cards old setup new is_setup ready.problem ready.on_file demands position executed
      state s gain found h) print_old print_new any h t
