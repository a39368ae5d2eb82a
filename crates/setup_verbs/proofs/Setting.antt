-- What SETUP comes to.
use Rattle.std.proofs.Common.{◌≡◌, ℕ, List, [], ◌∷◌, Option, None, Some, Ok, Err, refl, sym, ap, subst, inl, inr, ◌∙◌}
use Rattle.job_devices.specs.States.{SinkState}
use Rattle.job_devices.specs.declared.device.WriteStop.{WriteStop}
use Rattle.job_devices.specs.Text.{Writes}
use Rattle.problem_definitions.specs.Names.{Name}
use Rattle.problem_definitions.specs.Problem.{Problem}
use Rattle.problem_file.specs.Filed.{Filed, filed_under}
use Rattle.lp_definitions.specs.declared.Evidence.{Evidence}
use Rattle.lp_definitions.specs.declared.Sense.{Sense}
use Rattle.lp_definitions.specs.LinearProgram.{Matrix, LinearProgram}
use Rattle.lp_definitions.specs.Basis.{opening_statuses}
use Rattle.basis_values.specs.Calls.{LieIn}
use Rattle.control_definitions.specs.Program.{SetupOptions, Setup as SetupVerb}
use Rattle.selection_definitions.specs.Selection.{selected}
use Rattle.listing_definitions.specs.declared.VerbFault.{VerbFault}
use Rattle.listing_definitions.specs.declared.VerbFault.TheVariants as verb_fault
use Rattle.listing_definitions.specs.Report.{SetUp}
use Rattle.listing_definitions.specs.Ending.{VerbStop, OverflowStop}
use Rattle.listing_definitions.specs.Text.{report_text}
use Rattle.question_definitions.specs.Answers.{Basis}
use Rattle.control_definitions.specs.Cells.{Cells}
use Rattle.run_definitions.specs.State.{Present, State, problem_of, choice_of}
use Rattle.run_definitions.specs.Moves.{Prints, StatementOutcome, next, stops, InSelection, StatementMove, Does, MayStop, Gives}
use Rattle.run_definitions.specs.Verbs.{or_selection_fault, verb_move}
use Rattle.run_machine.specs.declared.act.Act.TheVariants.{Next}
use Rattle.run_machine.specs.declared.act.Halt.TheVariants as halt
use Rattle.run_machine.specs.declared.selecting.Refusal.{Refusal}
use Rattle.run_machine.specs.declared.selecting.Refusal.TheVariants.{Fault, Overflow, NoMemory}
use Rattle.setup_verbs.specs.Machines.{Machine, Opened}
use Rattle.fitting_answers.specs.Real.{linear_programming_of_128_bits}
use Rattle.run_machine.specs.Standing.{named, filed}
use Rattle.run_machine.specs.Choosing.{refused_act, HasSelectionFault, HasSelectionOverflow, IsUnselected}
use Rattle.run_machine.proofs.Giving.{problem_view, quietly, loudly, cut_off}
use Rattle.setup_verbs.specs.Standing.{IsPresent, Represents}
use Rattle.setup_verbs.specs.Statements.{Executes}
use Rattle.setup_verbs.specs.Opening.{IsOpened, IsSetupFault, no_problem, not_selected, IsNotOpened}
use Rattle.setup_verbs.proofs.Selected.{same_matrix}
use Rattle.setup_verbs.proofs.Giving.{gives_fault, gives_found, gives_selected, gives_unselected}

-- the problem that is wanted is on file
pub filed_by : (wanted : Option Name) (file : Filed) (name : Name) (found : Option (Problem ℕ)) → named wanted file ≡ Some name →
    filed_under name file ≡ found → filed wanted file ≡ found
filed_by wanted file name found is on_file = rw is on_file

-- the selection of that problem is refused
pub not_opened : (cells : Cells) (file : Filed) (options : SetupOptions) (problem : Problem ℕ) → filed cells.xpbname file ≡ Some problem → (refusal : Refusal) →
    IsUnselected problem (choice_of cells options) refusal → IsNotOpened cells file options refusal
not_opened cells file options problem some (Fault fault) h = not_selected problem some h
not_opened cells file options problem some (Overflow e) h = not_selected problem some h
not_opened cells file options problem some NoMemory h = tt

-- what a setup keeps
abbrev kept : Problem ℕ → SetupOptions → Basis → Present
kept problem options basis = record { problem = problem; options = options; opening = basis; steps = [] }

abbrev after_setup : Problem ℕ → SetupOptions → Basis → State → State
after_setup problem options basis state = record state { setup = Some (kept problem options basis); mark = None }

abbrev outcome_of : Problem ℕ → SetupOptions → Basis → State → StatementOutcome
outcome_of problem options basis state = next (Prints (SetUp problem.name options.sense)) (after_setup problem options basis state)

module _ (card : ℕ) (options : SetupOptions) (state : State) where
  abbrev go_selected : Problem ℕ → LinearProgram → StatementMove
  go_selected problem lp = MayStop (InSelection problem (choice_of state.cells options)) (Does (outcome_of problem options (opening_statuses lp) state))

  abbrev go_found : Problem ℕ → StatementMove
  go_found problem = or_selection_fault card (selected problem (choice_of state.cells options)) (go_selected problem)

  gives_no_problem : problem_of state.cells.xpbname state.file ≡ None →
      Gives linear_programming_of_128_bits card (verb_move (SetupVerb options) card state)
      (stops (VerbStop (record { fault = verb_fault.NoProblem; card = card })))
  unfolding linear_programming_of_128_bits verb_move
  gives_no_problem e = gives_fault card verb_fault.NoProblem (problem_of state.cells.xpbname state.file) go_found e

  gives_refused : (problem : Problem ℕ) (fault : VerbFault) → problem_of state.cells.xpbname state.file ≡ Some problem →
      HasSelectionFault problem (choice_of state.cells options) fault →
      Gives linear_programming_of_128_bits card (verb_move (SetupVerb options) card state) (stops (VerbStop (record { fault = fault; card = card })))
  unfolding linear_programming_of_128_bits verb_move
  gives_refused problem fault e h =
      gives_found card verb_fault.NoProblem (problem_of state.cells.xpbname state.file) go_found problem
      (stops (VerbStop (record { fault = fault; card = card }))) e
      (gives_unselected card (selected problem (choice_of state.cells options)) (go_selected problem) h.why fault h.is_refused h.is_fault)

  gives_overflow : (problem : Problem ℕ) (evidence : Evidence) → problem_of state.cells.xpbname state.file ≡ Some problem →
      HasSelectionOverflow problem (choice_of state.cells options) evidence →
      Gives linear_programming_of_128_bits card (verb_move (SetupVerb options) card state)
      (stops (OverflowStop (record { evidence = evidence; place = None; card = card })))
  unfolding linear_programming_of_128_bits verb_move
  gives_overflow problem evidence e h =
      gives_found card verb_fault.NoProblem (problem_of state.cells.xpbname state.file) go_found problem
      (stops (OverflowStop (record { evidence = evidence; place = None; card = card }))) e
      (gives_selected card (selected problem (choice_of state.cells options)) (go_selected problem) h.lp
      (stops (OverflowStop (record { evidence = evidence; place = None; card = card }))) h.is_selected
      (inr (evidence, None, (h.is_refusal, refl), refl)))

  gives_set_up : (problem : Problem ℕ) (lp : LinearProgram) → problem_of state.cells.xpbname state.file ≡ Some problem →
      selected problem (choice_of state.cells options) ≡ Ok lp →
      Gives linear_programming_of_128_bits card (verb_move (SetupVerb options) card state) (outcome_of problem options (opening_statuses lp) state)
  unfolding linear_programming_of_128_bits verb_move
  gives_set_up problem lp e s =
      gives_found card verb_fault.NoProblem (problem_of state.cells.xpbname state.file) go_found problem
      (outcome_of problem options (opening_statuses lp) state) e
      (gives_selected card (selected problem (choice_of state.cells options)) (go_selected problem) lp
      (outcome_of problem options (opening_statuses lp) state) s (inl refl))

module _ (card : ℕ) (cards : List (List ℕ)) (machine : Machine) (options : SetupOptions) where
  fault_by : (fault : VerbFault) → IsSetupFault machine.cells machine.file options (Fault fault) → {position executed : ℕ} {state : State} →
      Represents cards machine position executed state →
      Gives linear_programming_of_128_bits card (verb_move (SetupVerb options) card state) (stops (VerbStop (record { fault = fault; card = card })))
  fault_by fault (no_problem is none) {state = state} s =
      let same : fault ≡ verb_fault.NoProblem = cc in
      subst (λ (f : VerbFault). Gives linear_programming_of_128_bits card (verb_move (SetupVerb options) card state)
      (stops (VerbStop (record { fault = f; card = card })))) (sym same)
      (gives_no_problem card options state (problem_view s (λ (c : Cells). c.xpbname) None none))
  fault_by fault (not_selected problem some h) {state = state} s =
      gives_refused card options state problem fault (problem_view s (λ (c : Cells). c.xpbname) (Some problem) some)
      (subst (λ (c : Cells). HasSelectionFault problem (choice_of c options) fault) (sym s.cells) h)

  overflow_by : (e : Evidence) → IsSetupFault machine.cells machine.file options (Overflow e) → {position executed : ℕ} {state : State} →
      Represents cards machine position executed state →
      Gives linear_programming_of_128_bits card (verb_move (SetupVerb options) card state)
      (stops (OverflowStop (record { evidence = e; place = None; card = card })))
  overflow_by e (no_problem is none) {state = state} s = cc
  overflow_by e (not_selected problem some h) {state = state} s =
      gives_overflow card options state problem e (problem_view s (λ (c : Cells). c.xpbname) (Some problem) some)
      (subst (λ (c : Cells). HasSelectionOverflow problem (choice_of c options) e) (sym s.cells) h)

  pub setup_refused : (print : SinkState) (refusal : Refusal) → IsNotOpened machine.cells machine.file options refusal →
      Executes linear_programming_of_128_bits (SetupVerb options) card print print cards machine machine (refused_act card refusal)
  setup_refused print (Fault fault) h =
      quietly IsPresent (Gives linear_programming_of_128_bits) (SetupVerb options) card cards machine print (λ position executed state s. fault_by fault h s)
  setup_refused print (Overflow e) h =
      quietly IsPresent (Gives linear_programming_of_128_bits) (SetupVerb options) card cards machine print (λ position executed state s. overflow_by e h s)
  setup_refused print NoMemory h = refl

  module _ (opened : Opened) (o : IsOpened machine.cells machine.file options opened) where
    gives_opened : {position executed : ℕ} {state : State} → Represents cards machine position executed state →
        Gives linear_programming_of_128_bits card (verb_move (SetupVerb options) card state)
        (outcome_of o.problem options (opening_statuses opened.setup.lp) state)
    gives_opened {state = state} s =
        gives_set_up card options state o.problem opened.setup.lp
        (problem_view s (λ (c : Cells). c.xpbname) (Some o.problem)
        (filed_by machine.cells.xpbname machine.file opened.setup.name (Some o.problem) o.is_named o.is_filed))
        (ap (λ (c : Cells). selected o.problem (choice_of c options)) s.cells ∙ o.is_selected)

    stands_set_up : {position executed : ℕ} {state : State} → Represents cards machine position executed state →
        Represents cards (record machine { setup = Some opened.setup; mark = None }) position executed
        (after_setup o.problem options (opening_statuses opened.setup.lp) state)
    stands_set_up s = record {
      is_position = s.is_position;
      is_executed = s.is_executed;
      cells = s.cells;
      file = s.file;
      decks = s.decks;
      setup = (
        kept o.problem options (opening_statuses opened.setup.lp),
        refl,
        record {
          on_file = o.is_filed;
          has_options = sym o.are_options;
          reached = sym o.is_opening;
          lie =
              subst (λ (a : Matrix). LieIn a opened.setup.engine.waypoints (opening_statuses opened.setup.lp ∷ []))
              (sym (same_matrix o.problem (choice_of machine.cells options) opened.setup.lp o.is_selected))
              (subst (λ (s : Basis). LieIn opened.setup.lp.matrix opened.setup.engine.waypoints (s ∷ [])) o.is_opening o.lie);
        },
      );
      mark = refl;
    }

    pub setup_done : {print_old print_new : SinkState} {sense : Sense} → sense ≡ options.sense →
        Writes {T = Unit {0}} print_old print_new (Ok tt) (report_text (SetUp opened.name sense)) →
        Executes linear_programming_of_128_bits (SetupVerb options) card print_old print_new cards machine
        (record machine { setup = Some opened.setup; mark = None }) (Ok Next)
    setup_done {print_old = print_old} {print_new = print_new} is_sense writes =
        loudly IsPresent (Gives linear_programming_of_128_bits) (SetupVerb options) card cards machine (SetUp o.problem.name options.sense)
        (λ position executed state s. (after_setup o.problem options (opening_statuses opened.setup.lp) state, gives_opened s, stands_set_up s))
        (subst (λ (n : Name). Writes {T = Unit {0}} print_old print_new (Ok tt) (report_text (SetUp n options.sense))) o.is_own
        (subst (λ (s : Sense). Writes {T = Unit {0}} print_old print_new (Ok tt) (report_text (SetUp opened.name s))) is_sense writes))

    pub setup_cut : {print_old print_new : SinkState} {sense : Sense} → sense ≡ options.sense → (stop : WriteStop) →
        Writes {T = Unit {0}} print_old print_new (Err stop) (report_text (SetUp opened.name sense)) →
        Executes linear_programming_of_128_bits (SetupVerb options) card print_old print_new cards machine machine (Err (halt.Print stop))
    setup_cut {print_old = print_old} {print_new = print_new} is_sense stop writes =
        cut_off IsPresent (Gives linear_programming_of_128_bits) (SetupVerb options) card cards machine machine stop (SetUp o.problem.name options.sense)
        (λ position executed state s. (outcome_of o.problem options (opening_statuses opened.setup.lp) state, gives_opened s, refl))
        (subst (λ (n : Name). Writes {T = Unit {0}} print_old print_new (Err stop) (report_text (SetUp n options.sense))) o.is_own
        (subst (λ (s : Sense). Writes {T = Unit {0}} print_old print_new (Err stop) (report_text (SetUp opened.name s))) is_sense writes))
