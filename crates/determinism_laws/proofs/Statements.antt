-- In a state whose setup has a lawful problem and a nonsingular basis, a statement asks its question where it has one answer at most.
use Rattle.std.proofs.Common.{◌≡◌, ℕ, List, refl, sym, ap, subst, ◌∙◌}
use Rattle.std.specs.Prelude.{Option, Some, None, Result, Ok, Err, option_and_then}
use Rattle.exact_values.specs.Rational.{ℚ}
use Rattle.lp_definitions.specs.LinearProgram.{LinearProgram}
use Rattle.card_definitions.specs.Cards.{Card}
use Rattle.problem_definitions.specs.Names.{Name}
use Rattle.problem_definitions.specs.Problem.{Problem}
use Rattle.deck_definitions.specs.declared.DeckFault.{DeckFault}
use Rattle.deck_definitions.specs.Conversion.{conversion}
use Rattle.deck_definitions.specs.Decks.{deck_taken}
use Rattle.basis_deck_definitions.specs.Reading.{basis_reading}
use Rattle.basis_deck_laws.proofs.Lawful.{lawful as lawful_basis}
use Rattle.revise_definitions.specs.Revision.{revision}
use Rattle.control_definitions.specs.Cells.{steps_allowed}
use Rattle.control_definitions.specs.Program.{SetupOptions, Verb, Initialz, Title, MoveName, MoveNumber, MoveLimit, Mvadr, Goto, Convert, Setup, Primal, Dual}
use Rattle.control_definitions.specs.Program.{Revise, Ranging, Paraobj, Pararhs, Solution as SolutionVerb, Bcdout, Punch, Insert, Exit}
use Rattle.selection_definitions.specs.declared.SelectionFault.{SelectionFault}
use Rattle.selection_definitions.specs.Choice.{Choice}
use Rattle.selection_definitions.specs.Selection.{selected}
use Rattle.listing_definitions.specs.declared.Mark.{Mark}
use Rattle.listing_definitions.specs.declared.VerbFault.{VerbFault}
use Rattle.listing_definitions.specs.Report.{Report, Converted, Revised, Solution, Ranges}
use Rattle.question_definitions.specs.Answers.{Basis, Changing, ParametricRun, Question, AnswerTo, OfPath, OfSolution, OfRanges, OfParametricRun, OfPunch}
use Rattle.question_definitions.specs.Answers.{OfInstall}
use Rattle.question_definitions.specs.Solving.{Solving}
use Rattle.run_definitions.specs.State.{Present, present_basis, State, problem_of, choice_of}
use Rattle.run_definitions.specs.Moves.{StatementOutcome, Refusals, StatementMove, Does, MayStop, or_fault}
use Rattle.run_definitions.specs.Verbs.{or_deck_fault, or_selection_fault, files, selects, not_less, change_row, change_set, asks, if_optimal, shows_present}
use Rattle.run_definitions.specs.Verbs.{solves, shows, ranges, parametric_runs, converts, revises, sets_up, punches, punches_basis, inserts, verb_move}
use Rattle.simplex_definitions.specs.Path.{EndsOptimal, EndsAt}
use Rattle.simplex_laws.proofs.Ends.{optimal_end}
use Rattle.std.proofs.lemmas.Option.{same_Some}
use Rattle.lp_definitions.specs.Basis.{IsOptimalBasis}
use Rattle.listing_definitions.specs.declared.Solver.{Solver}
use Rattle.listing_definitions.specs.declared.Solver.TheVariants.{Primal as ByPrimal, Dual as ByDual}
use Rattle.listing_definitions.specs.declared.Mark.TheVariants.{Optimal}
use Rattle.selection_laws.proofs.Selected.{selected_is_lawful}
use Rattle.soundness_laws.proofs.Selected.{selected_has_names}
use Rattle.soundness_laws.proofs.Moves.{HasProblem, EndsOptimally, Knows}
use Rattle.soundness_laws.specs.Truth.{IsOfProblem}
use Rattle.soundness_laws.proofs.ChangeRow.{row_of_problem, set_of_problem, changes_part, last_no_less}
use Rattle.soundness_laws.proofs.Verbs.{optimal_alone}
use Rattle.determinism_laws.specs.Laws.{Suits, IsAsked, HasOneAnswer, AnswersOnce, AsksOnce}

pub record IsOnce (S : Solving) (move : StatementMove) : Type 0 where
  pub once : AsksOnce S move

module _ (S : Solving) where
  does : (outcome : StatementOutcome) → IsOnce S (Does outcome)
  does outcome = record { once = tt }

  may_stop : (refusals : Refusals) (move : StatementMove) → IsOnce S move → IsOnce S (MayStop refusals move)
  may_stop refusals move is = record { once = is.once }

  unless_fault : {X : Type 0} (card : ℕ) (fault : VerbFault) (o : Option X) (go : X → StatementMove) → ((x : X) → o ≡ Some x → IsOnce S (go x)) →
      IsOnce S (or_fault card fault o go)
  unless_fault card fault None go is = does _
  unless_fault card fault (Some x) go is = is x refl

  unless_deck_fault : {X : Type 0} (r : Result X DeckFault) (go : X → StatementMove) → ((x : X) → r ≡ Ok x → IsOnce S (go x)) → IsOnce S (or_deck_fault r go)
  unless_deck_fault (Err fault) go is = does _
  unless_deck_fault (Ok x) go is = is x refl

  unless_selection_fault : (card : ℕ) (r : Result LinearProgram SelectionFault) (go : LinearProgram → StatementMove) →
      ((lp : LinearProgram) → r ≡ Ok lp → IsOnce S (go lp)) → IsOnce S (or_selection_fault card r go)
  unless_selection_fault card (Err fault) go is = does _
  unless_selection_fault card (Ok lp) go is = is lp refl

  selecting : (card : ℕ) (problem : Problem ℕ) (choice : Choice) (go : LinearProgram → StatementMove) →
      ((lp : LinearProgram) → selected problem choice ≡ Ok lp → IsOnce S (go lp)) → IsOnce S (selects card problem choice go)
  selecting card problem choice go is = unless_selection_fault card (selected problem choice) _ (λ lp e. may_stop _ (go lp) (is lp e))

  -- ---- verbs that ask nothing

  converts_once : (card : ℕ) (state : State) → IsOnce S (converts card state)
  converts_once card state =
      unless_fault {X = List Card × List (List Card)} card VerbFault.DeckNotFound (deck_taken state.cells.xdata state.decks) _ (λ taken e.
      unless_deck_fault (conversion taken.0 state.cells.xpbname) (files Converted taken.1 state) (λ problem is. does _))

  revises_once : (card : ℕ) (state : State) → IsOnce S (revises card state)
  revises_once card state =
      unless_fault card VerbFault.NoProblem (problem_of state.cells.xoldname state.file) _ (λ old o.
      unless_fault {X = List Card × List (List Card)} card VerbFault.DeckNotFound (deck_taken state.cells.xdata state.decks) _ (λ taken e.
      unless_deck_fault (revision old taken.0 state.cells.xpbname) (files Revised taken.1 state) (λ problem is. does _)))

  sets_up_once : (card : ℕ) (options : SetupOptions) (state : State) → IsOnce S (sets_up card options state)
  sets_up_once card options state =
      unless_fault card VerbFault.NoProblem (problem_of state.cells.xpbname state.file) _ (λ problem e.
      selecting card problem (choice_of state.cells options) _ (λ lp is. does _))

  punches_once : (card : ℕ) (state : State) → IsOnce S (punches card state)
  punches_once card state = unless_fault card VerbFault.NoProblem (problem_of state.cells.xpbname state.file) _ (λ problem e. does _)

  -- ---- verbs that ask

  asked_here : (question : Question) (present : Present) (state : State) (lp : LinearProgram) → HasProblem state.setup → Knows state →
      state.setup ≡ Some present →
      selected present.problem (choice_of state.cells present.options) ≡ Ok lp →
      Suits question (record { problem = present.problem; lp = lp }) (present_basis present) →
      IsAsked question (record { problem = present.problem; lp = lp }) (present_basis present)
  asked_here question present state lp lawful knows e is suits = record {
    is_problem = lawful present e;
    choice = choice_of state.cells present.options;
    is_selected = is;
    is_basis = (knows.bases present e).in_each state.cells.xobj state.cells.xrhs lp is;
    suits = suits;
  }

  -- a question at the present basis of what is selected of the setup
  asked : (question : Question) (present : Present) (state : State) (lp : LinearProgram) (go : AnswerTo question → StatementOutcome) → HasOneAnswer S question →
      HasProblem state.setup → Knows state →
      state.setup ≡ Some present → selected present.problem (choice_of state.cells present.options) ≡ Ok lp →
      Suits question (record { problem = present.problem; lp = lp }) (present_basis present) →
      IsOnce S (asks question (record { problem = present.problem; lp = lp }) present go)
  asked question present state lp go one lawful knows e is suits = record {
    once =
        λ a b first second. one (record { problem = present.problem; lp = lp }) (present_basis present) a b
        (asked_here question present state lp lawful knows e is suits) first second;
  }

  module _ (card : ℕ) (state : State) (lawful : HasProblem state.setup) (knows : Knows state) where
    solves_once : (solver : Solver) (limit : Option ℕ) → HasOneAnswer S (OfPath solver limit) → IsOnce S (solves solver limit card state)
    solves_once solver limit one =
        unless_fault card VerbFault.NoSetup state.setup _ (λ present e.
        selecting card present.problem (choice_of state.cells present.options) _ (λ lp is.
        asked (OfPath solver limit) present state lp _ one lawful knows e is tt))

    punches_basis_once : HasOneAnswer S OfPunch → IsOnce S (punches_basis card state)
    punches_basis_once one =
        unless_fault card VerbFault.NoSetup state.setup _ (λ present e.
        selecting card present.problem (choice_of state.cells present.options) _ (λ lp is.
        record {
          once = λ a b first second. one (record { problem = present.problem; lp = lp }) (present_basis present) a b
              (asked_here OfPunch present state lp lawful knows e is tt) first second;
        }))

    inserts_once : ((t : Basis) → HasOneAnswer S (OfInstall t)) → IsOnce S (inserts card state)
    inserts_once one =
        unless_fault card VerbFault.NoSetup state.setup _ (λ present e.
        selecting card present.problem (choice_of state.cells present.options) _ (λ lp is.
        unless_fault {X = List Card × List (List Card)} card VerbFault.DeckNotFound (deck_taken state.cells.xdata state.decks) _ (λ taken t.
        unless_deck_fault (basis_reading present.problem lp taken.0) _ (λ s read.
        asked (OfInstall s) present state lp _ (one s) lawful knows e is
        (lawful_basis present.problem lp taken.0 s (selected_has_names present.problem (choice_of state.cells present.options) lp is) read)))))

    showing_once : (present : Present) (question : Question) (report : AnswerTo question → Report) → HasOneAnswer S question → state.setup ≡ Some present →
        ((lp : LinearProgram) → selected present.problem (choice_of state.cells present.options) ≡ Ok lp →
        Suits question (record { problem = present.problem; lp = lp }) (present_basis present)) →
        IsOnce S (shows_present card state present question report)
    showing_once present question report one e suits =
        unless_selection_fault card (selected present.problem (choice_of state.cells present.options)) _ (λ lp is.
        asked question present state lp _ one lawful knows e is (suits lp is))

    shows_once : ((mark : Mark) → HasOneAnswer S (OfSolution mark)) → IsOnce S (shows card state)
    shows_once one =
        unless_fault card VerbFault.NoSetup state.setup _ (λ present e.
        unless_fault card VerbFault.NotSolved state.mark _ (λ mark m.
        showing_once present (OfSolution mark) (Solution mark) (one mark) e (λ lp is. tt)))

    -- under the mark OPTIMAL the present basis is optimal in what is selected
    optimal_now : (present : Present) (lp : LinearProgram) → state.mark ≡ Some Optimal → state.setup ≡ Some present →
        selected present.problem (choice_of state.cells present.options) ≡ Ok lp →
        IsOptimalBasis lp (present_basis present)
    optimal_now present lp m e is =
        (optimal_end lp (present_basis present) known.point known.prices
        (selected_is_lawful present.problem (choice_of state.cells present.options) lp (lawful present e) is)
        ((knows.bases present e).in_each state.cells.xobj state.cells.xrhs lp is) ends).optimal
      where
        known : EndsOptimally state.setup state.cells.xobj state.cells.xrhs
        known = knows.marked m

        same_present : known.present ≡ present
        same_present = same_Some known.present present (sym known.is_setup ∙ e)

        moved : (selected present.problem (choice_of state.cells present.options) ≡ Ok known.lp) × EndsAt known.lp (present_basis present)
            (EndsOptimal known.point known.prices)
        moved =
            subst (λ (x : Present). (selected x.problem (choice_of state.cells x.options) ≡ Ok known.lp) × EndsAt known.lp (present_basis x)
            (EndsOptimal known.point known.prices))
            same_present (known.is_selected, known.ends)

        same_lp : known.lp ≡ lp
        same_lp = let both = sym moved.0 ∙ is in cc

        ends : EndsAt lp (present_basis present) (EndsOptimal known.point known.prices)
        ends = subst (λ p. EndsAt p (present_basis present) (EndsOptimal known.point known.prices)) same_lp moved.1

    ranges_once : HasOneAnswer S OfRanges → IsOnce S (ranges card state)
    ranges_once one =
        unless_fault card VerbFault.NoSetup state.setup _ (λ present e.
        unless_fault card VerbFault.NotSolved state.mark _ (λ mark m.
        unless_fault {X = Mark} card VerbFault.NotOptimal (if_optimal mark) _ (λ optimal o.
        showing_once present OfRanges Ranges one e (λ lp is. optimal_now present lp (m ∙ ap (λ x. Some x) (optimal_alone mark optimal o)) e is))))

    parametric_runs_once : (fault : VerbFault) (change : Problem ℕ → Name → Option Changing) (moved : Option Name) →
        ((problem : Problem ℕ) (name : Name) (changing : Changing) → change problem name ≡ Some changing → IsOfProblem changing problem) →
        ((parametric_run : ParametricRun) → HasOneAnswer S (OfParametricRun parametric_run)) →
        IsOnce S (parametric_runs card fault change moved state)
    parametric_runs_once fault change moved of_problem one =
        unless_fault card VerbFault.NoSetup state.setup _ (λ present e.
        selecting card present.problem (choice_of state.cells present.options) _ (λ lp is.
        unless_fault {X = Changing} card fault (option_and_then (change present.problem) moved) _ (λ changing c.
        unless_fault {X = ℚ} card VerbFault.NoParmax state.cells.xparmax _ (λ last l.
        unless_fault {X = ℚ} card VerbFault.ParmaxBelow (not_less state.cells.xparam last) _ (λ to t.
        asked (OfParametricRun (record { changing = changing; from = state.cells.xparam; to = to; limit = steps_allowed state.cells })) present state lp _
        (one (record { changing = changing; from = state.cells.xparam; to = to; limit = steps_allowed state.cells })) lawful knows e is
        (changes_part change of_problem present.problem moved changing c, last_no_less state.cells.xparam last to t))))))

  module _ (answers : AnswersOnce S) where
    pub verb_once : (verb : Verb ℕ) (card : ℕ) (state : State) → HasProblem state.setup → Knows state → IsOnce S (verb_move verb card state)
    unfolding verb_move
    verb_once Initialz card state lawful knows = does _
    verb_once (Title text) card state lawful knows = does _
    verb_once (MoveName cell name) card state lawful knows = does _
    verb_once (MoveNumber cell value) card state lawful knows = does _
    verb_once (MoveLimit limit) card state lawful knows = does _
    verb_once (Mvadr demand position) card state lawful knows = does _
    verb_once (Goto position) card state lawful knows = does _
    verb_once Convert card state lawful knows = converts_once card state
    verb_once Revise card state lawful knows = revises_once card state
    verb_once (Setup options) card state lawful knows = sets_up_once card options state
    verb_once Primal card state lawful knows = solves_once card state lawful knows ByPrimal state.cells.xiterlim (answers.paths ByPrimal state.cells.xiterlim)
    verb_once Dual card state lawful knows =
        solves_once card state lawful knows ByDual (Some (steps_allowed state.cells)) (answers.paths ByDual (Some (steps_allowed state.cells)))
    verb_once SolutionVerb card state lawful knows = shows_once card state lawful knows answers.solutions
    verb_once Ranging card state lawful knows = ranges_once card state lawful knows answers.ranges
    verb_once Paraobj card state lawful knows =
        parametric_runs_once card state lawful knows VerbFault.NoChangeRow change_row state.cells.xchrow row_of_problem answers.parametric_runs
    verb_once Pararhs card state lawful knows =
        parametric_runs_once card state lawful knows VerbFault.NoChangeSet change_set state.cells.xchcol set_of_problem answers.parametric_runs
    verb_once Bcdout card state lawful knows = punches_once card state
    verb_once Punch card state lawful knows = punches_basis_once card state lawful knows answers.punches
    verb_once Insert card state lawful knows = inserts_once card state lawful knows answers.installs
    verb_once Exit card state lawful knows = does _
