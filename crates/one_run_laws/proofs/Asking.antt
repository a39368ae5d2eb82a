-- In a state whose setup has a lawful problem and a nonsingular basis, a statement asks its question as IsAsked says; and each outcome but a
-- stop for an overflow leaves the number of executed statements, and is no such stop.
use Rattle.std.proofs.Common.{◌≡◌, ℕ, List, refl, sym, ap, subst, ◌∙◌}
use Rattle.std.specs.Prelude.{Option, Some, None, Result, Ok, Err, option_and_then}
use Rattle.exact_values.specs.Rational.{ℚ}
use Rattle.lp_definitions.specs.LinearProgram.{LinearProgram}
use Rattle.card_definitions.specs.Cards.{Card}
use Rattle.problem_definitions.specs.Names.{Name}
use Rattle.problem_definitions.specs.Problem.{Problem}
use Rattle.deck_definitions.specs.declared.DeckFault.{DeckFault}
use Rattle.deck_definitions.specs.Conversion.{conversion}
use Rattle.deck_definitions.specs.Decks.{deck_taken}
use Rattle.basis_deck_definitions.specs.Reading.{basis_reading}
use Rattle.basis_deck_laws.proofs.Lawful.{lawful as lawful_basis}
use Rattle.revise_definitions.specs.Revision.{revision}
use Rattle.control_definitions.specs.Cells.{steps_allowed}
use Rattle.control_definitions.specs.Program.{SetupOptions, Verb, Initialz, Title, MoveName, MoveNumber, MoveLimit, Mvadr, Goto, Convert, Setup, Primal, Dual}
use Rattle.control_definitions.specs.Program.{Revise, Ranging, Paraobj, Pararhs, Solution as SolutionVerb, Bcdout, Punch, Insert, Exit}
use Rattle.selection_definitions.specs.declared.SelectionFault.{SelectionFault}
use Rattle.selection_definitions.specs.Choice.{Choice}
use Rattle.selection_definitions.specs.Selection.{selected}
use Rattle.listing_definitions.specs.declared.Mark.{Mark}
use Rattle.listing_definitions.specs.declared.VerbFault.{VerbFault}
use Rattle.listing_definitions.specs.Report.{Report, Converted, Revised, Solution, Ranges}
use Rattle.question_definitions.specs.Answers.{Basis, Changing, ParametricRun, Question, AnswerTo, OfPath, OfSolution, OfRanges, OfParametricRun, OfPunch}
use Rattle.question_definitions.specs.Answers.{OfInstall}
use Rattle.run_definitions.specs.State.{Present, present_basis, State, problem_of, choice_of}
use Rattle.run_definitions.specs.Moves.{StatementOutcome, Refusals, StatementMove, Does, MayStop, or_fault}
use Rattle.run_definitions.specs.Verbs.{or_deck_fault, or_selection_fault, files, selects, not_less, change_row, change_set, asks, if_optimal, shows_present}
use Rattle.run_definitions.specs.Verbs.{solves, shows, ranges, parametric_runs, converts, revises, sets_up, punches, punches_basis, inserts, verb_move}
use Rattle.simplex_definitions.specs.Path.{EndsOptimal, EndsAt}
use Rattle.simplex_laws.proofs.Ends.{optimal_end}
use Rattle.std.proofs.lemmas.Option.{same_Some}
use Rattle.lp_definitions.specs.Basis.{IsOptimalBasis}
use Rattle.listing_definitions.specs.declared.Solver.{Solver}
use Rattle.listing_definitions.specs.declared.Solver.TheVariants.{Primal as ByPrimal, Dual as ByDual}
use Rattle.listing_definitions.specs.declared.Mark.TheVariants.{Optimal}
use Rattle.selection_laws.proofs.Selected.{selected_is_lawful}
use Rattle.soundness_laws.proofs.Selected.{selected_has_names}
use Rattle.soundness_laws.proofs.Moves.{HasProblem, EndsOptimally, Knows}
use Rattle.soundness_laws.specs.Truth.{IsOfProblem}
use Rattle.soundness_laws.proofs.ChangeRow.{row_of_problem, set_of_problem, changes_part, last_no_less}
use Rattle.soundness_laws.proofs.Verbs.{optimal_alone}
use Rattle.question_definitions.specs.Answers.{PathEnd, Reached, PathLimit, PricesWrong, ParametricRunEnd, Opening, Chained, ParametricRunLimit, InstallEnd}
use Rattle.question_definitions.specs.Answers.{Installed, DependsBy}
use Rattle.run_definitions.specs.Moves.{Goes, Ends, Asks}
use Rattle.run_definitions.specs.Verbs.{demanded, by_verdict, mark_of, after_path, after_parametric_run, after_install}
use Rattle.listing_definitions.specs.declared.Mark.TheVariants.{Infeasible, Unbounded}
use Rattle.determinism_laws.specs.Laws.{Suits, IsAsked, IsOverflow}
use Rattle.one_run_laws.specs.Answers.{IsOfVerb}

-- a run that goes on has executed so many statements, and one that ends doesn't end with an overflow
abbrev pub Steady : ℕ → StatementOutcome → Type 0
Steady n (Goes gain after) = after.executed ≡ n
Steady n (Ends gain ending) = IsOverflow ending → ⊥

abbrev pub AsksWell : ℕ → StatementMove → Type 0
AsksWell n (Does outcome) = Steady n outcome
AsksWell n (MayStop refusals move) = AsksWell n move
AsksWell n (Asks question sheet s go) = IsOfVerb question × IsAsked question sheet s × ((answer : AnswerTo question) → Steady n (go answer))

pub record IsWell (n : ℕ) (move : StatementMove) : Type 0 where
  pub well : AsksWell n move

-- ---- outcomes

demanded_steady : (position : Option ℕ) (code : ℕ) (report : Report) (state : State) → Steady state.executed (demanded position code report state)
demanded_steady (Some position) code report state = refl
demanded_steady None code report state = λ stop. let e = stop.1 in cc e

by_verdict_steady : (mark : Mark) (report : Report) (state : State) → Steady state.executed (by_verdict mark report state)
by_verdict_steady Optimal report state = refl
by_verdict_steady Infeasible report state = demanded_steady state.cells.xdonfs 1 report state
by_verdict_steady Unbounded report state = demanded_steady state.cells.xdounb 2 report state

after_path_steady : (solver : Solver) (card : ℕ) (present : Present) (state : State) (end : PathEnd) →
    Steady state.executed (after_path solver card present state end)
after_path_steady solver card present state (Reached bases verdict check) = by_verdict_steady (mark_of verdict) _ _
after_path_steady solver card present state PathLimit = λ stop. let e = stop.1 in cc e
after_path_steady solver card present state (PricesWrong j) = λ stop. let e = stop.1 in cc e

after_run_steady : (card : ℕ) (parametric_run : ParametricRun) (present : Present) (state : State) (end : ParametricRunEnd) →
    Steady state.executed (after_parametric_run card parametric_run present state end)
after_run_steady card parametric_run present state (Opening bases verdict check) = by_verdict_steady (mark_of verdict) _ _
after_run_steady card parametric_run present state (Chained bases intervals end) = refl
after_run_steady card parametric_run present state ParametricRunLimit = λ stop. let e = stop.1 in cc e

after_install_steady : (card : ℕ) (lp : LinearProgram) (s : Basis) (taken : List Card × List (List Card)) (present : Present) (state : State)
    (end : InstallEnd) → Steady state.executed (after_install card lp s taken present state end)
after_install_steady card lp s taken present state Installed = refl
after_install_steady card lp s taken present state (DependsBy lines) = λ stop. let e = stop.1 in cc e

module _ (n : ℕ) where
  does : (outcome : StatementOutcome) → Steady n outcome → IsWell n (Does outcome)
  does outcome steady = record { well = steady }

  may_stop : (refusals : Refusals) (move : StatementMove) → IsWell n move → IsWell n (MayStop refusals move)
  may_stop refusals move is = record { well = is.well }

  unless_fault : {X : Type 0} (card : ℕ) (fault : VerbFault) (o : Option X) (go : X → StatementMove) → ((x : X) → o ≡ Some x → IsWell n (go x)) →
      IsWell n (or_fault card fault o go)
  unless_fault card fault None go is = record { well = λ stop. let e = stop.1 in cc e }
  unless_fault card fault (Some x) go is = is x refl

  unless_deck_fault : {X : Type 0} (r : Result X DeckFault) (go : X → StatementMove) → ((x : X) → r ≡ Ok x → IsWell n (go x)) → IsWell n (or_deck_fault r go)
  unless_deck_fault (Err fault) go is = record { well = λ stop. let e = stop.1 in cc e }
  unless_deck_fault (Ok x) go is = is x refl

  unless_selection_fault : (card : ℕ) (r : Result LinearProgram SelectionFault) (go : LinearProgram → StatementMove) →
      ((lp : LinearProgram) → r ≡ Ok lp → IsWell n (go lp)) → IsWell n (or_selection_fault card r go)
  unless_selection_fault card (Err fault) go is = record { well = λ stop. let e = stop.1 in cc e }
  unless_selection_fault card (Ok lp) go is = is lp refl

  selecting : (card : ℕ) (problem : Problem ℕ) (choice : Choice) (go : LinearProgram → StatementMove) →
      ((lp : LinearProgram) → selected problem choice ≡ Ok lp → IsWell n (go lp)) → IsWell n (selects card problem choice go)
  selecting card problem choice go is = unless_selection_fault card (selected problem choice) _ (λ lp e. may_stop _ (go lp) (is lp e))

-- ---- verbs that ask nothing

converts_well : (card : ℕ) (state : State) → IsWell state.executed (converts card state)
converts_well card state =
    unless_fault state.executed {X = List Card × List (List Card)} card VerbFault.DeckNotFound (deck_taken state.cells.xdata state.decks) _ (λ taken e.
    unless_deck_fault state.executed (conversion taken.0 state.cells.xpbname) (files Converted taken.1 state) (λ problem is. does state.executed _ refl))

revises_well : (card : ℕ) (state : State) → IsWell state.executed (revises card state)
revises_well card state =
    unless_fault state.executed card VerbFault.NoProblem (problem_of state.cells.xoldname state.file) _ (λ old o.
    unless_fault state.executed {X = List Card × List (List Card)} card VerbFault.DeckNotFound (deck_taken state.cells.xdata state.decks) _ (λ taken e.
    unless_deck_fault state.executed (revision old taken.0 state.cells.xpbname) (files Revised taken.1 state) (λ problem is. does state.executed _ refl)))

sets_up_well : (card : ℕ) (options : SetupOptions) (state : State) → IsWell state.executed (sets_up card options state)
sets_up_well card options state =
    unless_fault state.executed card VerbFault.NoProblem (problem_of state.cells.xpbname state.file) _ (λ problem e.
    selecting state.executed card problem (choice_of state.cells options) _ (λ lp is. does state.executed _ refl))

punches_well : (card : ℕ) (state : State) → IsWell state.executed (punches card state)
punches_well card state =
    unless_fault state.executed card VerbFault.NoProblem (problem_of state.cells.xpbname state.file) _ (λ problem e. does state.executed _ refl)

-- ---- verbs that ask

asked_here : (question : Question) (present : Present) (state : State) (lp : LinearProgram) → HasProblem state.setup → Knows state →
    state.setup ≡ Some present →
    selected present.problem (choice_of state.cells present.options) ≡ Ok lp →
    Suits question (record { problem = present.problem; lp = lp }) (present_basis present) →
    IsAsked question (record { problem = present.problem; lp = lp }) (present_basis present)
asked_here question present state lp lawful knows e is suits = record {
  is_problem = lawful present e;
  choice = choice_of state.cells present.options;
  is_selected = is;
  is_basis = (knows.bases present e).in_each state.cells.xobj state.cells.xrhs lp is;
  suits = suits;
}

-- a question at the present basis of what is selected of the setup
asked : (question : Question) (present : Present) (state : State) (lp : LinearProgram) (go : AnswerTo question → StatementOutcome) → IsOfVerb question →
    ((answer : AnswerTo question) → Steady state.executed (go answer)) → HasProblem state.setup → Knows state →
    state.setup ≡ Some present → selected present.problem (choice_of state.cells present.options) ≡ Ok lp →
    Suits question (record { problem = present.problem; lp = lp }) (present_basis present) →
    IsWell state.executed (asks question (record { problem = present.problem; lp = lp }) present go)
asked question present state lp go verb steady lawful knows e is suits =
    record { well = (verb, asked_here question present state lp lawful knows e is suits, steady) }

module _ (card : ℕ) (state : State) (lawful : HasProblem state.setup) (knows : Knows state) where
  solves_well : (solver : Solver) (limit : Option ℕ) → IsOfVerb (OfPath solver limit) → IsWell state.executed (solves solver limit card state)
  solves_well solver limit verb =
      unless_fault state.executed card VerbFault.NoSetup state.setup _ (λ present e.
      selecting state.executed card present.problem (choice_of state.cells present.options) _ (λ lp is.
      asked (OfPath solver limit) present state lp (after_path solver card present state) verb
      (after_path_steady solver card present state) lawful knows e is tt))

  punches_basis_well : IsWell state.executed (punches_basis card state)
  punches_basis_well =
      unless_fault state.executed card VerbFault.NoSetup state.setup _ (λ present e.
      selecting state.executed card present.problem (choice_of state.cells present.options) _ (λ lp is.
      record { well = (tt, asked_here OfPunch present state lp lawful knows e is tt, λ cards. refl) }))

  inserts_well : IsWell state.executed (inserts card state)
  inserts_well =
      unless_fault state.executed card VerbFault.NoSetup state.setup _ (λ present e.
      selecting state.executed card present.problem (choice_of state.cells present.options) _ (λ lp is.
      unless_fault state.executed {X = List Card × List (List Card)} card VerbFault.DeckNotFound (deck_taken state.cells.xdata state.decks) _ (λ taken t.
      unless_deck_fault state.executed (basis_reading present.problem lp taken.0) _ (λ s read.
      asked (OfInstall s) present state lp (after_install card lp s taken present state) tt
      (after_install_steady card lp s taken present state) lawful knows e is
      (lawful_basis present.problem lp taken.0 s (selected_has_names present.problem (choice_of state.cells present.options) lp is) read)))))

  showing_well : (present : Present) (question : Question) (report : AnswerTo question → Report) → IsOfVerb question → state.setup ≡ Some present →
      ((lp : LinearProgram) → selected present.problem (choice_of state.cells present.options) ≡ Ok lp →
      Suits question (record { problem = present.problem; lp = lp }) (present_basis present)) →
      IsWell state.executed (shows_present card state present question report)
  showing_well present question report verb e suits =
      unless_selection_fault state.executed card (selected present.problem (choice_of state.cells present.options)) _ (λ lp is.
      asked question present state lp _ verb (λ lines. refl) lawful knows e is (suits lp is))

  shows_well : IsWell state.executed (shows card state)
  shows_well =
      unless_fault state.executed card VerbFault.NoSetup state.setup _ (λ present e.
      unless_fault state.executed card VerbFault.NotSolved state.mark _ (λ mark m.
      showing_well present (OfSolution mark) (Solution mark) tt e (λ lp is. tt)))

  -- under the mark OPTIMAL the present basis is optimal in what is selected
  optimal_now : (present : Present) (lp : LinearProgram) → state.mark ≡ Some Optimal → state.setup ≡ Some present →
      selected present.problem (choice_of state.cells present.options) ≡ Ok lp →
      IsOptimalBasis lp (present_basis present)
  optimal_now present lp m e is =
      (optimal_end lp (present_basis present) known.point known.prices
      (selected_is_lawful present.problem (choice_of state.cells present.options) lp (lawful present e) is)
      ((knows.bases present e).in_each state.cells.xobj state.cells.xrhs lp is) ends).optimal
    where
      known : EndsOptimally state.setup state.cells.xobj state.cells.xrhs
      known = knows.marked m

      same_present : known.present ≡ present
      same_present = same_Some known.present present (sym known.is_setup ∙ e)

      moved : (selected present.problem (choice_of state.cells present.options) ≡ Ok known.lp) × EndsAt known.lp (present_basis present)
          (EndsOptimal known.point known.prices)
      moved =
          subst (λ (x : Present). (selected x.problem (choice_of state.cells x.options) ≡ Ok known.lp) × EndsAt known.lp (present_basis x)
          (EndsOptimal known.point known.prices))
          same_present (known.is_selected, known.ends)

      same_lp : known.lp ≡ lp
      same_lp = let both = sym moved.0 ∙ is in cc

      ends : EndsAt lp (present_basis present) (EndsOptimal known.point known.prices)
      ends = subst (λ p. EndsAt p (present_basis present) (EndsOptimal known.point known.prices)) same_lp moved.1

  ranges_well : IsWell state.executed (ranges card state)
  ranges_well =
      unless_fault state.executed card VerbFault.NoSetup state.setup _ (λ present e.
      unless_fault state.executed card VerbFault.NotSolved state.mark _ (λ mark m.
      unless_fault state.executed {X = Mark} card VerbFault.NotOptimal (if_optimal mark) _ (λ optimal o.
      showing_well present OfRanges Ranges tt e (λ lp is. optimal_now present lp (m ∙ ap (λ x. Some x) (optimal_alone mark optimal o)) e is))))

  parametric_runs_well : (fault : VerbFault) (change : Problem ℕ → Name → Option Changing) (moved : Option Name) →
      ((problem : Problem ℕ) (name : Name) (changing : Changing) → change problem name ≡ Some changing → IsOfProblem changing problem) →
      IsWell state.executed (parametric_runs card fault change moved state)
  parametric_runs_well fault change moved of_problem =
      unless_fault state.executed card VerbFault.NoSetup state.setup _ (λ present e.
      selecting state.executed card present.problem (choice_of state.cells present.options) _ (λ lp is.
      unless_fault state.executed {X = Changing} card fault (option_and_then (change present.problem) moved) _ (λ changing c.
      unless_fault state.executed {X = ℚ} card VerbFault.NoParmax state.cells.xparmax _ (λ last l.
      unless_fault state.executed {X = ℚ} card VerbFault.ParmaxBelow (not_less state.cells.xparam last) _ (λ to t.
      asked (OfParametricRun (record { changing = changing; from = state.cells.xparam; to = to; limit = steps_allowed state.cells })) present state lp
      (after_parametric_run card (record { changing = changing; from = state.cells.xparam; to = to; limit = steps_allowed state.cells }) present state) tt
      (after_run_steady card
      (record { changing = changing; from = state.cells.xparam; to = to; limit = steps_allowed state.cells }) present state) lawful knows e is
      (changes_part change of_problem present.problem moved changing c, last_no_less state.cells.xparam last to t))))))

pub verb_asks : (verb : Verb ℕ) (card : ℕ) (state : State) → HasProblem state.setup → Knows state → IsWell state.executed (verb_move verb card state)
unfolding verb_move
verb_asks Initialz card state lawful knows = does state.executed _ refl
verb_asks (Title text) card state lawful knows = does state.executed _ refl
verb_asks (MoveName cell name) card state lawful knows = does state.executed _ refl
verb_asks (MoveNumber cell value) card state lawful knows = does state.executed _ refl
verb_asks (MoveLimit limit) card state lawful knows = does state.executed _ refl
verb_asks (Mvadr demand position) card state lawful knows = does state.executed _ refl
verb_asks (Goto position) card state lawful knows = does state.executed _ refl
verb_asks Convert card state lawful knows = converts_well card state
verb_asks Revise card state lawful knows = revises_well card state
verb_asks (Setup options) card state lawful knows = sets_up_well card options state
verb_asks Primal card state lawful knows = solves_well card state lawful knows ByPrimal state.cells.xiterlim tt
verb_asks Dual card state lawful knows = solves_well card state lawful knows ByDual (Some (steps_allowed state.cells)) tt
verb_asks SolutionVerb card state lawful knows = shows_well card state lawful knows
verb_asks Ranging card state lawful knows = ranges_well card state lawful knows
verb_asks Paraobj card state lawful knows = parametric_runs_well card state lawful knows VerbFault.NoChangeRow change_row state.cells.xchrow row_of_problem
verb_asks Pararhs card state lawful knows = parametric_runs_well card state lawful knows VerbFault.NoChangeSet change_set state.cells.xchcol set_of_problem
verb_asks Bcdout card state lawful knows = punches_well card state
verb_asks Punch card state lawful knows = punches_basis_well card state lawful knows
verb_asks Insert card state lawful knows = inserts_well card state lawful knows
verb_asks Exit card state lawful knows = does state.executed _ (λ stop. let e = stop.1 in cc e)
