-- What a statement prints fits, where each answer that it goes by does.
use Rattle.std.proofs.Common.{ℕ, List, inl, inr, sym, subst}
use Rattle.std.specs.Prelude.{Option, Some, None, Result, Ok, Err}
use Rattle.exact_values.specs.Rational.{ℚ}
use Rattle.card_definitions.specs.Cards.{Card}
use Rattle.lp_definitions.specs.LinearProgram.{LinearProgram}
use Rattle.problem_definitions.specs.Names.{Name}
use Rattle.problem_definitions.specs.Problem.{Problem}
use Rattle.deck_definitions.specs.declared.DeckFault.{DeckFault}
use Rattle.deck_definitions.specs.Conversion.{conversion}
use Rattle.deck_definitions.specs.Decks.{deck_taken}
use Rattle.basis_deck_definitions.specs.Reading.{basis_reading}
use Rattle.revise_definitions.specs.Revision.{revision}
use Rattle.selection_definitions.specs.declared.SelectionFault.{SelectionFault}
use Rattle.selection_definitions.specs.Choice.{Choice}
use Rattle.selection_definitions.specs.Selection.{selected}
use Rattle.listing_definitions.specs.declared.Mark.{Mark}
use Rattle.listing_definitions.specs.declared.Mark.TheVariants.{Optimal, Infeasible, Unbounded}
use Rattle.listing_definitions.specs.declared.Solver.{Solver}
use Rattle.listing_definitions.specs.declared.Solver.TheVariants.{Primal as ByPrimal, Dual as ByDual}
use Rattle.listing_definitions.specs.declared.VerbFault.{VerbFault}
use Rattle.listing_definitions.specs.Report.{Report, Converted, Revised, Solved}
use Rattle.control_definitions.specs.Program.{SetupOptions, Verb, Initialz, Title, MoveName, MoveNumber, MoveLimit, Mvadr, Goto, Convert, Setup, Primal, Dual}
use Rattle.control_definitions.specs.Program.{Revise, Ranging, Paraobj, Pararhs, Solution, Bcdout, Punch, Insert, Exit}
use Rattle.control_definitions.specs.Cells.{steps_allowed}
use Rattle.question_definitions.specs.Answers.{Basis, Sheet, Changing, parametric_solver, ParametricRun, PathEnd, Reached, PathLimit, PricesWrong}
use Rattle.question_definitions.specs.Answers.{ParametricRunEnd, Opening, Chained, ParametricRunLimit, InstallEnd, Installed, DependsBy, Question, OfPath}
use Rattle.question_definitions.specs.Answers.{OfSolution, OfRanges, OfParametricRun, OfPunch, OfInstall, AnswerTo}
use Rattle.question_definitions.specs.Solving.{IsRight}
use Rattle.run_definitions.specs.State.{Present, gone_through, State, problem_of, choice_of}
use Rattle.run_definitions.specs.Moves.{StatementOutcome, gain_of, Refusals, StatementMove, Does, MayStop, Asks, Gives, or_fault}
use Rattle.run_definitions.specs.Verbs.{or_deck_fault, or_selection_fault, files, converts, revises, selects, sets_up, selects_present, mark_of, demanded}
use Rattle.run_definitions.specs.Verbs.{by_verdict, not_less, change_row, change_set, after_path, solves, shows, if_optimal, ranges, after_parametric_run}
use Rattle.run_definitions.specs.Verbs.{parametric_runs, punches, punches_basis, after_install, inserts, verb_move}
use Rattle.fitting_answers.specs.Fitting.{ReportFits, GainFits, AnswerFits}
use Rattle.fitting_answers.specs.Real.{linear_programming_of_128_bits}

-- what the outcomes print fits, where the answer fits by which they are chosen
abbrev EachFits : StatementMove → Type 0
EachFits (Does outcome) = GainFits (gain_of outcome)
EachFits (MayStop refusals move) = EachFits move
EachFits (Asks question sheet s go) = (answer : AnswerTo question) → AnswerFits question answer → GainFits (gain_of (go answer))

record PrintsFit (move : StatementMove) : Type 0 where
  pub of : EachFits move

-- ---- faults and selections

unless_fault : {X : Type 0} (card : ℕ) (fault : VerbFault) (o : Option X) (go : X → StatementMove) → ((x : X) → PrintsFit (go x)) →
    PrintsFit (or_fault card fault o go)
unless_fault card fault None go fit = record { of = tt }
unless_fault card fault (Some x) go fit = fit x

unless_deck_fault : {X : Type 0} (r : Result X DeckFault) (go : X → StatementMove) → ((x : X) → PrintsFit (go x)) → PrintsFit (or_deck_fault r go)
unless_deck_fault (Err fault) go fit = record { of = tt }
unless_deck_fault (Ok x) go fit = fit x

unless_selection_fault : (card : ℕ) (r : Result LinearProgram SelectionFault) (go : LinearProgram → StatementMove) →
    ((lp : LinearProgram) → PrintsFit (go lp)) → PrintsFit (or_selection_fault card r go)
unless_selection_fault card (Err fault) go fit = record { of = tt }
unless_selection_fault card (Ok lp) go fit = fit lp

may_stop : (refusals : Refusals) (move : StatementMove) → PrintsFit move → PrintsFit (MayStop refusals move)
may_stop refusals move fit = record { of = fit.of }

selecting : (card : ℕ) (problem : Problem ℕ) (choice : Choice) (go : LinearProgram → StatementMove) → ((lp : LinearProgram) → PrintsFit (go lp)) →
    PrintsFit (selects card problem choice go)
selecting card problem choice go fit = unless_selection_fault card (selected problem choice) _ (λ lp. may_stop _ (go lp) (fit lp))

-- ---- verdicts

demanded_fits : (set : Option ℕ) (code : ℕ) (report : Report) (state : State) → ReportFits report → GainFits (gain_of (demanded set code report state))
demanded_fits (Some position) code report state fit = fit
demanded_fits None code report state fit = fit

verdict_fits : (mark : Mark) (report : Report) (state : State) → ReportFits report → GainFits (gain_of (by_verdict mark report state))
verdict_fits Optimal report state fit = fit
verdict_fits Infeasible report state fit = demanded_fits state.cells.xdonfs 1 report state fit
verdict_fits Unbounded report state fit = demanded_fits state.cells.xdounb 2 report state fit

-- ---- statements

path_fits : (solver : Solver) (limit : Option ℕ) (card : ℕ) (present : Present) (state : State) (end : PathEnd) → AnswerFits (OfPath solver limit) end →
    GainFits (gain_of (after_path solver card present state end))
path_fits solver limit card present state (Reached bases verdict check) fit =
    verdict_fits (mark_of verdict) (Solved solver verdict check) (record state { setup = Some (gone_through bases present); mark = Some (mark_of verdict) }) fit
path_fits solver limit card present state PathLimit fit = tt
path_fits solver limit card present state (PricesWrong j) fit = tt

run_fits : (card : ℕ) (parametric_run : ParametricRun) (present : Present) (state : State) (end : ParametricRunEnd) →
    AnswerFits (OfParametricRun parametric_run) end → GainFits (gain_of (after_parametric_run card parametric_run present state end))
run_fits card parametric_run present state (Opening bases verdict check) fit =
    verdict_fits (mark_of verdict) (Solved (parametric_solver parametric_run.changing) verdict check)
    (record state { setup = Some (gone_through bases present); mark = None }) fit
run_fits card parametric_run present state (Chained bases intervals end) fit = fit
run_fits card parametric_run present state ParametricRunLimit fit = tt

install_fits : (card : ℕ) (lp : LinearProgram) (t : Basis) (taken : List Card × List (List Card)) (present : Present) (state : State) (end : InstallEnd) →
    GainFits (gain_of (after_install card lp t taken present state end))
install_fits card lp t taken present state Installed = tt
install_fits card lp t taken present state (DependsBy lines) = tt

module _ (card : ℕ) (state : State) where
  -- both file the problem, and print its size
  converting : PrintsFit (converts card state)
  converting =
      unless_fault {X = List Card × List (List Card)} card VerbFault.DeckNotFound (deck_taken state.cells.xdata state.decks) _ (λ taken.
      unless_deck_fault (conversion taken.0 state.cells.xpbname) (files Converted taken.1 state) (λ problem. record { of = tt }))

  revising : PrintsFit (revises card state)
  revising =
      unless_fault card VerbFault.NoProblem (problem_of state.cells.xoldname state.file) _ (λ old.
      unless_fault {X = List Card × List (List Card)} card VerbFault.DeckNotFound (deck_taken state.cells.xdata state.decks) _ (λ taken.
      unless_deck_fault (revision old taken.0 state.cells.xpbname) (files Revised taken.1 state) (λ problem. record { of = tt })))

  setting_up : (options : SetupOptions) → PrintsFit (sets_up card options state)
  setting_up options =
      unless_fault card VerbFault.NoProblem (problem_of state.cells.xpbname state.file) _
      (λ problem. selecting card problem (choice_of state.cells options) _ (λ lp. record { of = tt }))

  punching : PrintsFit (punches card state)
  punching = unless_fault card VerbFault.NoProblem (problem_of state.cells.xpbname state.file) _ (λ problem. record { of = tt })

  set_up : (go : Present → LinearProgram → StatementMove) → ((present : Present) (lp : LinearProgram) → PrintsFit (go present lp)) →
      PrintsFit (or_fault card VerbFault.NoSetup state.setup (λ present. selects_present card state present (go present)))
  set_up go fit =
      unless_fault card VerbFault.NoSetup state.setup _
      (λ present. selecting card present.problem (choice_of state.cells present.options) (go present) (fit present))

  solving : (solver : Solver) (limit : Option ℕ) → PrintsFit (solves solver limit card state)
  solving solver limit = set_up _ (λ present lp. record { of = path_fits solver limit card present state })

  showing : PrintsFit (shows card state)
  showing =
      unless_fault card VerbFault.NoSetup state.setup _ (λ present.
      unless_fault {X = Mark} card VerbFault.NotSolved state.mark _ (λ mark.
      unless_selection_fault card (selected present.problem (choice_of state.cells present.options)) _ (λ lp. record { of = λ lines fit. fit })))

  ranging : PrintsFit (ranges card state)
  ranging =
      unless_fault card VerbFault.NoSetup state.setup _ (λ present.
      unless_fault {X = Mark} card VerbFault.NotSolved state.mark _ (λ mark.
      unless_fault {X = Mark} card VerbFault.NotOptimal (if_optimal mark) _ (λ optimal.
      unless_selection_fault card (selected present.problem (choice_of state.cells present.options)) _ (λ lp. record { of = λ lines fit. tt }))))

  running : (fault : VerbFault) (change : Problem ℕ → Name → Option Changing) (moved : Option Name) → PrintsFit (parametric_runs card fault change moved state)
  running fault change moved =
      set_up _ (λ present lp.
      unless_fault {X = Changing} card fault _ _ (λ changing.
      unless_fault {X = ℚ} card VerbFault.NoParmax state.cells.xparmax _ (λ last.
      unless_fault {X = ℚ} card VerbFault.ParmaxBelow (not_less state.cells.xparam last) _ (λ to.
      record { of = run_fits card (record { changing = changing; from = state.cells.xparam; to = to; limit = steps_allowed state.cells }) present state }))))

  punching_basis : PrintsFit (punches_basis card state)
  punching_basis = set_up _ (λ present lp. record { of = λ cards fit. tt })

  inserting : PrintsFit (inserts card state)
  inserting =
      set_up _ (λ present lp.
      unless_fault {X = List Card × List (List Card)} card VerbFault.DeckNotFound (deck_taken state.cells.xdata state.decks) _ (λ taken.
      unless_deck_fault (basis_reading present.problem lp taken.0) _ (λ t. record { of = λ end fit. install_fits card lp t taken present state end })))

  each_fits : (verb : Verb ℕ) → PrintsFit (verb_move verb card state)
  unfolding verb_move
  each_fits Initialz = record { of = tt }
  each_fits (Title text) = record { of = tt }
  each_fits (MoveName cell name) = record { of = tt }
  each_fits (MoveNumber cell value) = record { of = tt }
  each_fits (MoveLimit limit) = record { of = tt }
  each_fits (Mvadr demand position) = record { of = tt }
  each_fits (Goto position) = record { of = tt }
  each_fits Convert = converting
  each_fits Revise = revising
  each_fits (Setup options) = setting_up options
  each_fits Primal = solving ByPrimal state.cells.xiterlim
  each_fits Dual = solving ByDual (Some (steps_allowed state.cells))
  each_fits Solution = showing
  each_fits Ranging = ranging
  each_fits Paraobj = running VerbFault.NoChangeRow change_row state.cells.xchrow
  each_fits Pararhs = running VerbFault.NoChangeSet change_set state.cells.xchcol
  each_fits Bcdout = punching
  each_fits Punch = punching_basis
  each_fits Insert = inserting
  each_fits Exit = record { of = tt }

-- ---- what a statement comes to

answer_fits : (question : Question) (sheet : Sheet) (s : Basis) (answer : AnswerTo question) → IsRight linear_programming_of_128_bits question sheet s answer →
    AnswerFits question answer
unfolding linear_programming_of_128_bits
answer_fits (OfPath solver limit) sheet s answer right = right.1
answer_fits (OfSolution mark) sheet s answer right = right.1
answer_fits OfRanges sheet s answer right = tt
answer_fits (OfParametricRun parametric_run) sheet s answer right = right.1
answer_fits OfPunch sheet s answer right = tt
answer_fits (OfInstall t) sheet s answer right = tt

given_fits : (card : ℕ) (move : StatementMove) (outcome : StatementOutcome) → EachFits move → Gives linear_programming_of_128_bits card move outcome →
    GainFits (gain_of outcome)
given_fits card (Does other) outcome fit given = subst (λ (o : StatementOutcome). GainFits (gain_of o)) (sym given) fit
given_fits card (MayStop refusals move) outcome fit (inl given) = given_fits card move outcome fit given
given_fits card (MayStop refusals move) outcome fit (inr stop) = subst (λ (o : StatementOutcome). GainFits (gain_of o)) (sym stop.3) tt
given_fits card (Asks question sheet s go) outcome fit given =
    subst (λ (o : StatementOutcome). GainFits (gain_of o)) (sym given.2) (fit given.0 (answer_fits question sheet s given.0 given.1))

pub outcome_fits : (verb : Verb ℕ) (card : ℕ) (state : State) (outcome : StatementOutcome) →
    Gives linear_programming_of_128_bits card (verb_move verb card state) outcome → GainFits (gain_of outcome)
outcome_fits verb card state outcome given = given_fits card (verb_move verb card state) outcome (each_fits card state verb).of given
