-- The answers that two runs get where they ask about one linear program lead them alike.
use Rattle.std.proofs.Common.{◌≡◌, inl, inr, ℕ, ◌+◌, List, [], ◌∷◌, ◌++◌, refl, sym, ap, subst, ◌∙◌}
use Rattle.std.specs.Prelude.{All, Option, Some, None, Ok}
use Rattle.std.proofs.lemmas.Option.{same_Some}
use Rattle.std.proofs.lemmas.List.Elements.{All-head}
use Rattle.exact_values.specs.Rational.{ℚ}
use Rattle.exact_values.proofs.Order.{le_refl}
use Rattle.lp_definitions.specs.LinearProgram.{LinearProgram}
use Rattle.problem_definitions.specs.Problem.{Problem}
use Rattle.control_definitions.specs.Program.{SetupOptions}
use Rattle.control_definitions.specs.Cells.{Cells}
use Rattle.selection_definitions.specs.Selection.{selected}
use Rattle.listing_definitions.specs.declared.Mark.{Mark}
use Rattle.listing_definitions.specs.declared.Solver.{Solver}
use Rattle.listing_definitions.specs.Report.{PathVerdict, Check, ParametricInterval, ChainEnd, EndsAt, UnboundedPast, InfeasiblePast, Chain, Report, Solved}
use Rattle.listing_definitions.specs.Report.{Solution, Parametric}
use Rattle.listing_definitions.specs.Ending.{LimitStop, PriceStop}
use Rattle.question_definitions.specs.Answers.{Basis, Sheet, Changing, Row, Set, changing_name, parametric_solver, ParametricRun, OfPath, OfSolution}
use Rattle.question_definitions.specs.Answers.{OfParametricRun, PathEnd, Reached, PathLimit, PricesWrong, ParametricRunEnd, Opening, Chained}
use Rattle.question_definitions.specs.Answers.{ParametricRunLimit}
use Rattle.question_definitions.specs.Solving.{Solving}
use Rattle.answer_definitions.specs.ParametricRuns.{family_of}
use Rattle.run_definitions.specs.State.{Present, present_basis, gone_through, State, choice_of}
use Rattle.run_definitions.specs.Moves.{Prints, printed_by, StatementOutcome, gain_of, next}
use Rattle.run_definitions.specs.Verbs.{mark_of, by_verdict, last_value, asks, after_path, after_parametric_run}
use Rattle.run_definitions.specs.Run.{counted}
use Rattle.soundness_laws.specs.Truth.{PresentProgram, sheet_of, IsTrueOf, named_by, ReportsOfRun}
use Rattle.walk_laws.specs.Proved.{attested, Says}
use Rattle.walk_laws.proofs.Answered.{printed_verdict, IsPathSolver}
use Rattle.one_story_laws.specs.Story.{SameVerdict, SameClose}
use Rattle.one_story_laws.proofs.Marks.{FailsAt, same_verdict, same_failure, fails_or_best}
use Rattle.one_story_laws.proofs.Ends.{HasRun, same_close}
use Rattle.one_story_laws.proofs.Reported.{Fails, Runs, SaysEnough, attested_says}
use Rattle.one_story_laws.proofs.Alike.{SameSetup, one_setup, Alike, AlikeOrStopped, goes_alike, by_verdict_alike, IsAlike, may_stop, asked}
use Rattle.walk_definitions.specs.Checkers.{Checker}

-- ---- the linear program, and the parametric run, of which something is reported

pub same_sheet : (setup : Option Present) (cells : Cells) (present : Present) (lp : LinearProgram) (program : PresentProgram setup cells) →
    setup ≡ Some present →
    selected present.problem (choice_of cells present.options) ≡ Ok lp → sheet_of program ≡ record { problem = present.problem; lp = lp }
same_sheet setup cells present lp program set is =
    let same : program.present ≡ present = same_Some program.present present (sym program.is_setup ∙ set) in
    let moved : selected present.problem (choice_of cells present.options) ≡ Ok program.lp =
    subst (λ (x : Present). selected x.problem (choice_of cells x.options) ≡ Ok program.lp) same program.is_selected in
    let both : Ok program.lp ≡ Ok lp = sym moved ∙ is in
    let same_lp : program.lp ≡ lp = cc both in
    λ i. record { problem = (same i).problem; lp = same_lp i }

pub same_changing : (cells : Cells) (one two : Changing) → parametric_solver one ≡ parametric_solver two → named_by cells one ≡ Some (changing_name one) →
    named_by cells two ≡ Some (changing_name two) → one ≡ two
same_changing cells (Row name) (Row other) solvers first second = ap Row (same_Some name other (sym first ∙ second))
same_changing cells (Row name) (Set other) solvers first second = absurd (cc solvers)
same_changing cells (Set name) (Row other) solvers first second = absurd (cc solvers)
same_changing cells (Set name) (Set other) solvers first second = ap Set (same_Some name other (sym first ∙ second))

-- what the cells ask for
pub record IsAskedBy (cells : Cells) (parametric_run : ParametricRun) : Type 0 where
  pub is_named : named_by cells parametric_run.changing ≡ Some (changing_name parametric_run.changing)
  pub from_first : parametric_run.from ≡ cells.xparam
  pub to_last : cells.xparmax ≡ Some parametric_run.to

reported_here : (setup : Option Present) (cells : Cells) (present : Present) (lp : LinearProgram) (parametric_run : ParametricRun)
    (Tells : Sheet → Changing → ℚ → ℚ → Type 0) → setup ≡ Some present →
    selected present.problem (choice_of cells present.options) ≡ Ok lp → IsAskedBy cells parametric_run →
    ReportsOfRun setup cells (parametric_solver parametric_run.changing) (λ sheet run. Tells sheet run.changing run.from run.to) →
    Tells (record { problem = present.problem; lp = lp }) parametric_run.changing parametric_run.from parametric_run.to
reported_here setup cells present lp parametric_run Tells set is asked reported =
    let sheets = same_sheet setup cells present lp reported.program set is in
    let changes = same_changing cells reported.parametric_run.changing parametric_run.changing (sym reported.is_solver) reported.is_named asked.is_named in
    let begins : reported.parametric_run.from ≡ parametric_run.from = reported.from_first ∙ sym asked.from_first in
    let ends : reported.parametric_run.to ≡ parametric_run.to = same_Some reported.parametric_run.to parametric_run.to (sym reported.to_last ∙ asked.to_last) in
    subst (λ (x : ℚ). Tells (record { problem = present.problem; lp = lp }) parametric_run.changing parametric_run.from x) ends
    (subst (λ (x : ℚ). Tells (record { problem = present.problem; lp = lp }) parametric_run.changing x reported.parametric_run.to) begins
    (subst (λ (x : Changing). Tells (record { problem = present.problem; lp = lp }) x reported.parametric_run.from reported.parametric_run.to) changes
    (subst (λ (x : Sheet). Tells x reported.parametric_run.changing reported.parametric_run.from reported.parametric_run.to) sheets reported.tells)))

same_last : (end other : ChainEnd) → SameClose end other → last_value end ≡ last_value other
same_last (EndsAt value) (EndsAt other) same = same
same_last (UnboundedPast value lines) (UnboundedPast other others) same = same
same_last (InfeasiblePast value lines) (InfeasiblePast other others) same = same
same_last (EndsAt value) (UnboundedPast other others) same = absurd same
same_last (EndsAt value) (InfeasiblePast other others) same = absurd same
same_last (UnboundedPast value lines) (EndsAt other) same = absurd same
same_last (UnboundedPast value lines) (InfeasiblePast other others) same = absurd same
same_last (InfeasiblePast value lines) (EndsAt other) same = absurd same
same_last (InfeasiblePast value lines) (UnboundedPast other others) same = absurd same

-- the one report of a verdict
one_verdict : (P : Report → Type 0) (mark : Mark) (report : Report) (state : State) → All P (printed_by (gain_of (by_verdict mark report state))) → P report
one_verdict P mark report state all = All-head P report [] (subst (All P) (printed_verdict mark report state) all)

module _ (C : Checker) (S : Solving) (Speaks : State → Report → Type 0) (Open : Type 0) (enough : SaysEnough S Speaks Open) (card : ℕ) (state : State)
    (problem : Problem ℕ) (options : SetupOptions)
    (opening other : Basis) (steps others : List Basis) (lp : LinearProgram) (is : selected problem (choice_of state.cells options) ≡ Ok lp) where
  abbrev one : Present
  one = record { problem = problem; options = options; opening = opening; steps = steps }

  abbrev two : Present
  two = record { problem = problem; options = options; opening = other; steps = others }

  abbrev first : State
  first = record state { setup = Some one }

  abbrev second : State
  second = record state { setup = Some two }

  abbrev sheet : Sheet
  sheet = record { problem = problem; lp = lp }

  gone : (bases more : List Basis) → SameSetup (Some (gone_through bases one)) (Some (gone_through more two))
  gone bases more = one_setup problem options opening other (steps ++ bases) (others ++ more)

  -- two verdicts that leave one mark
  verdicts_alike : (solver : Solver) (verdict another : PathVerdict) (check other_check : Check) (bases more : List Basis) (mark_left : Mark → Option Mark) →
      SameVerdict verdict another →
      Alike (by_verdict (mark_of verdict) (Solved solver verdict check)
      (record (counted first) { setup = Some (gone_through bases one); mark = mark_left (mark_of verdict) }))
      (by_verdict (mark_of another) (Solved solver another other_check)
      (record (counted second) { setup = Some (gone_through more two); mark = mark_left (mark_of another) }))
  verdicts_alike solver verdict another check other_check bases more mark_left same =
      subst (λ (m : Mark). Alike
      (by_verdict (mark_of verdict) (Solved solver verdict check)
      (record (counted first) { setup = Some (gone_through bases one); mark = mark_left (mark_of verdict) }))
      (by_verdict m (Solved solver another other_check) (record (counted second) { setup = Some (gone_through more two); mark = mark_left m }))) same.0
      (by_verdict_alike (mark_of verdict) (Solved solver verdict check) (Solved solver another other_check)
      (record (counted state) { mark = mark_left (mark_of verdict) })
      (Some (gone_through bases one)) (Some (gone_through more two)) (refl, same) (gone bases more))

  -- ---- PRIMAL and DUAL

  true_here : (setup : Option Present) (present : Present) (verdict : PathVerdict) → setup ≡ Some present →
      selected present.problem (choice_of state.cells present.options) ≡ Ok lp →
      (program : PresentProgram setup state.cells) → IsTrueOf (sheet_of program) verdict → IsTrueOf (record { problem = present.problem; lp = lp }) verdict
  true_here setup present verdict set selects program holds =
      subst (λ (x : Sheet). IsTrueOf x verdict) (same_sheet setup state.cells present lp program set selects) holds

  module _ (solver : Solver) (is_path : IsPathSolver solver) (limit : Option ℕ) where
    abbrev path_go : PathEnd → StatementOutcome
    path_go = after_path solver card one (counted first)

    abbrev path_on : PathEnd → StatementOutcome
    path_on = after_path solver card two (counted second)

    paths_alike : (x y : PathEnd) → S.Solves solver sheet (present_basis one) limit x → (attested C).Solves solver sheet (present_basis two) limit y →
        All (Speaks first) (printed_by (gain_of (path_go x))) →
        All (Says C second) (printed_by (gain_of (path_on y))) → AlikeOrStopped Open (path_go x) (path_on y)
    paths_alike PathLimit y right taken speaks says = inr (LimitStop _, enough.path_limits solver sheet (present_basis one) limit right, refl)
    paths_alike (PricesWrong j) y right taken speaks says = inr (PriceStop _, enough.price_stops solver sheet (present_basis one) limit j right, refl)
    paths_alike (Reached bases verdict check) PathLimit right taken speaks says =
        absurd ((attested_says C).path_limits solver sheet (present_basis two) limit taken)
    paths_alike (Reached bases verdict check) (PricesWrong j) right taken speaks says =
        absurd ((attested_says C).price_stops solver sheet (present_basis two) limit j taken)
    paths_alike (Reached bases verdict check) (Reached more another other_check) right taken speaks says =
        let spoken = enough.paths first solver verdict check is_path (one_verdict (Speaks first) (mark_of verdict) (Solved solver verdict check) _ speaks) in
        let said =
        (attested_says C).paths second solver another other_check is_path
        (one_verdict (Says C second) (mark_of another) (Solved solver another other_check) _ says) in
        inl (verdicts_alike solver verdict another check other_check bases more (λ m. Some m)
        (same_verdict sheet verdict another (true_here (Some one) one verdict refl is spoken.0 spoken.1)
        (true_here (Some two) two another refl is said.0 said.1)))

    pub path_asked : IsAlike C S Speaks Open first second card (asks (OfPath solver limit) sheet one path_go) (asks (OfPath solver limit) sheet two path_on)
    path_asked =
        may_stop C S Speaks Open first second card _ _ _ _
        (asked C S Speaks Open first second card (OfPath solver limit) sheet (present_basis one) (present_basis two) path_go path_on paths_alike)

  -- ---- SOLUTION

  pub solution_asked : (mark : Mark) →
      IsAlike C S Speaks Open first second card (asks (OfSolution mark) sheet one (λ lines. next (Prints (Solution mark lines)) (counted first)))
      (asks (OfSolution mark) sheet two (λ lines. next (Prints (Solution mark lines)) (counted second)))
  solution_asked mark =
      may_stop C S Speaks Open first second card _ _ _ _
      (asked C S Speaks Open first second card (OfSolution mark) sheet (present_basis one) (present_basis two) _ _ (λ x y right taken speaks says.
      inl (goes_alike (Prints (Solution mark x)) (Prints (Solution mark y)) (record (counted state) { position = state.position + 1 }) (Some one) (Some two)
      (refl, tt)
      (one_setup problem options opening other steps others))))

  -- ---- parametric runs

  module _ (parametric_run : ParametricRun) (asks_so : IsAskedBy state.cells parametric_run) where
    abbrev parametric_run_go : ParametricRunEnd → StatementOutcome
    parametric_run_go = after_parametric_run card parametric_run one (counted first)

    abbrev parametric_run_on : ParametricRunEnd → StatementOutcome
    parametric_run_on = after_parametric_run card parametric_run two (counted second)

    abbrev family : ℚ → LinearProgram
    family = family_of sheet parametric_run.changing

    abbrev chain_of : List ParametricInterval → ChainEnd → Chain
    chain_of intervals end = record { from = parametric_run.from; change = changing_name parametric_run.changing; intervals = intervals; end = end }

    fails_here : (setup : Option Present) (present : Present) (verdict : PathVerdict) → setup ≡ Some present →
        selected present.problem (choice_of state.cells present.options) ≡ Ok lp →
        ReportsOfRun setup state.cells (parametric_solver parametric_run.changing) (Fails verdict) →
        FailsAt (family_of (record { problem = present.problem; lp = lp }) parametric_run.changing parametric_run.from) verdict
    fails_here setup present verdict set selects reported =
        reported_here setup state.cells present lp parametric_run
        (λ sheet changing from to. FailsAt (family_of sheet changing from) verdict) set selects asks_so reported

    runs_here : (setup : Option Present) (present : Present) (end : ChainEnd) → setup ≡ Some present →
        selected present.problem (choice_of state.cells present.options) ≡ Ok lp →
        ReportsOfRun setup state.cells (parametric_solver parametric_run.changing) (Runs end) →
        HasRun (family_of (record { problem = present.problem; lp = lp }) parametric_run.changing) parametric_run.from parametric_run.to end
    runs_here setup present end set selects reported =
        reported_here setup state.cells present lp parametric_run
        (λ sheet changing from to. HasRun (family_of sheet changing) from to end) set selects asks_so reported

    -- an opening doesn't fail where a run has a best point
    fails_or_runs : (verdict : PathVerdict) (end : ChainEnd) → FailsAt (family parametric_run.from) verdict →
        HasRun family parametric_run.from parametric_run.to end → ⊥
    fails_or_runs verdict end fails run =
        let best = run.covers.solved parametric_run.from (le_refl parametric_run.from) run.covers.forward in
        fails_or_best (family parametric_run.from) verdict best.0 fails best.1

    chains_alike : (bases more : List Basis) (intervals others_intervals : List ParametricInterval) (end another : ChainEnd) → SameClose end another →
        Alike (parametric_run_go (Chained bases intervals end)) (parametric_run_on (Chained more others_intervals another))
    chains_alike bases more intervals others_intervals end another same =
        subst (λ (x : ℚ). Alike (parametric_run_go (Chained bases intervals end))
        (next (Prints (Parametric (parametric_solver parametric_run.changing) (chain_of others_intervals another)))
        (record (counted second) { setup = Some (gone_through more two); mark = None; cells = record (state.cells) { xparam = x } })))
        (same_last end another same)
        (goes_alike (Prints (Parametric (parametric_solver parametric_run.changing) (chain_of intervals end)))
        (Prints (Parametric (parametric_solver parametric_run.changing) (chain_of others_intervals another)))
        (record (counted state) { position = state.position + 1; mark = None; cells = record (state.cells) { xparam = last_value end } })
        (Some (gone_through bases one)) (Some (gone_through more two)) ((refl, refl, refl, same), tt) (gone bases more))

    spoken_opening : (verdict : PathVerdict) (check : Check) (bases : List Basis) →
        All (Speaks first) (printed_by (gain_of (parametric_run_go (Opening bases verdict check)))) → FailsAt (family parametric_run.from) verdict
    spoken_opening verdict check bases speaks =
        fails_here (Some one) one verdict refl is
        (enough.openings first parametric_run.changing verdict check
        (one_verdict (Speaks first) (mark_of verdict) (Solved (parametric_solver parametric_run.changing) verdict check) _ speaks))

    said_opening : (verdict : PathVerdict) (check : Check) (bases : List Basis) →
        All (Says C second) (printed_by (gain_of (parametric_run_on (Opening bases verdict check)))) → FailsAt (family parametric_run.from) verdict
    said_opening verdict check bases says =
        fails_here (Some two) two verdict refl is
        ((attested_says C).openings second parametric_run.changing verdict check
        (one_verdict (Says C second) (mark_of verdict) (Solved (parametric_solver parametric_run.changing) verdict check) _ says))

    spoken_run : (intervals : List ParametricInterval) (end : ChainEnd) →
        All (Speaks first) (Parametric (parametric_solver parametric_run.changing) (chain_of intervals end) ∷ []) →
        HasRun family parametric_run.from parametric_run.to end
    spoken_run intervals end speaks =
        runs_here (Some one) one end refl is
        (enough.chains first (parametric_solver parametric_run.changing) (chain_of intervals end) (All-head (Speaks first) _ [] speaks))

    said_run : (intervals : List ParametricInterval) (end : ChainEnd) →
        All (Says C second) (Parametric (parametric_solver parametric_run.changing) (chain_of intervals end) ∷ []) →
        HasRun family parametric_run.from parametric_run.to end
    said_run intervals end says =
        runs_here (Some two) two end refl is
        ((attested_says C).chains second (parametric_solver parametric_run.changing) (chain_of intervals end) (All-head (Says C second) _ [] says))

    parametric_runs_alike : (x y : ParametricRunEnd) → S.ParametricRuns sheet (present_basis one) parametric_run x →
        (attested C).ParametricRuns sheet (present_basis two) parametric_run y → All (Speaks first) (printed_by (gain_of (parametric_run_go x))) →
        All (Says C second) (printed_by (gain_of (parametric_run_on y))) → AlikeOrStopped Open (parametric_run_go x) (parametric_run_on y)
    parametric_runs_alike ParametricRunLimit y right taken speaks says =
        inr (LimitStop _, enough.parametric_run_limits sheet (present_basis one) parametric_run right, refl)
    parametric_runs_alike (Opening bases verdict check) ParametricRunLimit right taken speaks says =
        absurd ((attested_says C).parametric_run_limits sheet (present_basis two) parametric_run taken)
    parametric_runs_alike (Chained bases intervals end) ParametricRunLimit right taken speaks says =
        absurd ((attested_says C).parametric_run_limits sheet (present_basis two) parametric_run taken)
    parametric_runs_alike (Opening bases verdict check) (Opening more another other_check) right taken speaks says =
        inl (verdicts_alike (parametric_solver parametric_run.changing) verdict another check other_check bases more (λ m. None)
        (same_failure (family parametric_run.from) verdict another (spoken_opening verdict check bases speaks) (said_opening another other_check more says)))
    parametric_runs_alike (Opening bases verdict check) (Chained more intervals end) right taken speaks says =
        absurd (fails_or_runs verdict end (spoken_opening verdict check bases speaks) (said_run intervals end says))
    parametric_runs_alike (Chained bases intervals end) (Opening more verdict check) right taken speaks says =
        absurd (fails_or_runs verdict end (said_opening verdict check more says) (spoken_run intervals end speaks))
    parametric_runs_alike (Chained bases intervals end) (Chained more others_intervals another) right taken speaks says =
        inl (chains_alike bases more intervals others_intervals end another
        (same_close family parametric_run.from parametric_run.to end another (spoken_run intervals end speaks) (said_run others_intervals another says)
        (enough.lasts sheet (present_basis one) parametric_run bases intervals end right)
        ((attested_says C).lasts sheet (present_basis two) parametric_run more others_intervals another taken)))

    pub parametric_run_asked : IsAlike C S Speaks Open first second card (asks (OfParametricRun parametric_run) sheet one parametric_run_go)
        (asks (OfParametricRun parametric_run) sheet two parametric_run_on)
    parametric_run_asked =
        may_stop C S Speaks Open first second card _ _ _ _
        (asked C S Speaks Open first second card (OfParametricRun parametric_run) sheet (present_basis one)
        (present_basis two) parametric_run_go parametric_run_on parametric_runs_alike)
