-- What is asked of the answers of a run and of what its reports say, so that another run reports the same.
--     SaysEnough S Says Open       verdicts and parametric runs are true, and the run is cut off only where that is open
--     attested_says, real_says     so it is with an attested listing, and with the run itself
use Rattle.std.proofs.Common.{ℕ, List, refl, sym, subst, map, length, Option}
use Rattle.exact_values.specs.Rational.{ℚ}
use Rattle.control_definitions.specs.Cells.{Cells}
use Rattle.simplex_definitions.specs.Chain.{ChainEnd as PastBreakpoint, AtMax, UnboundedPast as PastUnbounded, InfeasiblePast as PastInfeasible}
use Rattle.listing_definitions.specs.declared.Solver.{Solver}
use Rattle.listing_definitions.specs.declared.Solver.TheVariants.{Primal as ByPrimal, Dual as ByDual, Paraobj as ByParaobj, Pararhs as ByPararhs}
use Rattle.listing_definitions.specs.Report.{PathVerdict, Check, ParametricInterval, ChainEnd, Chain, Report, Solved, Parametric}
use Rattle.question_definitions.specs.Answers.{Basis, Sheet, Changing, Row, Set, parametric_solver, ParametricRun, PathLimit, PricesWrong, Chained}
use Rattle.question_definitions.specs.Answers.{ParametricRunLimit}
use Rattle.question_definitions.specs.Solving.{Solving}
use Rattle.answer_definitions.specs.ParametricRuns.{family_of, sheet_at, end_of}
use Rattle.answer_definitions.specs.Real.{linear_programming}
use Rattle.run_definitions.specs.State.{Present, State}
use Rattle.soundness_laws.specs.Truth.{PresentProgram, sheet_of, IsTrueOf, ReportsOfRun, ShowsOpening, ShowsChain, Holds}
use Rattle.soundness_laws.proofs.Runs.{knows_linear_programming}
use Rattle.walk_laws.specs.Views.{part_of, IsTrueAtFirst}
use Rattle.walk_laws.specs.Proved.{attested, ShowsProvedChain, Says}
use Rattle.walk_laws.proofs.Answered.{IsPathSolver}
use Rattle.one_story_laws.proofs.Marks.{FailsAt, fails_at_first, fails_by_ending}
use Rattle.one_story_laws.proofs.Ends.{HasRun, run_as_viewed, run_as_reported, IsLast}
use Rattle.one_story_laws.proofs.Taken.{parametric_run_taken, path_taken}
use Rattle.walk_definitions.specs.Checkers.{Checker}

abbrev pub IsTrueVerdict : State → PathVerdict → Type 0
IsTrueVerdict state verdict = (program : PresentProgram state.setup state.cells) × IsTrueOf (sheet_of program) verdict

abbrev pub Fails : PathVerdict → Sheet → ParametricRun → Type 0
Fails verdict sheet parametric_run = FailsAt (family_of sheet parametric_run.changing parametric_run.from) verdict

abbrev pub Runs : ChainEnd → Sheet → ParametricRun → Type 0
Runs end sheet parametric_run = HasRun (family_of sheet parametric_run.changing) parametric_run.from parametric_run.to end

pub record SaysEnough (S : Solving) (Speaks : State → Report → Type 0) (Open : Type 0) : Type 0 where
  pub paths : (state : State) (solver : Solver) (verdict : PathVerdict) (check : Check) → IsPathSolver solver → Speaks state (Solved solver verdict check) →
      IsTrueVerdict state verdict
  pub openings : (state : State) (changing : Changing) (verdict : PathVerdict) (check : Check) →
      Speaks state (Solved (parametric_solver changing) verdict check) →
      ReportsOfRun state.setup state.cells (parametric_solver changing) (Fails verdict)
  pub chains : (state : State) (solver : Solver) (chain : Chain) → Speaks state (Parametric solver chain) →
      ReportsOfRun state.setup state.cells solver (Runs chain.end)
  pub lasts : (sheet : Sheet) (s : Basis) (parametric_run : ParametricRun) (bases : List Basis) (intervals : List ParametricInterval) (end : ChainEnd) →
      S.ParametricRuns sheet s parametric_run (Chained bases intervals end) → IsLast parametric_run.to end
  pub path_limits : (solver : Solver) (sheet : Sheet) (s : Basis) (limit : Option ℕ) → S.Solves solver sheet s limit PathLimit → Open
  pub price_stops : (solver : Solver) (sheet : Sheet) (s : Basis) (limit : Option ℕ) (j : ℕ) → S.Solves solver sheet s limit (PricesWrong j) → Open
  pub parametric_run_limits : (sheet : Sheet) (s : Basis) (parametric_run : ParametricRun) → S.ParametricRuns sheet s parametric_run ParametricRunLimit → Open

reported_map : {setup : Option Present} {cells : Cells} {solver : Solver} (Tells Other : Sheet → ParametricRun → Type 0) →
    ((sheet : Sheet) (parametric_run : ParametricRun) → Tells sheet parametric_run → Other sheet parametric_run) →
    ReportsOfRun setup cells solver Tells → ReportsOfRun setup cells solver Other
reported_map Tells Other tells reported = record {
  program = reported.program;
  parametric_run = reported.parametric_run;
  is_solver = reported.is_solver;
  is_part = reported.is_part;
  is_named = reported.is_named;
  from_first = reported.from_first;
  to_last = reported.to_last;
  tells = tells (sheet_of reported.program) reported.parametric_run reported.tells;
}

-- ---- an attested listing

reported_path : (C : Checker) (state : State) (solver : Solver) (verdict : PathVerdict) (check : Check) → IsPathSolver solver →
    Says C state (Solved solver verdict check) → IsTrueVerdict state verdict
reported_path C state ByPrimal verdict check is says = says.0
reported_path C state ByDual verdict check is says = let said = says.0 in (said.0, said.1)
reported_path C state ByParaobj verdict check is says = absurd is
reported_path C state ByPararhs verdict check is says = absurd is

abbrev FailsAsViewed : PathVerdict → Sheet → ParametricRun → Type 0
FailsAsViewed verdict sheet parametric_run = IsTrueAtFirst (sheet_at sheet parametric_run.changing parametric_run.from) verdict

fails_as_viewed : (verdict : PathVerdict) (sheet : Sheet) (parametric_run : ParametricRun) → FailsAsViewed verdict sheet parametric_run →
    Fails verdict sheet parametric_run
fails_as_viewed verdict sheet parametric_run holds = fails_at_first (sheet_at sheet parametric_run.changing parametric_run.from) verdict holds

reported_opening : (C : Checker) (state : State) (changing : Changing) (verdict : PathVerdict) (check : Check) →
    Says C state (Solved (parametric_solver changing) verdict check) →
    ReportsOfRun state.setup state.cells (parametric_solver changing) (Fails verdict)
reported_opening C state (Row name) verdict check says = reported_map (FailsAsViewed verdict) (Fails verdict) (fails_as_viewed verdict) says.0
reported_opening C state (Set name) verdict check says = reported_map (FailsAsViewed verdict) (Fails verdict) (fails_as_viewed verdict) says.0

runs_as_viewed : (chain : Chain) (sheet : Sheet) (parametric_run : ParametricRun) → ShowsProvedChain chain sheet parametric_run →
    Runs chain.end sheet parametric_run
runs_as_viewed chain sheet parametric_run shows =
    run_as_viewed (family_of sheet parametric_run.changing) sheet parametric_run.from parametric_run.to (map part_of chain.intervals) chain.end shows.is_true

pub attested_says : (C : Checker) → SaysEnough (attested C) (Says C) ⊥
attested_says C = record {
  paths = reported_path C;
  openings = reported_opening C;
  chains = λ state solver chain says. reported_map (ShowsProvedChain chain) (Runs chain.end) (runs_as_viewed chain) says;
  lasts = λ sheet s parametric_run bases intervals end taken. parametric_run_taken C sheet parametric_run (Chained bases intervals end) taken;
  path_limits = λ solver sheet s limit taken. path_taken C solver limit sheet PathLimit taken;
  price_stops = λ solver sheet s limit j taken. path_taken C solver limit sheet (PricesWrong j) taken;
  parametric_run_limits = λ sheet s parametric_run taken. parametric_run_taken C sheet parametric_run ParametricRunLimit taken;
}

-- ---- the run itself

held_path : (state : State) (solver : Solver) (verdict : PathVerdict) (check : Check) → IsPathSolver solver → Holds state (Solved solver verdict check) →
    IsTrueVerdict state verdict
held_path state ByPrimal verdict check is holds = holds
held_path state ByDual verdict check is holds = (holds.0, holds.1)
held_path state ByParaobj verdict check is holds = absurd is
held_path state ByPararhs verdict check is holds = absurd is

fails_as_held : (verdict : PathVerdict) (check : Check) (sheet : Sheet) (parametric_run : ParametricRun) → ShowsOpening verdict check sheet parametric_run →
    Fails verdict sheet parametric_run
fails_as_held verdict check sheet parametric_run shows =
    let truth = shows.is_true in
    subst (FailsAt (family_of sheet parametric_run.changing parametric_run.from)) (sym truth.is_verdict.is_verdict)
    (fails_by_ending (sheet_at sheet parametric_run.changing parametric_run.from) (length shows.bases) truth.ending truth.is_true)

held_opening : (state : State) (changing : Changing) (verdict : PathVerdict) (check : Check) → Holds state (Solved (parametric_solver changing) verdict check) →
    ReportsOfRun state.setup state.cells (parametric_solver changing) (Fails verdict)
held_opening state (Row name) verdict check holds = reported_map (ShowsOpening verdict check) (Fails verdict) (fails_as_held verdict check) holds
held_opening state (Set name) verdict check holds = reported_map (ShowsOpening verdict check) (Fails verdict) (fails_as_held verdict check) holds

runs_as_held : (chain : Chain) (sheet : Sheet) (parametric_run : ParametricRun) → ShowsChain chain sheet parametric_run → Runs chain.end sheet parametric_run
runs_as_held chain sheet parametric_run shows =
    let truth = shows.is_true in
    subst (HasRun (family_of sheet parametric_run.changing) parametric_run.from parametric_run.to) (sym truth.is_end)
    (run_as_reported (family_of sheet parametric_run.changing) sheet parametric_run.from parametric_run.to truth.parts truth.past truth.is_true)

last_of_end : (sheet : Sheet) (max : ℚ) (past : PastBreakpoint) → IsLast max (end_of sheet max past)
last_of_end sheet max AtMax = refl
last_of_end sheet max (PastUnbounded value z d) = tt
last_of_end sheet max (PastInfeasible value w) = tt

pub real_says : SaysEnough linear_programming Holds (Unit {0})
real_says = record {
  paths = held_path;
  openings = held_opening;
  chains = λ state solver chain holds. reported_map (ShowsChain chain) (Runs chain.end) (runs_as_held chain) holds;
  lasts = λ sheet s parametric_run bases intervals end right.
      let chained = knows_linear_programming.parametric_runs sheet s parametric_run (Chained bases intervals end) right in
      subst (IsLast parametric_run.to) (sym chained.is_end) (last_of_end sheet parametric_run.to chained.past);
  path_limits = λ solver sheet s limit right. tt;
  price_stops = λ solver sheet s limit j right. tt;
  parametric_run_limits = λ sheet s parametric_run right. tt;
}
