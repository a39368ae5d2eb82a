-- The chain of intervals, and the whole call, as code makes them.
--     OpensFrom                    a run that may open its first interval at the basis s
--     StandsAt                     a run stands at a basis after so many steps
--     ChainEnds                    the chain of intervals from s has ended at now, with this run
--     ChainStops, ChainFollows     what holds of each such run after a call that has stopped; where the waypoints lie then
--     Overflows e                  why a call stops by an overflow
--     MethodEnds, MethodStops, MethodFollows     what the whole call promises
--     MethodOverflowFree           the run that the whole call has to answer
use Rattle.std.specs.Prelude.{◌≡◌, ◌⊎◌, ℕ, ◌+◌, ◌≤◌, List, map, length}
use Rattle.exact_values.specs.Rational.{ℚ}
use Rattle.lp_definitions.specs.Basis.{Basics}
use Rattle.lp_definitions.specs.declared.Evidence.{Evidence}
use Rattle.lp_definitions.specs.declared.Status.{Status}
use Rattle.lp_model.specs.RatesState.{RatesState}
use Rattle.lp_model.specs.declared.reports.ParaReport.{ParaReport}
use Rattle.lp_model.specs.declared.reports.ParaRun.{ParaRun}
use Rattle.simplex_definitions.specs.Path.{last_of}
use Rattle.simplex_definitions.specs.Chain.{RunReport, IsChain, RunPlace, basis_of}
use Rattle.bounded_primal.specs.declared.moves.PrimalStop.{PrimalStop}
use Rattle.parametric_run.specs.Calls.{part_of, end_of, RunEnds, StandsThere, WaypointsFollowRun, RunOverflows, RunStops}
use Rattle.parametric_run.specs.Complete.{RunEndsOverflowFree}
use Rattle.parametric_run.specs.Programs.{ParametricProgram}
use Rattle.parametric_run.specs.Walks.{HasRun, MayOpen}
use Rattle.parametric_run.specs.declared.method.Span.{Span}

module _ (m : ParametricProgram) (span : Span) where
  -- a run from start whose opening has come to s after so many steps, with the waypoints ways
  abbrev pub OpensFrom : List Status → List Basics → List Status → List Basics → ℕ → Type 0
  OpensFrom start before s ways steps = MayOpen m.family m.face span.from span.to m.program.matrix start before span.from s ways steps

  -- it stands at now after so many steps
  pub record StandsAt (start : List Status) (before : List Basics) (now : List Status) (ways : List Basics) (steps : ℕ) : Type 0 where
    pub place : RunPlace
    pub ends : List ℚ
    pub is_now : basis_of place ≡ now
    pub run_there : HasRun m.family m.face span.from span.to m.program.matrix start before place ends ways steps

  -- with so many steps left at s
  pub record ChainEnds (s now : List Status) (left : ℕ) (ways more : List Basics) (report : ParaRun) : Type 0 where
    pub path : List (List Status)
    pub chain : IsChain m.family m.face span.to span.from s (map part_of report.parts) (end_of report.end) path
    pub reaches : last_of s path ≡ now
    pub within : length path ≤ left
    pub stood : (start : List Status) (before : List Basics) (steps : ℕ) → steps + left ≡ span.limit → OpensFrom start before s ways steps →
        StandsAt start before now more (steps + length path)

  abbrev pub ChainStops : List Status → List Status → ℕ → List Basics → List Basics → PrimalStop → Type 0
  ChainStops s now left ways more stop =
      (start : List Status) (before : List Basics) (steps : ℕ) → steps + left ≡ span.limit → OpensFrom start before s ways steps →
      RunStops m.family m.face span.from span.to start now span.limit
      (RunOverflows m.family m.face span.from span.to start now span.limit (m.statement span.from) m.program.matrix before more) stop

  abbrev pub ChainFollows : List Status → List Status → ℕ → List Basics → List Basics → Type 0
  ChainFollows s now left ways more =
      (start : List Status) (before : List Basics) (steps : ℕ) → steps + left ≡ span.limit → OpensFrom start before s ways steps →
      WaypointsFollowRun m.family m.face span.from span.to start now span.limit m.program.matrix before more

  -- the run from s has ended at now within the limit, with this report
  abbrev pub MethodEnds : List Status → List Status → List Basics → List Basics → ParaReport → Type 0
  MethodEnds s now before after = RunEnds m.family m.face span.from span.to s now span.limit m.program.matrix before after

  -- an overflow comes with its evidence, where the program at the first value could not be made with evidence that needs no basis
  abbrev pub Overflows : List Status → List Status → List Basics → List Basics → Evidence → Type 0
  Overflows s now before after e =
      RunOverflows m.family m.face span.from span.to s now span.limit (m.statement span.from) m.program.matrix before after e ⊎
      (StandsThere m.family m.face span.from span.to s now span.limit × m.no_program span.from e)

  -- Limit comes where the run goes on after as many steps as the limit
  abbrev pub MethodStops : List Status → List Status → List Basics → List Basics → PrimalStop → Type 0
  MethodStops s now before after =
      RunStops m.family m.face span.from span.to s now span.limit (Overflows s now before after)

  abbrev pub MethodFollows : List Status → List Status → RatesState → RatesState → Type 0
  MethodFollows s now before after = WaypointsFollowRun m.family m.face span.from span.to s now span.limit m.program.matrix before.waypoints after.waypoints

  -- the run from s ends within the limit, and wherever the call may be on it, no evidence of an overflow holds, nor any of a program
  -- that could not be made
  abbrev pub MethodOverflowFree : List Status → List Basics → RunReport → List (List Status) → Type 0
  MethodOverflowFree s before =
      RunEndsOverflowFree m.family m.face span.from span.to s span.limit (λ now after e. Overflows s now before after e)
