-- A run of the right-hand side, as code makes it.
--     reported_at theta stop       a stop of the path at theta, as that of a run
--     Overflows e                  why a call stops by an overflow
--     RhsEnds, RhsStops, RhsFollows     what the whole call promises
--     RhsOverflowFree              the run that the whole call has to answer
use Rattle.std.specs.Prelude.{◌⊎◌, List, []}
use Rattle.exact_values.specs.Rational.{ℚ}
use Rattle.lp_definitions.specs.LinearProgram.{LinearProgram}
use Rattle.lp_definitions.specs.Basis.{Basics}
use Rattle.lp_definitions.specs.declared.Evidence.{Evidence}
use Rattle.lp_definitions.specs.declared.Status.{Status}
use Rattle.lp_model.specs.RatesState.{RatesState}
use Rattle.lp_model.specs.declared.reports.ParaReport.{ParaReport}
use Rattle.simplex_definitions.specs.Chain.{RunReport}
use Rattle.simplex_definitions.specs.Evidence.{ShiftHolds}
use Rattle.bounded_primal.specs.declared.moves.PrimalStop.{PrimalStop}
use Rattle.bounded_primal.specs.declared.moves.PrimalStop.TheVariants.{Limit, Overflow, NoMemory}
use Rattle.parametric_run.specs.Calls.{RunEnds, StandsThere, WaypointsFollowRun, RunOverflows, RunStops}
use Rattle.parametric_run.specs.Complete.{RunEndsOverflowFree}
use Rattle.parametric_run.specs.Truth.{IsTrueReported}
use Rattle.para_rhs.specs.Faces.{family, Face, statement}
use Rattle.para_rhs.specs.declared.parts.ParaRhs.{ParaRhs}

-- the stop of the path at the first value, as that of a run: its evidence is of that value
abbrev pub reported_at : ℚ → PrimalStop → PrimalStop
reported_at theta Limit = Limit
reported_at theta (Overflow e) = Overflow (record e { theta = theta })
reported_at theta NoMemory = NoMemory

module _ (p : LinearProgram) (run : ParaRhs) where
  -- the run from s has ended at now within the limit, with this report
  abbrev pub RhsEnds : List Status → List Status → List Basics → List Basics → ParaReport → Type 0
  RhsEnds s now before after = RunEnds (family p run) (Face p run) run.from run.to s now run.limit p.matrix before after

  -- an overflow comes with its evidence, where a limit at the first value could not be made with evidence that needs no basis
  abbrev pub Overflows : List Status → List Status → List Basics → List Basics → Evidence → Type 0
  Overflows s now before after e =
      RunOverflows (family p run) (Face p run) run.from run.to s now run.limit (statement p run) p.matrix before after e ⊎
      (StandsThere (family p run) (Face p run) run.from run.to s now run.limit × ShiftHolds (statement p run) [] e)

  -- Limit comes where the run goes on after as many steps as the limit
  abbrev pub RhsStops : List Status → List Status → List Basics → List Basics → PrimalStop → Type 0
  RhsStops s now before after =
      RunStops (family p run) (Face p run) run.from run.to s now run.limit (Overflows s now before after)

  abbrev pub RhsFollows : List Status → List Status → RatesState → RatesState → Type 0
  RhsFollows s now before after = WaypointsFollowRun (family p run) (Face p run) run.from run.to s now run.limit p.matrix before.waypoints after.waypoints

  abbrev pub IsTrueRhs : ParaReport → Type 0
  IsTrueRhs = IsTrueReported (family p run) run.from run.to

  -- the run from s ends within the limit, and wherever the call may be on it, no evidence of an overflow holds, nor any of a limit
  -- that could not be made
  abbrev pub RhsOverflowFree : List Status → List Basics → RunReport → List (List Status) → Type 0
  RhsOverflowFree s before =
      RunEndsOverflowFree (family p run) (Face p run) run.from run.to s run.limit (λ now after e. Overflows s now before after e)
