-- A run of the objective, as code makes it.
--     ObjectiveEnds, ObjectiveStops, ObjectiveFollows     what the whole call promises
--     ObjectiveOverflowFree                               the run that the whole call has to answer
use Rattle.std.specs.Prelude.{List}
use Rattle.lp_definitions.specs.LinearProgram.{LinearProgram}
use Rattle.lp_definitions.specs.Basis.{Basics}
use Rattle.lp_definitions.specs.declared.Status.{Status}
use Rattle.lp_model.specs.RatesState.{RatesState}
use Rattle.lp_model.specs.declared.reports.ParaReport.{ParaReport}
use Rattle.simplex_definitions.specs.Chain.{RunReport}
use Rattle.bounded_primal.specs.declared.moves.PrimalStop.{PrimalStop}
use Rattle.parametric_run.specs.Calls.{RunEnds, WaypointsFollowRun, RunOverflows, RunStops}
use Rattle.parametric_run.specs.Complete.{RunEndsOverflowFree}
use Rattle.parametric_run.specs.Truth.{IsTrueReported}
use Rattle.para_objective.specs.Faces.{family, Face, statement}
use Rattle.para_objective.specs.declared.parts.ParaObj.{ParaObj}

module _ (p : LinearProgram) (run : ParaObj) where
  -- the run from s has ended at now within the limit, with this report
  abbrev pub ObjectiveEnds : List Status → List Status → List Basics → List Basics → ParaReport → Type 0
  ObjectiveEnds s now before after = RunEnds (family p run) (Face p run) run.from run.to s now run.limit p.matrix before after

  -- Limit comes where the run goes on after as many steps as the limit, and an overflow with its evidence
  abbrev pub ObjectiveStops : List Status → List Status → List Basics → List Basics → PrimalStop → Type 0
  ObjectiveStops s now before after =
      RunStops (family p run) (Face p run) run.from run.to s now run.limit
      (RunOverflows (family p run) (Face p run) run.from run.to s now run.limit (statement p run) p.matrix before after)

  abbrev pub ObjectiveFollows : List Status → List Status → RatesState → RatesState → Type 0
  ObjectiveFollows s now before after = WaypointsFollowRun (family p run) (Face p run) run.from run.to s now run.limit p.matrix before.waypoints after.waypoints

  abbrev pub IsTrueObjective : ParaReport → Type 0
  IsTrueObjective = IsTrueReported (family p run) run.from run.to

  -- the run from s ends within the limit, and wherever the call may be on it, no evidence of an overflow holds
  abbrev pub ObjectiveOverflowFree : List Status → List Basics → RunReport → List (List Status) → Type 0
  ObjectiveOverflowFree s before =
      RunEndsOverflowFree (family p run) (Face p run) run.from run.to s run.limit
      (λ now after e. RunOverflows (family p run) (Face p run) run.from run.to s now run.limit (statement p run) p.matrix before after e)
