-- How a path stands at a basis, and one turn of it from there.
--     StandsAt p s w at            w and at have what a turn at s needs
--     Advances result              the turn ends the path, makes a step, or stops
use Rattle.std.specs.Prelude.{◌≡◌, ◌≤◌, List, Option, Some, None, Result, Ok, Err, IsTrue}
use Rattle.lp_definitions.specs.LinearProgram.{LinearProgram, size, value_at}
use Rattle.lp_definitions.specs.Basis.{IsPointOf}
use Rattle.lp_definitions.specs.declared.Status.{Status}
use Rattle.lp_model.specs.RatesState.{RatesState}
use Rattle.lp_model.specs.declared.reports.Outcome.{Outcome}
use Rattle.simplex_definitions.specs.Path.{IsStep}
use Rattle.bounded_primal.specs.KeptPoints.{all_kept, AgreesWithPoint}
use Rattle.bounded_primal.specs.Turns.{least_outside, EndsHere, TurnStops}
use Rattle.bounded_primal.specs.Workspaces.{AreSized}
use Rattle.bounded_primal.specs.declared.moves.PrimalStop.{PrimalStop}
use Rattle.bounded_primal.specs.declared.path.Standing.{Standing}
use Rattle.bounded_primal.specs.declared.workspace.Workspace.{Workspace}

-- the values of the point that are kept are those of s, and so are those of the variables with a limit; broken is the least-numbered
-- basic outside its limits
pub record StandsAt (p : LinearProgram) (s : List Status) (w : Workspace) (at : Standing) : Type 0 where
  pub sized : AreSized (size p.matrix) w
  pub point : AgreesWithPoint p s (value_at w.point.items)
  pub kept : IsTrue (all_kept at.kept) → IsPointOf p s (value_at w.point.items)
  pub broken : at.broken ≡ least_outside p s (value_at w.point.items)

-- it makes a step from s to now, and one was left
pub record StepsTo (p : LinearProgram) (s now : List Status) (at : Standing) : Type 0 where
  pub is_step : IsStep p s now
  pub was_left : 1 ≤ at.left

-- the path ends at s; or it goes over to now; or the call stops at s
abbrev pub Advances : Result (Option Outcome) PrimalStop → LinearProgram → List Status → List Status → Standing → RatesState → RatesState → Type 0
Advances (Ok (Some outcome)) p s now at before after = EndsHere p s at.steps outcome × (now ≡ s)
Advances (Ok None) p s now at before after = StepsTo p s now at
Advances (Err stop) p s now at before after = TurnStops p s at.left before.waypoints after.waypoints stop × (now ≡ s)
