-- What a call of the dual method promises.
--     dual_stop_of                 a stop of one call as that of the path
--     DualEnds                     the path has ended within the limit, from right prices to right prices
--     DualStops                    what holds after a call that has stopped; DualStopsAlong the same, of the waypoints before and after it
--     DualWaypointsFollow          where the waypoints lie after the path of a call
--     IsNotUnbounded               the outcome isn't that the objective has no bound
use Rattle.std.specs.Prelude.{◌≡◌, ℕ, ◌≤◌, List, length}
use Rattle.lp_definitions.specs.LinearProgram.{LinearProgram}
use Rattle.lp_definitions.specs.Basis.{Basics}
use Rattle.lp_definitions.specs.declared.Status.{Status}
use Rattle.lp_model.specs.RatesState.{RatesState}
use Rattle.lp_model.specs.declared.Stop.{Stop}
use Rattle.lp_model.specs.declared.reports.Outcome.{Outcome}
use Rattle.lp_model.specs.declared.reports.Outcome.TheVariants.{Optimal, Crossed, Infeasible, Unbounded}
use Rattle.simplex_definitions.specs.Path.{last_of}
use Rattle.simplex_definitions.specs.DualPath.{dual_turn, HasRightPrices, IsWrongAt, IsDualPath}
use Rattle.simplex_definitions.specs.Statements.{Dual}
use Rattle.bounded_primal.specs.Calls.{RuleCallEnds, RuleCallGoesOn, RuleStopsOnPath, RuleWaypointsFollow}
use Rattle.bounded_primal.specs.Stops.{primal_stop_of}
use Rattle.bounded_primal.specs.declared.moves.PrimalStop.TheVariants.{Limit, Overflow, NoMemory}
use Rattle.bounded_dual.specs.declared.moves.DualStop.{DualStop}
use Rattle.bounded_dual.specs.declared.moves.DualStop.TheVariants.{NotDualFeasible, Path}

abbrev pub dual_stop_of : Stop → DualStop
dual_stop_of why = Path (primal_stop_of why)

-- the prices of s are right, and so are those of the basis where the path ends
pub record DualEnds (p : LinearProgram) (s now : List Status) (limit : ℕ) (outcome : Outcome) : Type 0 where
  pub right : HasRightPrices p s
  pub stays : HasRightPrices p now
  pub call : RuleCallEnds dual_turn p s now limit outcome

-- a wrong price is named before any step; the limit is reached where the path goes on from right prices; an overflow shows its
-- evidence on the path so far
abbrev pub DualStopsAlong : LinearProgram → List Status → List Status → ℕ → List Basics → List Basics → DualStop → Type 0
DualStopsAlong p s now limit before after (NotDualFeasible j) = IsWrongAt p s j × (now ≡ s)
DualStopsAlong p s now limit before after (Path Limit) = HasRightPrices p s × RuleCallGoesOn dual_turn p s now limit
DualStopsAlong p s now limit before after (Path (Overflow e)) = RuleStopsOnPath dual_turn (Dual p) p s now limit before after e
DualStopsAlong p s now limit before after (Path NoMemory) =
    (bases : List (List Status)) × (IsDualPath p s bases × (last_of s bases ≡ now)) × (length bases ≤ limit)

-- of how the rates stand before and after the call
abbrev pub DualStops : LinearProgram → List Status → List Status → ℕ → RatesState → RatesState → DualStop → Type 0
DualStops p s now limit before after = DualStopsAlong p s now limit before.waypoints after.waypoints

abbrev pub DualWaypointsFollow : LinearProgram → List Status → List Status → RatesState → RatesState → Type 0
DualWaypointsFollow p s now before after = RuleWaypointsFollow dual_turn p s now before.waypoints after.waypoints

abbrev pub IsNotUnbounded : Outcome → Type 0
IsNotUnbounded (Optimal steps point prices) = Unit {0}
IsNotUnbounded (Crossed k) = Unit {0}
IsNotUnbounded (Infeasible steps ray) = Unit {0}
IsNotUnbounded (Unbounded steps point direction) = ⊥
