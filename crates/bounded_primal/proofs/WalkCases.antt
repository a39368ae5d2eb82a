-- What a turn of the path gives, from what its calls gave.
use Rattle.std.proofs.Common.{◌≡◌, ℕ, ◌-◌, List, arith}
use Rattle.lp_definitions.specs.LinearProgram.{LinearProgram, Vector}
use Rattle.lp_definitions.specs.Basis.{Basics, basics_of}
use Rattle.lp_definitions.specs.Waypoints.{KeepsWaypoints}
use Rattle.lp_definitions.specs.declared.Status.{Status}
use Rattle.lp_model.specs.RatesCalls.{IfOverflow}
use Rattle.lp_model.specs.declared.Stop.{Stop}
use Rattle.simplex_definitions.specs.Path.{turn, after, IsStep}
use Rattle.basis_values.specs.Calls.{PointRefused}
use Rattle.bounded_primal.specs.Moves.{move_by, StepRefused}
use Rattle.bounded_primal.specs.Stops.{primal_stop_of, PrimalStopsAlong}
use Rattle.bounded_primal.specs.Turns.{MovesOn, TurnStops}
use Rattle.bounded_primal.specs.declared.moves.BlockingVariable.{BlockingVariable}
use Rattle.bounded_primal.proofs.StepFacts.{ReachesLimit, step_reaches, limit_apart}
use Rattle.bounded_primal.proofs.TurnEvidence.{of_step, step_refused_later, turn_stops}
use Rattle.bounded_primal.proofs.TurnCases.{point_stops}
use Rattle.bounded_primal.proofs.PathWalk.{begins, stops_there}

-- the point of the first basis could not be made
pub stops_at_once : (p : LinearProgram) (s : List Status) (limit : ℕ) (before now : List Basics) (why : Stop) → IfOverflow why (PointRefused p before s now) →
    PrimalStopsAlong p s s limit before now (primal_stop_of why)
stops_at_once p s limit before now why h =
    stops_there p s before s before 0 (begins turn p s before) limit now (primal_stop_of why) (omega arith) (point_stops p s (limit - 0) before now why h)

module _ (p : LinearProgram) (now : List Status) (d : Vector) (q : ℕ) (by : BlockingVariable) (left : ℕ) (h : MovesOn p now d q by left) where
  reach : ReachesLimit p h.step.point d by
  reach = step_reaches p now h.step.point d q by h.step.is_step h.pivot

  pub step_stops : (ways mid more : List Basics) (why : Stop) → KeepsWaypoints p.matrix (basics_of now) ways (basics_of now) mid →
      IfOverflow why (StepRefused p mid now q by more) → TurnStops p now left ways more (primal_stop_of why)
  step_stops ways mid more why keeps refused =
      turn_stops p now left ways more why (StepRefused p mid now q by more)
      (λ e x. of_step p now left ways more e q by h.enters h.moves (limit_apart p by.p by.to reach.limit reach.is_limit).0 h.was_left
      (step_refused_later p ways mid more now q by e keeps x)) refused

  pub step_made : (next : List Status) → next ≡ after now (move_by q by) → IsStep p now next
  step_made next is = record { tableau = h.moves.0; is_tableau = h.moves.1; move = move_by q by; turns = h.moves.2; is_next = is }
