-- Evidence of the calls at a basis, as that of the dual method.
use Rattle.std.proofs.Common.{◌≡◌, ℕ, List, refl, sym, arith}
use Rattle.std.specs.Prelude.{None}
use Rattle.lp_definitions.specs.LinearProgram.{LinearProgram}
use Rattle.lp_definitions.specs.Basis.{Basics, basics_of}
use Rattle.lp_definitions.specs.Waypoints.{KeepsWaypoints}
use Rattle.lp_definitions.specs.declared.Evidence.{Evidence}
use Rattle.lp_definitions.specs.declared.Status.{Status}
use Rattle.lp_model.specs.RatesCalls.{IfOverflow}
use Rattle.lp_model.specs.declared.Stop.{Stop}
use Rattle.lp_model.specs.declared.Stop.TheVariants as stop
use Rattle.simplex_definitions.specs.Statements.{Dual}
use Rattle.basis_values.specs.Calls.{PointRefused}
use Rattle.basis_values.proofs.Covered.{point_refused_later}
use Rattle.bounded_primal.specs.Calls.{EvidenceHere}
use Rattle.dual_step.proofs.StepEvidence.{IsOwn, of_point}
use Rattle.bounded_dual.specs.Stops.{dual_stop_of}
use Rattle.bounded_dual.specs.Turns.{DualTurnStops}

pub dual_own : (p : LinearProgram) → p.change ≡ None → (s : List Status) → IsOwn p (Dual p) None s
dual_own p no_change s = record {
  no_change = no_change;
  at_zero = λ theta none. refl;
  is_theta = λ theta ends none. (0, omega arith, sym none);
  belongs_to = λ e h. h;
  enters = λ m moves. (m, moves, refl);
  steps = λ m moves. (m, moves);
  goes_to = λ e to leaver. leaver;
}

module _ (p : LinearProgram) (no_change : p.change ≡ None) (s : List Status) (left : ℕ) where
  -- a stop of the rates, of a point or of prices
  pub point_stops : (before now : List Basics) (why : Stop) → IfOverflow why (PointRefused p before s now) →
      DualTurnStops p s left before now (dual_stop_of why)
  point_stops before now (stop.Overflow e) h = of_point p (Dual p) None s (dual_own p no_change s) left before now e h
  point_stops before now stop.NoMemory h = tt

  -- the same after other calls at the basis
  pub point_stops_later : (before mid now : List Basics) (why : Stop) → KeepsWaypoints p.matrix (basics_of s) before (basics_of s) mid →
      IfOverflow why (PointRefused p mid s now) → DualTurnStops p s left before now (dual_stop_of why)
  point_stops_later before mid now (stop.Overflow e) keeps h =
      of_point p (Dual p) None s (dual_own p no_change s) left before now e (point_refused_later p before mid now s e keeps h)
  point_stops_later before mid now stop.NoMemory keeps h = tt
