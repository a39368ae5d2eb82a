-- The dual path of a call never returns to a basis, and so it has fewer steps than there are status lists.
use Rattle.std.proofs.Common.{◌≡◌, ℕ, ◌+◌, ◌<◌, List, Ok, Err, arith}
use Rattle.std.specs.Prelude.{Result, None, IfErr, IsErrOf}
use Rattle.lp_definitions.specs.LinearProgram.{Matrix, LinearProgram, IsLinearProgram}
use Rattle.lp_definitions.specs.Basis.{Basics}
use Rattle.lp_definitions.specs.declared.Status.{Status}
use Rattle.simplex_definitions.specs.DualPath.{dual_turn, HasRightPrices}
use Rattle.simplex_laws.specs.Laws.{IsNonsingularBasis}
use Rattle.basis_values.specs.Calls.{HasRates}
use Rattle.bounded_primal.specs.Calls.{RuleNeverReturned, RuleWaypointsFollow}
use Rattle.bounded_primal.specs.declared.moves.PrimalStop.TheVariants.{Limit, Overflow, NoMemory}
use Rattle.termination_laws.specs.Laws.{lists_of}
use Rattle.termination_laws.proofs.Ending.{dual_apart, dual_limited}
use Rattle.bounded_dual.specs.Stops.{DualStopsAlong}
use Rattle.bounded_dual.specs.declared.moves.DualStop.{DualStop}
use Rattle.bounded_dual.specs.declared.moves.DualStop.TheVariants.{NotDualFeasible, Path}

module _ (p : LinearProgram) (lawful : IsLinearProgram p) (no_change : p.change ≡ None) (a : Matrix) (b : Basics) (s : List Status)
    (has : HasRates a b p s) where
  begun : IsNonsingularBasis p s
  begun = record { is_basis = has.is_basis; nonsingular = has.nonsingular }

  pub never_returned : (now : List Status) (before after : List Basics) → RuleWaypointsFollow dual_turn p s now before after → HasRightPrices p s →
      RuleNeverReturned dual_turn p s now
  never_returned now before after h right =
      record { bases = h.bases; is_path = h.is_path; reaches = h.reaches; apart = dual_apart p lawful no_change s h.bases begun right h.is_path }

  -- a path that goes on after as many steps as the limit allows
  pub limit_below : {T : Type 0} (now : List Status) (limit : ℕ) (before after : List Basics) (result : Result T DualStop) →
      IfErr result (DualStopsAlong p s now limit before after) → IsErrOf result (Path Limit) → limit < lists_of p
  limit_below now limit before after (Ok value) h is = cc
  limit_below now limit before after (Err (NotDualFeasible j)) h is = cc
  limit_below now limit before after (Err (Path Limit)) h is = let few = dual_limited p lawful no_change s limit begun h.0 h.1.goes_on in omega (arith, few)
  limit_below now limit before after (Err (Path (Overflow e))) h is = cc
  limit_below now limit before after (Err (Path NoMemory)) h is = cc
