-- What a path's end tells: its lists have a value for each variable, and it is true, so each comparison of its check holds.
--     claim_steps p ending         the steps of the check of an end
use Rattle.std.proofs.Common.{◌≡◌, ℕ, List, length, Option, Some, None, refl, subst, arith}
use Rattle.exact_values.specs.Rational.{ℚ}
use Rattle.lp_definitions.specs.LinearProgram.{LinearProgram, Vector, value_at, size, IsVariable, IsLinearProgram}
use Rattle.lp_definitions.specs.declared.Status.{Status}
use Rattle.lp_definitions.specs.Basis.{basics_of, Tableau, price_at}
use Rattle.check_definitions.specs.Steps.{Step, AllHold}
use Rattle.check_definitions.specs.Checks.{optimal_steps, crossed_steps, infeasible_steps, unbounded_steps}
use Rattle.certificate_laws.proofs.Truth.{optimal_holds, crossed_holds, infeasible_holds, unbounded_holds}
use Rattle.simplex_definitions.specs.Moves.{is_crossed, goes_up, blocking_variable, is_below}
use Rattle.simplex_definitions.specs.Path.{PathEnding, EndsOptimal, EndsCrossed, EndsInfeasible, EndsUnbounded, EndsAt, Turn, Moves, Ends, listed, speeds}
use Rattle.simplex_definitions.specs.Path.{crossed, outside, worth_rate, entering_variable, restore_feasibility, run_until, improve, turn_for, turn}
use Rattle.simplex_definitions.specs.DualPath.{dual_for, dual_turn}
use Rattle.simplex_definitions.specs.DualRatio.{cheapest}
use Rattle.simplex_laws.specs.Laws.{IsNonsingularBasis}
use Rattle.simplex_laws.proofs.Numbered.{find_some}
use Rattle.simplex_laws.proofs.Ends.{optimal_end}
use Rattle.simplex_laws.proofs.UnboundedEnds.{crossed_end, unbounded_end}
use Rattle.simplex_laws.proofs.Rays.{infeasible_end}
use Rattle.parametric_laws.specs.Truth.{IsTrueFailure}
use Rattle.own_listing_laws.proofs.Columns.{sized}

module _ (p : LinearProgram) (s : List Status) (t : Tableau) where
  -- an optimal end has the point and the prices of the basis
  abbrev pub IsOf : PathEnding → Type 0
  IsOf (EndsOptimal z y) = (z ≡ listed p.matrix t.point) × (y ≡ listed p.matrix (price_at p (basics_of s) t.rate))
  IsOf (EndsCrossed k) = IsVariable p.matrix k
  IsOf (EndsInfeasible w) = length w ≡ size p.matrix
  IsOf (EndsUnbounded z d) = (length z ≡ size p.matrix) × (length d ≡ size p.matrix)

  abbrev ReportsOf : Turn → Type 0
  ReportsOf (Moves m) = Unit {0}
  ReportsOf (Ends ending) = IsOf ending

  back_tells : (r : ℕ) (o : Option ℕ) → ReportsOf (restore_feasibility p s t r o)
  back_tells r (Some q) = tt
  back_tells r None = sized p.matrix _

  until_tells : (q : ℕ) (v : Vector) (o : Option ℕ) → ReportsOf (run_until p s t q v o)
  until_tells q v (Some k) = tt
  until_tells q v None = (sized p.matrix t.point, sized p.matrix v)

  improve_tells : (o : Option ℕ) → ReportsOf (improve p s t o)
  improve_tells (Some q) = until_tells q (speeds t.rate (goes_up (worth_rate p s t) q) q) (blocking_variable p t.point
      (speeds t.rate (goes_up (worth_rate p s t) q) q))
  improve_tells None = (refl, refl)

  crossed_tells : (k : ℕ) → crossed p s t ≡ Some k → IsVariable p.matrix k
  crossed_tells k e = let found = find_some (is_crossed p) (size p.matrix) 1 k e in (found.low, omega (arith, found.high))

  turn_tells : (c o : Option ℕ) → crossed p s t ≡ c → ReportsOf (turn_for p s t c o)
  turn_tells (Some k) o e = crossed_tells k e
  turn_tells None (Some r) e = back_tells r (entering_variable p s t (Some r))
  turn_tells None None e = improve_tells (entering_variable p s t None)

  dual_tells : (c o : Option ℕ) → crossed p s t ≡ c → ReportsOf (dual_for p s t c o)
  dual_tells (Some k) o e = crossed_tells k e
  dual_tells None (Some r) e = back_tells r (cheapest p s t r (is_below p t.point r))
  dual_tells None None e = improve_tells None

  turn_is : ReportsOf (turn p s t)
  unfolding turn
  turn_is = turn_tells (crossed p s t) (outside p s t) refl

  dual_turn_is : ReportsOf (dual_turn p s t)
  unfolding dual_turn
  dual_turn_is = dual_tells (crossed p s t) (outside p s t) refl

  pub end_is : (ending : PathEnding) → turn p s t ≡ Ends ending → IsOf ending
  end_is ending e = subst ReportsOf e turn_is

  pub dual_end_is : (ending : PathEnding) → dual_turn p s t ≡ Ends ending → IsOf ending
  dual_end_is ending e = subst ReportsOf e dual_turn_is

  -- a dual path never finds that there is no best point
  abbrev NeverUnbounded : Turn → Type 0
  NeverUnbounded (Ends (EndsUnbounded z d)) = ⊥
  NeverUnbounded _ = Unit {0}

  back_bounded : (r : ℕ) (o : Option ℕ) → NeverUnbounded (restore_feasibility p s t r o)
  back_bounded r (Some q) = tt
  back_bounded r None = tt

  dual_bounded : (c o : Option ℕ) → NeverUnbounded (dual_for p s t c o)
  dual_bounded (Some k) o = tt
  dual_bounded None (Some r) = back_bounded r (cheapest p s t r (is_below p t.point r))
  dual_bounded None None = tt

  pub dual_never_unbounded : (z d : List ℚ) → dual_turn p s t ≡ Ends (EndsUnbounded z d) → ⊥
  unfolding dual_turn
  dual_never_unbounded z d e = subst NeverUnbounded e (dual_bounded (crossed p s t) (outside p s t))

-- ---- what is checked of an end

abbrev pub claim_steps : LinearProgram → PathEnding → List Step
claim_steps p (EndsOptimal z y) = optimal_steps p (value_at z) (value_at y)
claim_steps p (EndsCrossed k) = crossed_steps p k
claim_steps p (EndsInfeasible w) = infeasible_steps p (value_at w)
claim_steps p (EndsUnbounded z d) = unbounded_steps p (value_at z) (value_at d)

pub end_holds : (p : LinearProgram) → IsLinearProgram p → (s : List Status) (ending : PathEnding) → IsNonsingularBasis p s → EndsAt p s ending →
    AllHold (claim_steps p ending)
end_holds p lawful s (EndsOptimal z y) at end =
    let proved = optimal_end p s z y lawful at end in
    optimal_holds p lawful.is_matrix (value_at z) (value_at y) proved.best.feasible proved.certificate
end_holds p lawful s (EndsCrossed k) at end = crossed_holds p k (crossed_end p s k end)
end_holds p lawful s (EndsInfeasible w) at end =
    infeasible_holds p lawful.is_matrix (value_at w) (infeasible_end p s w at.is_basis at.nonsingular end)
end_holds p lawful s (EndsUnbounded z d) at end = unbounded_holds p (value_at z) (value_at d) (unbounded_end p s z d lawful at.is_basis end)

-- the end of an opening path that isn't optimal
pub failure_holds : (p : LinearProgram) → IsLinearProgram p → (ending : PathEnding) → IsTrueFailure p ending → AllHold (claim_steps p ending)
failure_holds p lawful (EndsOptimal z y) true_so = absurd true_so
failure_holds p lawful (EndsCrossed k) true_so = crossed_holds p k true_so.0
failure_holds p lawful (EndsInfeasible w) true_so = infeasible_holds p lawful.is_matrix (value_at w) true_so.ray
failure_holds p lawful (EndsUnbounded z d) true_so = unbounded_holds p (value_at z) (value_at d) true_so.proof
