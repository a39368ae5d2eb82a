-- Where finitely many conditions on the parameter say at which values a basis is optimal, there is a greatest value up to which it is; and
-- the lists of an interval hold the vectors that they are made of.
use Rattle.std.proofs.Common.{◌≡◌, ◌⊎◌, inl, inr, ℕ, List, length, sym, ap₂, subst, ◌∙◌}
use Rattle.std.specs.Prelude.{◌↔◌}
use Rattle.std.proofs.lemmas.List.{length-map}
use Rattle.exact_values.specs.Rational.{ℚ, ◌+ℚ◌, ◌*ℚ◌, ◌≤ℚ◌, ◌<ℚ◌}
use Rattle.exact_values.proofs.Order.{le_refl, le_trans, le_of_lt, lt_or_le}
use Rattle.affine_laws.specs.Conditions.{Condition, AllHold, reach_of, IsReach}
use Rattle.affine_laws.proofs.Lists.{reach}
use Rattle.lp_definitions.specs.LinearProgram.{Matrix, LinearProgram, Vector, size, variables, IsVariable, lower_of, upper_of}
use Rattle.lp_definitions.specs.Basis.{status_of, StandsAt, IsPointOf, IsOptimalBasis}
use Rattle.lp_definitions.specs.declared.Status.{Status}
use Rattle.lp_laws.proofs.Equations.{KeepsEquations-same}
use Rattle.lp_laws.proofs.Opening.{length-numbers_from}
use Rattle.simplex_definitions.specs.Path.{listed}
use Rattle.simplex_definitions.specs.Chain.{along, ReachesTo, AreCounted}
use Rattle.simplex_laws.proofs.Ends.{value_at-listed}

module _ (family : ℚ → LinearProgram) (s : List Status) (cs : List Condition) (same : (x : ℚ) → AllHold cs x ↔ IsOptimalBasis (family x) s) where
  pub reaches_to : (from max : ℚ) → from ≤ℚ max → IsOptimalBasis (family from) s → ReachesTo family s from max (reach_of max cs)
  reaches_to from max forward optimal = record {
    forward = reached.forward;
    within = reached.at_most;
    optimal = λ x after before. (same x).0 (reached.holds x after before);
    greatest = λ u below all. by_order u below all (lt_or_le u from);
  }
    where
      reached : IsReach cs from max (reach_of max cs)
      reached = reach cs from max ((same from).1 optimal) forward

      by_order : (u : ℚ) → u ≤ℚ max → ((x : ℚ) → from ≤ℚ x → x ≤ℚ u → IsOptimalBasis (family x) s) → (u <ℚ from) ⊎ (from ≤ℚ u) → u ≤ℚ reach_of max cs
      by_order u below all (inl early) = le_trans (le_of_lt early) reached.forward
      by_order u below all (inr late) = reached.greatest u below ((same u).1 (all u late (le_refl u)))

-- ---- lists of values

sized : (a : Matrix) (f : Vector) → length (listed a f) ≡ size a
sized a f = length-map (variables a) f ∙ length-numbers_from 1 (size a)

pub are_counted : (family : ℚ → LinearProgram) (from : ℚ) (value rate : Vector) →
    AreCounted family from (listed (family from).matrix value) (listed (family from).matrix rate)
are_counted family from value rate = record { value_counted = sized (family from).matrix value; rate_counted = sized (family from).matrix rate }

pub along_listed : (a : Matrix) (theta : ℚ) (value rate : Vector) (k : ℕ) → IsVariable a k →
    along theta (listed a value) (listed a rate) k ≡ value k +ℚ theta *ℚ rate k
along_listed a theta value rate k is = ap₂ (λ z v. z +ℚ theta *ℚ v) (value_at-listed a value k is) (value_at-listed a rate k is)

-- a vector with the values of the point of a basis is its point
pub point_same : (p : LinearProgram) (s : List Status) (z w : Vector) → ((k : ℕ) → IsVariable p.matrix k → w k ≡ z k) → IsPointOf p s z → IsPointOf p s w
point_same p s z w same point = record {
  keeps = KeepsEquations-same p.matrix z w (λ k is. sym (same k is)) point.keeps;
  placed = λ k is. subst (StandsAt (status_of s k) (lower_of p k) (upper_of p k)) (sym (same k is)) (point.placed k is);
}
