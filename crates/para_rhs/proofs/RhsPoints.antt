-- Where the basis is optimal, by its point at 0 and its slope, and how far that reaches.
use Rattle.std.proofs.Common.{List, ◌⊎◌, inl, inr, true, false}
use Rattle.std.specs.Prelude.{◌↔◌, Option, Some, None, IsSome, unwrap_or, option_map}
use Rattle.exact_values.specs.Rational.{ℚ, ◌≤ℚ◌, ◌<ℚ◌}
use Rattle.exact_values.proofs.Order.{le_refl, le_trans, le_of_lt, lt_or_le}
use Rattle.affine_laws.specs.Ends.{IsBefore, IsBetweenEnds}
use Rattle.affine_laws.specs.declared.tightening.Endpoint.{Endpoint}
use Rattle.affine_laws.specs.declared.tightening.Ends.{Ends}
use Rattle.lp_definitions.specs.LinearProgram.{LinearProgram, Vector, size, IsLinearProgram}
use Rattle.lp_definitions.specs.Basis.{IsPointOf, IsOptimalBasis}
use Rattle.lp_definitions.specs.declared.Status.{Status}
use Rattle.simplex_laws.specs.Laws.{IsNonsingularBasis}
use Rattle.simplex_definitions.specs.Chain.{ReachesTo}
use Rattle.simplex_definitions.specs.RhsRun.{rhs_family, IsSlope}
use Rattle.sensitivity_laws.specs.Changes.{ValuesStay}
use Rattle.sensitivity_laws.specs.Laws.{IsDualFeasibleBasis}
use Rattle.sensitivity_laws.proofs.RightHandSides.{right_hand_sides, dual_feasible}
use Rattle.sensitivity_laws.proofs.Rows.{lawful_rows}
use Rattle.para_rhs.specs.Reach.{StaysTo, IsReachOf}

module _ (p : LinearProgram) (shift : List ℚ) (lawful : IsLinearProgram p) (s : List Status) (at : IsNonsingularBasis p s) (z v : Vector)
    (point : IsPointOf p s z) (slope : IsSlope p s shift v) where
  -- a basis that is optimal at one value is so just where each variable is within its limits
  pub optimal_where : (from : ℚ) → IsOptimalBasis (rhs_family p shift from) s → (x : ℚ) →
      IsOptimalBasis (rhs_family p shift x) s ↔ StaysTo p shift z v (size p.matrix) x
  optimal_where from optimal x = (λ o k low high. stays.0 o k (low, high), λ h. stays.1 (λ k is. h k is.0 is.1))
    where
      dual : IsDualFeasibleBasis p s (record { point = z; rate = optimal.tableau.rate })
      dual = dual_feasible p shift from s (lawful_rows p lawful) (record { point = z; rate = optimal.tableau.rate }) at.is_basis at.nonsingular
          (record { is_point = point; are_rates = optimal.is_tableau.are_rates }) optimal

      stays : IsOptimalBasis (rhs_family p shift x) s ↔ ValuesStay p shift z v x
      stays = right_hand_sides p s (record { point = z; rate = optimal.tableau.rate }) dual shift v slope x

  -- ---- the reach

  module _ (max : ℚ) (ends : Ends) (reach : IsReachOf p shift z v (size p.matrix) max ends) (from : ℚ) (before : from ≤ℚ max)
      (optimal : IsOptimalBasis (rhs_family p shift from) s) where
    pub there : StaysTo p shift z v (size p.matrix) from
    there = (optimal_where from optimal from).0 optimal

    pub starts : IsBetweenEnds ends from
    starts = (reach from before there from (le_refl from)).1 (before, there)

    module _ (to : ℚ) (is_high : (x : ℚ) → from ≤ℚ x → IsBetweenEnds ends x ↔ (x ≤ℚ to)) where
      forward : from ≤ℚ to
      forward = (is_high from (le_refl from)).0 starts

      stays : (x : ℚ) → from ≤ℚ x → x ≤ℚ to → (x ≤ℚ max) × StaysTo p shift z v (size p.matrix) x
      stays x low high = (reach from before there x low).0 ((is_high x low).1 high)

      greatest : (u : ℚ) → u ≤ℚ max → ((theta : ℚ) → from ≤ℚ theta → theta ≤ℚ u → IsOptimalBasis (rhs_family p shift theta) s) → (u <ℚ from) ⊎ (from ≤ℚ u) →
          u ≤ℚ to
      greatest u within all (inl less) = le_trans (le_of_lt less) forward
      greatest u within all (inr le) = (is_high u le).0 ((reach from before there u le).1 (within, (optimal_where from optimal u).0 (all u le (le_refl u))))

      pub reaches : ReachesTo (rhs_family p shift) s from max to
      reaches = record {
        forward = forward;
        within = (stays to forward (le_refl to)).0;
        optimal = λ theta low high. (optimal_where from optimal theta).1 (stays theta low high).1;
        greatest = λ u within all. greatest u within all (lt_or_le u from);
      }

-- past a value between the ends, those between them are those up to the upper one
module _ (low high : Option Endpoint) (from : ℚ) (starts : IsBetweenEnds (record { low = low; high = high }) from) where
  above_low : (o : Option Endpoint) → IsBefore false o from → (x : ℚ) → from ≤ℚ x → IsBefore false o x
  above_low None h x after = tt
  above_low (Some e) h x after = le_trans h after

  below_high : (o : Option Endpoint) (max : ℚ) → IsSome o → (x : ℚ) → IsBefore true o x ↔ (x ≤ℚ unwrap_or (option_map (λ e. e.value) o) max)
  below_high None max there x = absurd (let P : IsSome (let o : Option Endpoint = None in o) → ⊥ = λ e. cc in P there)
  below_high (Some e) max there x = (λ h. h, λ h. h)

  pub up_to_high : (max : ℚ) → IsSome high → (x : ℚ) → from ≤ℚ x →
      IsBetweenEnds (record { low = low; high = high }) x ↔ (x ≤ℚ unwrap_or (option_map (λ e. e.value) high) max)
  up_to_high max there x after = (λ b. (below_high high max there x).0 b.1, λ le. (above_low low starts.0 x after, (below_high high max there x).1 le))
