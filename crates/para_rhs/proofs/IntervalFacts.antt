-- The interval of a basis: its point moves with the slope, and its prices stand still.
use Rattle.std.proofs.Common.{◌≡◌, ℕ, List, length, replicate, refl, ap, ◌∙◌, pos}
use Rattle.std.proofs.lemmas.List.{length-replicate}
use Rattle.exact_values.specs.Rational.{ℚ, zero_ℚ, ◌+ℚ◌, ◌*ℚ◌}
use Rattle.exact_values.proofs.Ring.{by_ring2, ◌⊕◌, ◌⊗◌, ◌≐◌, number}
use Rattle.lp_definitions.specs.LinearProgram.{LinearProgram, size, value_at}
use Rattle.lp_definitions.specs.Basis.{ArePricesOf, IsPointOf}
use Rattle.lp_definitions.specs.declared.Status.{Status}
use Rattle.simplex_laws.specs.Laws.{IsNonsingularBasis}
use Rattle.sensitivity_laws.proofs.RightHandSides.{points}
use Rattle.simplex_definitions.specs.Chain.{along, ReachesTo, IsPart}
use Rattle.simplex_definitions.specs.RhsRun.{rhs_family, IsSlope}
use Rattle.parametric_run.proofs.Chains.{zero_in}

module _ (p : LinearProgram) (shift : List ℚ) (s : List Status) (at : IsNonsingularBasis p s) (value slope prices : List ℚ)
    (point : IsPointOf p s (value_at value)) (sloped : IsSlope p s shift (value_at slope)) (priced : ArePricesOf p s (value_at prices)) where
  still_prices : (theta : ℚ) (n : ℕ) → ArePricesOf (rhs_family p shift theta) s (along theta prices (replicate n zero_ℚ))
  still_prices theta n = record {
    rate = priced.rate;
    are_rates = priced.are_rates;
    prices =
        λ k is. ap (λ r. value_at prices k +ℚ theta *ℚ r) (zero_in n _) ∙ by_ring2 (value_at prices k) theta (λ y x. y ⊕ x ⊗ number (pos 0) ≐ y) refl
        ∙ priced.prices k is;
  }

  pub interval : length value ≡ size p.matrix → length slope ≡ size p.matrix → length prices ≡ size p.matrix → (from max to : ℚ) →
      ReachesTo (rhs_family p shift) s from max to →
      IsPart (rhs_family p shift) from max s
      (record { from = from; to = to; statuses = s; value = value; value_rate = slope; price = prices; price_rate = replicate (size p.matrix) zero_ℚ })
  interval places slope_places price_places from max to reaches = record {
    begins = refl;
    statuses = refl;
    reaches = reaches;
    values = points p shift s at (value_at value) (value_at slope) point sloped;
    prices = λ theta. still_prices theta (size p.matrix);
    values_counted = record { value_counted = places; rate_counted = slope_places };
    prices_counted = record { value_counted = price_places; rate_counted = length-replicate (size p.matrix) zero_ℚ };
  }
