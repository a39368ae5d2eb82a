-- The interval of a basis: its point stands still, and its prices move with the rates of the change row.
use Rattle.std.proofs.Common.{◌≡◌, ℕ, Bool, true, false, List, None, length, replicate, cond, refl, ap, ap₂, ◌∙◌, pos}
use Rattle.std.proofs.lemmas.List.{length-replicate}
use Rattle.exact_values.specs.Rational.{ℚ, zero_ℚ, ◌+ℚ◌, ◌*ℚ◌}
use Rattle.exact_values.proofs.Ring.{by_ring2, by_ring1, ◌⊕◌, ◌⊗◌, ◌≐◌, number}
use Rattle.lp_definitions.specs.LinearProgram.{LinearProgram, size, value_at, IsRow, IsVariable, IsLinearProgram}
use Rattle.lp_definitions.specs.Basis.{basics_of, is_in, ArePricesOf, IsPointOf, objective_rate}
use Rattle.lp_definitions.specs.declared.Status.{Status}
use Rattle.lp_model.specs.RatesCalls.{IsRowOf}
use Rattle.simplex_laws.specs.Laws.{IsNonsingularBasis}
use Rattle.simplex_definitions.specs.Chain.{along, ReachesTo, IsPart}
use Rattle.simplex_definitions.specs.ObjectiveRun.{objective_family}
use Rattle.bounded_primal.proofs.StepFacts.{point_same}
use Rattle.para_objective.proofs.Reaches.{price_is, rate_is}
use Rattle.parametric_run.proofs.Chains.{zero_in}

module _ (p : LinearProgram) (s : List Status) (h : ℕ) (lawful : IsLinearProgram p) (no_change : p.change ≡ None) (row : IsRow p.matrix h)
    (basis : IsNonsingularBasis p s)
    (prices change : List ℚ) (priced : ArePricesOf p s (value_at prices)) (changed : IsRowOf p.matrix (basics_of s) h (value_at change)) where
  -- the point, whose rate is 0
  still_point : (theta : ℚ) (point : List ℚ) (n : ℕ) → IsPointOf p s (value_at point) →
      IsPointOf (objective_family p h theta) s (along theta point (replicate n zero_ℚ))
  still_point theta point n is =
      let same = point_same p s (value_at point) (along theta point (replicate n zero_ℚ))
      (λ k _. ap (λ r. value_at point k +ℚ theta *ℚ r) (zero_in n _) ∙ by_ring2 (value_at point k) theta (λ z y. z ⊕ y ⊗ number (pos 0) ≐ z) refl) is in
      record { keeps = same.keeps; placed = same.placed }

  -- the prices, with those of the change row
  moved_prices : (theta : ℚ) → ArePricesOf (objective_family p h theta) s (along theta prices change)
  moved_prices theta = record { rate = priced.rate; are_rates = priced.are_rates; prices = λ k is. by_mark k is (is_in (basics_of s) k) refl }
    where
      by_mark : (k : ℕ) → IsVariable p.matrix k → (mark : Bool) → is_in (basics_of s) k ≡ mark →
          along theta prices change k ≡ cond mark zero_ℚ (objective_rate (objective_family p h theta) priced.rate k)
      by_mark k is true mark =
          ap₂ (λ a b. a +ℚ theta *ℚ b) (priced.prices k is ∙ ap (λ m. cond m zero_ℚ (objective_rate p priced.rate k)) mark)
          (changed.entries k is ∙ ap (λ m. cond m zero_ℚ (changed.rate h k)) mark)
          ∙ by_ring1 theta (λ y. number (pos 0) ⊕ y ⊗ number (pos 0) ≐ number (pos 0)) refl
      by_mark k is false mark =
          ap₂ (λ a b. a +ℚ theta *ℚ b)
          (price_is p s h lawful no_change row basis (value_at prices) (value_at change) priced changed priced.rate priced.are_rates k (is, mark))
          (rate_is p s h lawful no_change row basis (value_at prices) (value_at change) priced changed priced.rate priced.are_rates k (is, mark))

  pub interval : (point : List ℚ) → IsPointOf p s (value_at point) → length point ≡ size p.matrix → length prices ≡ size p.matrix →
      length change ≡ size p.matrix →
      (from max to : ℚ) → ReachesTo (objective_family p h) s from max to →
      IsPart (objective_family p h) from max s
      (record { from = from; to = to; statuses = s; value = point; value_rate = replicate (size p.matrix) zero_ℚ; price = prices; price_rate = change })
  interval point is places price_places change_places from max to reaches = record {
    begins = refl;
    statuses = refl;
    reaches = reaches;
    values = λ theta. still_point theta point (size p.matrix) is;
    prices = moved_prices;
    values_counted = record { value_counted = places; rate_counted = length-replicate (size p.matrix) zero_ℚ };
    prices_counted = record { value_counted = price_places; rate_counted = change_places };
  }
