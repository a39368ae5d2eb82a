-- The numbers of rates over the denominator of the multipliers.
use Rattle.std.proofs.Common.{◌≡◌, ℕ, ◌+◌, ◌-◌, ◌<◌, ◌≤◌, List, get_or, refl, sym, ◌∙◌, ap, arith, negsuc}
use Rattle.exact_values.specs.Rational.{ℚ, whole, zero_ℚ, neg_ℚ, ◌+ℚ◌, ◌*ℚ◌, ◌/ℚ◌}
use Rattle.exact_values.proofs.Ring.{by_ring2, ◌⊗◌, ◌≐◌}
use Rattle.exact_values.proofs.RingLaws.{zero-add, neg-is-mul}
use Rattle.lp_definitions.specs.LinearProgram.{size, column, value_at, IsMatrix}
use Rattle.lp_definitions.specs.Basis.{IsNonsingular}
use Rattle.lp_definitions.specs.RatesEvidence.{sum_from}
use Rattle.eta_file.specs.Inverse.{Inverse}
use Rattle.price_row.specs.Sums.{products}
use Rattle.price_row.specs.RateNumbers.{IsNumberAt}
use Rattle.price_row.proofs.WholeRows.{whole_rate_of_row, whole_rate_of_column}

opposite_of : (z x n : ℚ) → z ≡ zero_ℚ → n ≡ z +ℚ x *ℚ whole (negsuc 0) → n ≡ neg_ℚ x
opposite_of z x n none is_n =
    is_n ∙ ap (λ t. t +ℚ x *ℚ whole (negsuc 0)) none ∙ zero-add (x *ℚ whole (negsuc 0))
    ∙ by_ring2 x (whole (negsuc 0)) (λ x m. x ⊗ m ≐ m ⊗ x) refl ∙ sym (neg-is-mul x)

module _ (f : Inverse) (place : ℕ) (xs : List ℚ) (n : ℚ) (within : place < size f.matrix) where
  -- a row's is the opposite of its multiplier's
  pub number_of_row : (z x : ℚ) → place < f.matrix.rows → x ≡ value_at xs (place + 1) → z ≡ zero_ℚ → n ≡ z +ℚ x *ℚ whole (negsuc 0) →
      IsNumberAt f (place + 1) xs n
  number_of_row z x low is_x none is_n = record {
    over = λ r d basic out known.
        let here : place + 1 - 1 ≡ place = omega arith in
        whole_rate_of_row f r place d xs within known x (n /ℚ d) out low (is_x ∙ ap (λ k. get_or xs k zero_ℚ) here)
        (ap (λ t. t /ℚ d) (opposite_of z x n none is_n));
  }

  -- a column's is the sum of its numbers, each times the multiplier's of its row
  pub number_of_column : IsMatrix f.matrix → IsNonsingular f.matrix f.basics → f.matrix.rows ≤ place →
      n ≡ sum_from zero_ℚ (products xs (column f.matrix (place + 1 - f.matrix.rows))) → IsNumberAt f (place + 1) xs n
  number_of_column lawful one high is_n = record {
    over = λ r d basic out known. whole_rate_of_column f r place d xs within known n (n /ℚ d) lawful one basic out high is_n refl;
  }
