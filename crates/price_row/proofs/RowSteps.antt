-- A row that is carried back to the rows, and the rates that it gives.
use Rattle.std.proofs.Common.{◌≡◌, ◌≢◌, ℕ, suc, ◌+◌, ◌-◌, ◌<◌, ◌≤◌, List, [], ◌∷◌, length, take, get_or, refl, sym, ◌∙◌, ap, true, false, cond, Bool, subst}
use Rattle.std.proofs.Common.{arith, Ok, Err, Result}
use Rattle.std.specs.Prelude.{nat_eq, nat_le, IfOk, IfErr, pos}
use Rattle.exact_values.specs.Rational.{ℚ, zero_ℚ, one_ℚ, neg_ℚ, ◌+ℚ◌, ◌-ℚ◌, ◌*ℚ◌}
use Rattle.exact_values.specs.Sums.{sum_to}
use Rattle.exact_values.proofs.Sums.{sum_to-same}
use Rattle.exact_values.proofs.Ring.{by_ring1, by_ring2, ◌⊕◌, ◌⊖◌, ◌≐◌, opposite, number}
use Rattle.exact_values.proofs.RingLaws.{zero-add}
use Rattle.lp_definitions.specs.LinearProgram.{size, entry, column, IsMatrix, IsVariable, IsColumn, value_at}
use Rattle.lp_definitions.specs.Basis.{Basics, is_in, IsBasic, IsNonsingular, AreRates, row_basics}
use Rattle.lp_definitions.specs.RatesEvidence.{multiplier, sum_from}
use Rattle.lp_laws.specs.Vectors.{column_value, unit}
use Rattle.lp_laws.specs.Rates.{opening_rate}
use Rattle.lp_laws.proofs.Entries.{sum_of_entries}
use Rattle.lp_laws.proofs.Functionals.{functional_at_unit, KeepsEquations-unit}
use Rattle.lp_laws.proofs.Combination.{multiplier_vanishes}
use Rattle.lp_laws.proofs.Opening.{is_in-row_basics, length-row_basics, AreRates-opening}
use Rattle.lp_model.specs.RatesCalls.{IsRowOf, RowOverflow}
use Rattle.lp_model.specs.declared.Stop.{Stop}
use Rattle.eta_file.specs.declared.eta.StoredEta.{StoredEta}
use Rattle.eta_file.specs.Prefixes.{Passed, after}
use Rattle.eta_file.specs.Inverse.{Inverse, file_state, IsRateAt, IsColumnStop}
use Rattle.eta_file.proofs.ColumnLaws.{row_stop}
use Rattle.eta_file.proofs.PrefixLaws.{rates_after}
use Rattle.price_row.specs.Sums.{products}
use Rattle.price_row.specs.Known.{set_of, IsKnown, IsRateOf, IsUnit, HasMultipliers, IsFilledFrom, IsMultiplierOf}

take_whole_etas : (es : List StoredEta) → take (length es) es ≡ es
take_whole_etas [] = refl
take_whole_etas (e ∷ es) = ap (λ rest. e ∷ rest) (take_whole_etas es)

after_none : (b : Basics) (es : List StoredEta) → after b (take 0 es) ≡ b
after_none b [] = refl
after_none b (e ∷ es) = refl

-- at the basics themselves the multipliers are 1 and 0
pub known_at_end : (f : Inverse) (n r : ℕ) (xs : List ℚ) → f.basics ≡ after (row_basics f.matrix) f.etas → n ≡ length f.etas → IsUnit r xs → IsKnown f n r xs
known_at_end f n r xs are is_n h = record {
  each = λ rate are_rates k var inside.
      let whole : set_of f n ≡ f.basics = ap (set_of f) is_n ∙ ap (after (row_basics f.matrix)) (take_whole_etas f.etas) ∙ sym are in
      at k var (nat_eq k r) refl ∙ sym (ap (λ m. cond m (cond (nat_eq k r) one_ℚ zero_ℚ) (neg_ℚ (rate r k))) (sym (ap (λ b. is_in b k) whole) ∙ inside));
}
  where
    at : (k : ℕ) → IsVariable f.matrix k → (b : Bool) → nat_eq k r ≡ b → value_at xs k ≡ cond b one_ℚ zero_ℚ
    at k var true e = let is : k ≡ r = grind (arith, e) in ap (value_at xs) is ∙ h.own
    at k var false e = let other : k ≢ r = grind (arith, e) in h.others k var.0 other

-- the multipliers of the rows are known
pub rows_known : (f : Inverse) (r : ℕ) (xs : List ℚ) → IsKnown f 0 r xs → IsFilledFrom f (size f.matrix) r xs
rows_known f r xs h = record {
  known = λ rate are k below in_rows.
      let var : IsVariable f.matrix (k + 1) = (omega arith, omega (arith, below)) in
      let place : k + 1 - 1 ≡ k = omega arith in
      let low : nat_le (k + 1) f.matrix.rows ≡ true = grind (arith, in_rows) in
      ap (λ n. get_or xs n zero_ℚ) (sym place)
      ∙ h.each rate are (k + 1) var (ap (λ b. is_in b (k + 1)) (after_none (row_basics f.matrix) f.etas) ∙ is_in-row_basics f.matrix (k + 1) var ∙ low);
  filled = λ k past within. absurd (omega (arith, past, within));
}

-- a file has rates
pub rates_are : (f : Inverse) → f.basics ≡ after (row_basics f.matrix) f.etas → Passed f.matrix (row_basics f.matrix) f.etas →
    (rate : ℕ → ℕ → ℚ) × AreRates f.matrix f.basics rate
rates_are f are passed =
    subst (λ b. (rate : ℕ → ℕ → ℚ) × AreRates f.matrix b rate) (sym are)
    (rates_after f.matrix (row_basics f.matrix) f.etas (opening_rate f.matrix) (length-row_basics f.matrix) (AreRates-opening f.matrix) passed)

-- the rates at all variables are the row
pub row_is : (f : Inverse) (r : ℕ) (xs : List ℚ) → f.basics ≡ after (row_basics f.matrix) f.etas → Passed f.matrix (row_basics f.matrix) f.etas →
    IsFilledFrom f 0 r xs → IsRowOf f.matrix f.basics r (value_at xs)
row_is f r xs are passed h = record {
  rate = rates.0;
  are_rates = rates.1;
  entries = λ k is.
      let number : k - 1 + 1 ≡ k = omega (arith, is.0) in
      (h.filled (k - 1) (omega arith) (omega (arith, is.0, is.1))).is_rate rates.0 rates.1 ∙ ap (λ n. cond (is_in f.basics n) zero_ℚ (rates.0 r n)) number;
}
  where
    rates : (rate : ℕ → ℕ → ℚ) × AreRates f.matrix f.basics rate
    rates = rates_are f are passed

module _ (f : Inverse) (r place : ℕ) (xs : List ℚ) (v : ℚ) where
  -- the opposite of a nonbasic's multiplier is its rate
  opposite_is : (rate : ℕ → ℕ → ℚ) → is_in f.basics (place + 1) ≡ false → v ≡ neg_ℚ (multiplier f.basics rate r (place + 1)) →
      v ≡ cond (is_in f.basics (place + 1)) zero_ℚ (rate r (place + 1))
  opposite_is rate out is_v =
      is_v ∙ ap (λ m. neg_ℚ (cond m (cond (nat_eq (place + 1) r) one_ℚ zero_ℚ) (neg_ℚ (rate r (place + 1))))) out
      ∙ by_ring1 (rate r (place + 1)) (λ y. opposite (opposite y) ≐ y) refl
      ∙ sym (ap (λ m. cond m zero_ℚ (rate r (place + 1))) out)

  pub rate_of_row : is_in f.basics (place + 1) ≡ false → place < f.matrix.rows → HasMultipliers f (place + 1) r xs → v ≡ neg_ℚ (get_or xs place zero_ℚ) →
      IsRateOf f r (place + 1) v
  rate_of_row out low h is_v = record { is_rate = λ rate are. opposite_is rate out (is_v ∙ ap neg_ℚ (h rate are place (omega arith) low)) }

  pub rate_of_column : IsMatrix f.matrix → IsNonsingular f.matrix f.basics → IsBasic f.matrix f.basics r → is_in f.basics (place + 1) ≡ false
      → f.matrix.rows ≤ place → place < size f.matrix → HasMultipliers f (place + 1) r xs
      → v ≡ sum_from zero_ℚ (products xs (column f.matrix (place + 1 - f.matrix.rows))) → IsRateOf f r (place + 1) v
  rate_of_column lawful one basic out high within h is_v = record { is_rate = λ rate are. opposite_is rate out (total rate are) }
    where
      total : (rate : ℕ → ℕ → ℚ) → AreRates f.matrix f.basics rate → v ≡ neg_ℚ (multiplier f.basics rate r (place + 1))
      total rate are =
          let is : IsColumn f.matrix (place + 1 - f.matrix.rows) = (omega (arith, high), omega (arith, high, within)) in
          let number : f.matrix.rows + (place + 1 - f.matrix.rows) ≡ place + 1 = omega (arith, high) in
          let vanishes : column_value f.matrix (multiplier f.basics rate r) (place + 1 - f.matrix.rows) ≡ zero_ℚ =
          sym (functional_at_unit f.matrix (multiplier f.basics rate r) (place + 1 - f.matrix.rows) is)
          ∙ multiplier_vanishes f.matrix f.basics rate are one r basic (unit f.matrix (place + 1 - f.matrix.rows))
          (KeepsEquations-unit f.matrix (place + 1 - f.matrix.rows) is) in
          is_v ∙ sum_of_entries f.matrix lawful (value_at xs) zero_ℚ (place + 1 - f.matrix.rows) is
          ∙ zero-add (sum_to f.matrix.rows (λ i. value_at xs (suc i) *ℚ entry f.matrix (suc i) (place + 1 - f.matrix.rows)))
          ∙ sum_to-same f.matrix.rows _ _ (λ i below. ap (λ y. y *ℚ entry f.matrix (suc i) (place + 1 - f.matrix.rows))
          (ap (λ n. get_or xs n zero_ℚ) (let e : suc i - 1 ≡ i = omega arith in e) ∙ h rate are i (omega (arith, below, high)) below
          ∙ ap (multiplier f.basics rate r) (let e : i + 1 ≡ suc i = omega arith in e)))
          ∙ opposite_of (multiplier f.basics rate r (f.matrix.rows + (place + 1 - f.matrix.rows)))
          (sum_to f.matrix.rows (λ i. multiplier f.basics rate r (suc i) *ℚ entry f.matrix (suc i) (place + 1 - f.matrix.rows))) vanishes
          ∙ ap (λ n. neg_ℚ (multiplier f.basics rate r n)) number
        where
          opposite_of : (y s : ℚ) → y +ℚ s ≡ zero_ℚ → s ≡ neg_ℚ y
          opposite_of y s e = by_ring2 y s (λ y s. s ≐ (y ⊕ s) ⊖ y) refl ∙ ap (λ t. t -ℚ y) e ∙ zero-add (neg_ℚ y)

-- a rate that is read in a direction
pub rate_in_direction : (f : Inverse) (r k : ℕ) (v : ℚ) → IsVariable f.matrix k → IsRateAt f r k v → IsRateOf f r k v
rate_in_direction f r k v var h = record { is_rate = λ rate are. at rate are (is_in f.basics k) refl }
  where
    at : (rate : ℕ → ℕ → ℚ) → AreRates f.matrix f.basics rate → (mark : Bool) → is_in f.basics k ≡ mark → v ≡ cond mark zero_ℚ (rate r k)
    at rate are true basic = h.at_basic basic
    at rate are false out = h.at_nonbasic out (λ n. rate n k) (are k (var, out))

-- the multiplier of another variable is the opposite of its rate
pub other_multiplier : (f : Inverse) (r k : ℕ) (u v : ℚ) → IsVariable f.matrix k → k ≢ r → IsRateAt f r k u → v ≡ neg_ℚ u → IsMultiplierOf f r k v
other_multiplier f r k u v var other h is_v = record { is_multiplier = λ rate are. is_v ∙ at rate are (is_in f.basics k) refl }
  where
    at : (rate : ℕ → ℕ → ℚ) → AreRates f.matrix f.basics rate → (mark : Bool) → is_in f.basics k ≡ mark →
        neg_ℚ u ≡ cond mark (cond (nat_eq k r) one_ℚ zero_ℚ) (neg_ℚ (rate r k))
    at rate are true basic =
        let away : nat_eq k r ≡ false = grind (arith, other) in
        ap neg_ℚ (h.at_basic basic) ∙ by_ring1 zero_ℚ (λ z. opposite (number (pos 0)) ≐ number (pos 0)) refl ∙ sym (ap (λ b. cond b one_ℚ zero_ℚ) away)
    at rate are false out = ap neg_ℚ (h.at_nonbasic out (λ n. rate n k) (are k (var, out)))

-- the multipliers of all rows, one by one
pub rows_filled : (f : Inverse) (r : ℕ) (xs : List ℚ) → ((k : ℕ) → k < f.matrix.rows → IsMultiplierOf f r (k + 1) (get_or xs k zero_ℚ)) →
    IsFilledFrom f (size f.matrix) r xs
rows_filled f r xs each = record {
  known = λ rate are k below in_rows. (each k in_rows).is_multiplier rate are;
  filled = λ k past within. absurd (omega (arith, past, within));
}

-- a direction that is refused refuses the row
pub row_refused : {T : Type 0} (f : Inverse) (result : Result T Stop) → IfErr result (IsColumnStop f) → RowOverflow result (file_state f) (file_state f)
row_refused f (Ok v) h = tt
row_refused f (Err stop) h = row_stop f stop h

-- what follows from the value, where there is one
pub value_gives : {E : Type 0} (r : Result ℚ E) (P Q : ℚ → Type 0) → ((v : ℚ) → P v → Q v) → IfOk r P → IfOk r Q
value_gives (Ok v) P Q step h = step v h
value_gives (Err e) P Q step h = tt
