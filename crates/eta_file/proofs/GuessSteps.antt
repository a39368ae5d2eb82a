-- Numbers that are found modulo two primes: what one entry more adds to the sum of its row, and when the numbers are a direction.
use Rattle.std.proofs.Common.{◌≡◌, ◌≢◌, ℕ, zero, suc, ◌+◌, ◌-◌, ◌<◌, ◌≤◌, ◌⊎◌, inl, inr, List, [], ◌∷◌, length, take, get_or, set, map, refl, sym, ◌∙◌, ap}
use Rattle.std.proofs.Common.{true, false, cond, arith}
use Rattle.std.specs.Prelude.{nat_eq, eqb}
use Rattle.std.specs.List.{IsDistinct, AllByRecursion}
use Rattle.std.proofs.lemmas.Bool.Decides.{eqb_tells}
use Rattle.std.proofs.lemmas.Map.Keys.{IsDistinct-head, IsDistinct-tail}
use Rattle.exact_values.specs.Rational.{ℚ, zero_ℚ, inverse_ℚ, ◌+ℚ◌, ◌*ℚ◌, ◌/ℚ◌}
use Rattle.exact_values.proofs.RingLaws.{add-zero, mul-zero, zero-mul, mul_comm}
use Rattle.exact_values.proofs.Inverse.{mul-inverse}
use Rattle.lp_definitions.specs.LinearProgram.{Matrix, on_row, value_at, KeepsEquations}
use Rattle.lp_definitions.specs.Basis.{Basics, IsNonbasic, IsDirectionOf}
use Rattle.lp_definitions.specs.declared.Entry.{Entry}
use Rattle.lp_laws.proofs.Equations.{KeepsEquations-scale, KeepsEquations-same}
use Rattle.whole_vectors.specs.Quotients.{quotients, Represent}
use Rattle.whole_vectors.proofs.Over.{value_at-quotients}
use Rattle.eta_file.proofs.CarrySteps.{written_same, written_other, on_row_next_same, on_row_next_other}

-- ---- one entry more

pub plus_nothing : (x u : ℚ) → x +ℚ u *ℚ zero_ℚ ≡ x
plus_nothing x u = ap (λ s. x +ℚ s) (mul-zero u) ∙ add-zero x

-- the row of an entry has no number before it
on_row-take_none : (c : List Entry) (n : ℕ) (d : Entry) → IsDistinct nat_eq (map (λ (e : Entry). e.row) c) → n < length c →
    on_row (take n c) (get_or c n d).row ≡ zero_ℚ
on_row-take_none [] n d apart below = absurd (omega arith)
on_row-take_none (e ∷ es) zero d apart below = refl
on_row-take_none (e ∷ es) (suc n) d apart below =
    let other : nat_eq e.row (get_or es n d).row ≡ false = at es n d (omega arith) (IsDistinct-head nat_eq e.row (map (λ (e : Entry). e.row) es) apart) in
    ap (λ t. cond t e.value (on_row (take n es) (get_or es n d).row)) other
    ∙ on_row-take_none es n d (IsDistinct-tail nat_eq e.row (map (λ (e : Entry). e.row) es) apart) (omega arith)
  where
    at : (es : List Entry) (n : ℕ) (d : Entry) → n < length es → AllByRecursion (λ r. nat_eq e.row r ≡ false) (map (λ (e : Entry). e.row) es) →
        nat_eq e.row (get_or es n d).row ≡ false
    at [] n d below all = absurd (omega arith)
    at (x ∷ xs) zero d below all = all.0
    at (x ∷ xs) (suc n) d below all = at xs n d (omega arith) all.1

module _ (c : List Entry) (n : ℕ) (e : Entry) (below : n < length c) (is : e ≡ get_or c n e) (distinct : IsDistinct nat_eq (map (λ (x : Entry). x.row) c))
    (out : List ℚ) (low : 1 ≤ e.row) (high : e.row ≤ length out) where
  none_yet : (k : ℕ) → e.row ≡ k → on_row (take n c) k ≡ zero_ℚ
  none_yet k same = ap (on_row (take n c)) (sym same ∙ ap (λ (x : Entry). x.row) is) ∙ on_row-take_none c n e distinct below

  pub added_more : (b u v : ℚ) (k : ℕ) → 1 ≤ k → v ≡ value_at out e.row +ℚ u *ℚ e.value → value_at out k ≡ b +ℚ u *ℚ on_row (take n c) k
      → value_at (set out (e.row - 1) v) k ≡ b +ℚ u *ℚ on_row (take (n + 1) c) k
  added_more b u v k some is_v so_far = at (eqb_tells e.row k)
    where
      at : (((eqb e.row k ≡ true) × (e.row ≡ k)) ⊎ ((eqb e.row k ≡ false) × (e.row ≢ k))) →
          value_at (set out (e.row - 1) v) k ≡ b +ℚ u *ℚ on_row (take (n + 1) c) k
      at (inl same) =
          written_same out e.row k v low high same.1 ∙ is_v
          ∙ ap (λ x. x +ℚ u *ℚ e.value) (ap (value_at out) same.1 ∙ so_far ∙ ap (λ x. b +ℚ u *ℚ x) (none_yet k same.1) ∙ plus_nothing b u)
          ∙ ap (λ x. b +ℚ u *ℚ x) (on_row_next_same c n e below is distinct k same.1)
      at (inr other) =
          written_other out e.row k v low some other.1 ∙ so_far ∙ ap (λ x. b +ℚ u *ℚ x) (sym (on_row_next_other c n e below is distinct k other.1))

-- ---- a direction

pub is_direction : (a : Matrix) (b : Basics) (j : ℕ) (d : ℚ) (xs : List ℚ) → d ≢ zero_ℚ → value_at xs j ≡ d
    → ((k : ℕ) → IsNonbasic a b k → k ≢ j → value_at xs k ≡ zero_ℚ) → KeepsEquations a (value_at xs)
    → Represent (λ ys. IsDirectionOf a b j (value_at ys)) d xs
is_direction a b j d xs apart own others keeps = record {
  apart = apart;
  holds = record {
    keeps = KeepsEquations-same a (λ k. inverse_ℚ d *ℚ value_at xs k) (value_at (quotients d xs))
        (λ k _. mul_comm (inverse_ℚ d) (value_at xs k) ∙ sym (value_at-quotients d xs k))
        (KeepsEquations-scale a (inverse_ℚ d) (value_at xs) keeps);
    own = value_at-quotients d xs j ∙ ap (λ x. x /ℚ d) own ∙ mul-inverse d apart;
    others = λ k nonbasic other. value_at-quotients d xs k ∙ ap (λ x. x /ℚ d) (others k nonbasic other) ∙ zero-mul (inverse_ℚ d);
  };
}
