-- Sums as whole numbers over a denominator, and the numbers that are kept of values over it.
use Rattle.std.proofs.Common.{◌≡◌, ◌≢◌, ℕ, ◌+◌, ◌-◌, ◌<◌, ◌≤◌, ◌⊎◌, inl, inr, List, length, get_or, set, refl, sym, ◌∙◌, ap, ap₂, true, false, subst, arith, ℤ}
use Rattle.std.proofs.Common.{pos}
use Rattle.std.specs.Prelude.{eqb, ◌+ℤ◌, ◌*ℤ◌, Option, None, Some, IfSome}
use Rattle.std.specs.Option.{SomeIff}
use Rattle.std.proofs.lemmas.Bool.Decides.{eqb_tells}
use Rattle.std.proofs.lemmas.List.{get_or-set_same, get_or-set_other, length-set}
use Rattle.exact_values.specs.Rational.{ℚ, whole, zero_ℚ, one_ℚ, ◌+ℚ◌, ◌*ℚ◌}
use Rattle.exact_values.proofs.Fractions.{parts_make}
use Rattle.exact_values.proofs.Inverse.{one_apart}
use Rattle.exact_values.proofs.Ring.{by_ring3, by_ring4, ◌⊕◌, ◌⊗◌, ◌≐◌}
use Rattle.exact_values.proofs.RingLaws.{whole-add, whole-mul}
use Rattle.exact_sums.proofs.Ratios.{over_back}
use Rattle.lp_definitions.specs.LinearProgram.{size, value_at}
use Rattle.eta_file.specs.Inverse.{Inverse}
use Rattle.price_row.specs.Known.{IsRateOf}
use Rattle.price_row.specs.NumbersOver.{AreNumbersOver}

-- a value times its denominator
numerator_is : (x : ℚ) → x *ℚ whole (pos x.denominator) ≡ whole x.numerator
numerator_is x = ap (λ (y : ℚ). y *ℚ whole (pos x.denominator)) (sym (parts_make x)) ∙ over_back x.numerator x.denominator x.positive

-- the numerator, as often as a number has the denominator
pub multiplied : (o : Option ℤ) (P : Type 0) (a b t m : ℤ) (x : ℚ) → a ≡ x.numerator → b ≡ t → m ≡ t *ℤ pos x.denominator → SomeIff o P (a *ℤ b) →
    IfSome o (λ n. whole n ≡ x *ℚ whole m)
multiplied None P a b t m x is_a is_b is_m h = tt
multiplied (Some n) P a b t m x is_a is_b is_m h =
    ap whole (h.1 ∙ ap₂ (λ s u. s *ℤ u) is_a is_b) ∙ whole-mul x.numerator t
    ∙ ap (λ q. q *ℚ whole t) (sym (numerator_is x))
    ∙ by_ring3 x (whole (pos x.denominator)) (whole t) (λ x d t. (x ⊗ d) ⊗ t ≐ x ⊗ (t ⊗ d)) refl
    ∙ ap (λ q. x *ℚ q) (sym (ap whole is_m ∙ whole-mul t (pos x.denominator)))

-- one more
pub summed_more : (o : Option ℤ) (P : Type 0) (a b s m : ℤ) (q : ℚ) → a ≡ s → b ≡ m → whole m ≡ q → SomeIff o P (a +ℤ b) →
    IfSome o (λ next. whole next ≡ whole s +ℚ q)
summed_more None P a b s m q is_a is_b is_q h = tt
summed_more (Some next) P a b s m q is_a is_b is_q h = ap whole (h.1 ∙ ap₂ (λ i j. i +ℤ j) is_a is_b) ∙ whole-add s m ∙ ap (λ t. whole s +ℚ t) is_q

-- one product more, over the denominator
pub over_more : (s x y d : ℚ) → s *ℚ d +ℚ y *ℚ (x *ℚ d) ≡ (s +ℚ x *ℚ y) *ℚ d
over_more s x y d = by_ring4 s x y d (λ s x y d. s ⊗ d ⊕ y ⊗ (x ⊗ d) ≐ (s ⊕ x ⊗ y) ⊗ d) refl

-- ---- kept numbers

pub cleared : (d : ℚ) (xs ns : List ℚ) → d ≢ zero_ℚ → length ns ≡ length xs → ((k : ℕ) → value_at ns k ≡ zero_ℚ) → AreNumbersOver d xs ns
cleared d xs ns apart counted nought = record { apart = apart; counted = counted; each = λ k some. absurd (some (nought k)) }

pub begun : (d : ℚ) (xs ns : List ℚ) → d ≡ one_ℚ → length ns ≡ length xs → ((k : ℕ) → value_at ns k ≡ zero_ℚ) → AreNumbersOver d xs ns
begun d xs ns is counted nought = cleared d xs ns (λ none. one_apart (sym is ∙ none)) counted nought

pub kept : (d : ℚ) (xs ns ms : List ℚ) (row : ℕ) (n : ℚ) → 1 ≤ row → row ≤ length ns → n ≡ value_at xs row *ℚ d → ms ≡ set ns (row - 1) n →
    AreNumbersOver d xs ns → AreNumbersOver d xs ms
kept d xs ns ms row n low high is_n is h = record {
  apart = h.apart;
  counted = ap length is ∙ length-set ns (row - 1) n ∙ h.counted;
  each = λ k some. at k some (eqb_tells (k - 1) (row - 1));
}
  where
    at : (k : ℕ) → value_at ms k ≢ zero_ℚ → (((eqb (k - 1) (row - 1) ≡ true) × (k - 1 ≡ row - 1)) ⊎ ((eqb (k - 1) (row - 1) ≡ false) × (k - 1 ≢ row - 1))) →
        value_at ms k ≡ value_at xs k *ℚ d
    at k some (inl same) =
        let below : row - 1 < length ns = omega (arith, low, high) in
        ap (λ (l : List ℚ). get_or l (k - 1) zero_ℚ) is ∙ ap (λ i. get_or (set ns (row - 1) n) i zero_ℚ) same.1 ∙ get_or-set_same ns (row - 1) n zero_ℚ below
        ∙ is_n ∙ ap (λ i. get_or xs i zero_ℚ *ℚ d) (sym same.1)
    at k some (inr other) =
        let stays : value_at ms k ≡ value_at ns k = ap (λ (l : List ℚ). get_or l (k - 1) zero_ℚ) is ∙ get_or-set_other ns (row - 1) (k - 1) n zero_ℚ other.1 in
        stays ∙ h.each k (λ none. some (stays ∙ none))

-- ---- rates that are filled in, the last place first

abbrev pub IsFilledDownTo : Inverse → ℕ → ℕ → List ℚ → Type 0
IsFilledDownTo f n r xs = (k : ℕ) → n ≤ k → k < size f.matrix → IsRateOf f r (k + 1) (get_or xs k zero_ℚ)

pub filled_before : (f : Inverse) (n r : ℕ) (xs : List ℚ) (v : ℚ) → n < length xs → IsFilledDownTo f (n + 1) r xs → IsRateOf f r (n + 1) v →
    IsFilledDownTo f n r (set xs n v)
filled_before f n r xs v below h rate_is k from within = at (eqb_tells k n)
  where
    at : (((eqb k n ≡ true) × (k ≡ n)) ⊎ ((eqb k n ≡ false) × (k ≢ n))) → IsRateOf f r (k + 1) (get_or (set xs n v) k zero_ℚ)
    at (inl same) =
        subst (λ i. IsRateOf f r (i + 1) (get_or (set xs n v) i zero_ℚ)) (sym same.1)
        (subst (λ x. IsRateOf f r (n + 1) x) (sym (get_or-set_same xs n v zero_ℚ below)) rate_is)
    at (inr other) =
        let apart = other.1 in
        subst (λ x. IsRateOf f r (k + 1) x) (sym (get_or-set_other xs n k v zero_ℚ apart)) (h k (omega (arith, from, apart)) within)
