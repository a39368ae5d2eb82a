-- Fractions by two terms that may have a common divisor.
use Rattle.std.proofs.Common.{◌≡◌, ◌∙◌, sym, ap, ap₂, subst, ℕ, ◌^◌, ◌<◌, ◌+◌, ◌*◌, Bool, true, false, refl, IsTrue, arith, ℤ, pos, negsuc, FitsSigned, of_z}
use Rattle.std.specs.Prelude.{◌↔◌, ◌≤ℤ◌, ◌<ℤ◌, ◌-ℤ◌, ◌*ℤ◌, neg_ℤ, int_lt, nat_eq, unsigned_abs}
use Rattle.std.specs.Int.{w128}
use Rattle.std.proofs.lemmas.Int.{ints}
use borrow.Author.Differences.{up, down, product_is}
use Rattle.exact_values.specs.Rational.{ℚ, zero_ℚ, neg_ℚ, fraction, whole, sign_ℚ, ◌<ℚ◌}
use Rattle.exact_values.specs.Tests.{lt_ℚ}
use Rattle.exact_values.proofs.Fractions.{fraction_ratio, same_fractions, cross_of_same_fractions, neg_fraction, parts_make}
use Rattle.exact_values.proofs.RingLaws.{fraction-one, whole_ratio}
use Rattle.exact_values.proofs.Order.{lt_from_ratios, le_from_ratios}
use Rattle.exact_values.proofs.TestsLaws.{test_from_lt, lt_fails_from_le, sign_from_below, sign_from_above, sign_from_zero}
use Rattle.frac128.specs.Terms.{Fits}
use Rattle.frac128.proofs.Parts.{read, read_fitting, zero-minus}
use Rattle.lp_model.specs.Ratios.{AreTerms}

pub positive_terms : (d : ℤ) → pos 1 ≤ℤ d → 0 < unsigned_abs d
positive_terms d h = omega (arith, ints)

pub positive_is : (d : ℤ) → pos 1 ≤ℤ d → pos (unsigned_abs d) ≡ d
positive_is d h = omega (arith, ints)

-- the terms where they are read and made anew
pub read_terms : (n d : ℤ) → AreTerms n d → fraction (read n) (unsigned_abs (read d)) ≡ fraction n (unsigned_abs d)
read_terms n d h =
    ap (λ m. fraction m (unsigned_abs (read d))) (read_fitting n h.num_fits) ∙ ap (λ m. fraction n (unsigned_abs m)) (read_fitting d h.den_fits)

pub read_is : (z y : ℤ) → Fits y → z ≡ y → read z ≡ y
read_is z y fits is = ap read is ∙ read_fitting y fits

-- ---- 0

pub zero_numerator : (n : ℤ) (d : ℕ) → 0 < d → n ≡ pos 0 → fraction n d ≡ zero_ℚ
zero_numerator n d some e = same_fractions n (pos 0) d 1 some (omega arith) (rw e (omega (arith, ints))) ∙ fraction-one (pos 0)

pub numerator_zero : (n : ℤ) (d : ℕ) → 0 < d → fraction n d ≡ zero_ℚ → n ≡ pos 0
numerator_zero n d some e =
    let cross : n *ℤ pos 1 ≡ pos 0 *ℤ pos d = cross_of_same_fractions n (pos 0) d 1 some (omega arith) (e ∙ sym (fraction-one (pos 0))) in
    times_one n d cross
  where
    times_one : (n : ℤ) (d : ℕ) → n *ℤ pos 1 ≡ pos 0 *ℤ pos d → n ≡ pos 0
    times_one (pos a) d h = omega (arith, ints)
    times_one (negsuc a) d h = omega (arith, ints)

zero_in : (n : ℤ) → n ≡ pos 0 → IsTrue (nat_eq (of_z w128 n) 0)
zero_in n e = rw e refl

zero_out : (n : ℤ) → FitsSigned w128 n → IsTrue (nat_eq (of_z w128 n) 0) → n ≡ pos 0
zero_out n fits h = grind (arith, ints)

pub zero_test : (n d : ℤ) (x : ℚ) → AreTerms n d → fraction n (unsigned_abs d) ≡ x → FitsSigned w128 n → IsTrue (nat_eq (of_z w128 n) 0) ↔ (x ≡ zero_ℚ)
zero_test n d x h is fits =
    let some = positive_terms d h.at_least_one in
    (λ e. sym is ∙ zero_numerator n (unsigned_abs d) some (zero_out n fits e), λ e. zero_in n (numerator_zero n (unsigned_abs d) some (is ∙ e)))

-- ---- the order

times_one : (z : ℤ) → z ≡ z *ℤ pos 1
times_one z = omega (arith, ints)

no_product : (m : ℕ) → pos 0 ≡ pos 0 *ℤ pos m
no_product m = ap pos (omega arith)

-- two fractions are ordered as their cross products
pub cross_below : (a b : ℤ) (d e : ℕ) → 0 < d → 0 < e → int_lt (a *ℤ pos e) (b *ℤ pos d) ≡ lt_ℚ (fraction a d) (fraction b e)
cross_below a b d e p q = by_test (int_lt (a *ℤ pos e) (b *ℤ pos d)) refl
  where
    by_test : (t : Bool) → int_lt (a *ℤ pos e) (b *ℤ pos d) ≡ t → t ≡ lt_ℚ (fraction a d) (fraction b e)
    by_test true h =
        sym (test_from_lt (fraction a d) (fraction b e) (lt_from_ratios (fraction_ratio a d p) (fraction_ratio b e q)
        (omega (arith, ints, product_is a (pos e), product_is b (pos d)))))
    by_test false h =
        sym (lt_fails_from_le (fraction a d) (fraction b e) (le_from_ratios (fraction_ratio b e q) (fraction_ratio a d p)
        (omega (arith, ints, product_is a (pos e), product_is b (pos d)))))

pub below_zero : (n : ℤ) (d : ℕ) → 0 < d → n <ℤ pos 0 → fraction n d <ℚ zero_ℚ
below_zero n d p h = lt_from_ratios (fraction_ratio n d p) (whole_ratio (pos 0)) (negative n d p h)
  where
    negative : (n : ℤ) (d : ℕ) → 0 < d → n <ℤ pos 0 → up n * 1 + 0 * d < 0 * d + down n * 1
    negative (pos a) d p h = absurd (omega (arith, ints))
    negative (negsuc a) d p h = omega arith

pub above_zero : (n : ℤ) (d : ℕ) → 0 < d → pos 0 <ℤ n → zero_ℚ <ℚ fraction n d
above_zero n d p h = lt_from_ratios (whole_ratio (pos 0)) (fraction_ratio n d p) (positive n d p h)
  where
    positive : (n : ℤ) (d : ℕ) → 0 < d → pos 0 <ℤ n → 0 * d + down n * 1 < up n * 1 + 0 * d
    positive (pos a) d p h = omega (arith, ints)
    positive (negsuc a) d p h = absurd (omega (arith, ints))

-- the terms of the opposite, as the code makes them
pub negated_terms : (n d : ℤ) (x : ℚ) → AreTerms n d → fraction n (unsigned_abs d) ≡ x →
    fraction (read (pos 0 -ℤ read n)) (unsigned_abs (read d)) ≡ neg_ℚ x
negated_terms n d x h is =
    let small : unsigned_abs n < 2 ^ 127 = h.num_fits in
    let opposite_fits : Fits (pos 0 -ℤ n) = omega (arith, ints) in
    let top : read (pos 0 -ℤ read n) ≡ neg_ℤ n =
    ap (λ m. read (pos 0 -ℤ m)) (read_fitting n h.num_fits) ∙ read_fitting (pos 0 -ℤ n) opposite_fits ∙ zero-minus n in
    let under : unsigned_abs (read d) ≡ unsigned_abs d = ap unsigned_abs (read_fitting d h.den_fits) in
    ap₂ fraction top under ∙ sym (neg_fraction n (unsigned_abs d) (positive_terms d h.at_least_one)) ∙ ap neg_ℚ is

-- a fraction over 1
pub whole_terms : (n d : ℤ) (x : ℚ) → fraction n (unsigned_abs d) ≡ x → d ≡ pos 1 → whole n ≡ x
whole_terms n d x is one = sym (fraction-one n) ∙ ap (λ m. fraction n (unsigned_abs m)) (sym one) ∙ is

-- ---- the order of a fraction and a limit in lowest terms

module _ (n d : ℤ) (x : ℚ) (h : AreTerms n d) (is : fraction n (unsigned_abs d) ≡ x) where
  pub sign_above : pos 0 <ℤ n → pos 1 ≡ sign_ℚ x
  sign_above up = sym (sign_from_above x (subst (λ (y : ℚ). zero_ℚ <ℚ y) is (above_zero n (unsigned_abs d) (positive_terms d h.at_least_one) up)))

  pub sign_below : n <ℤ pos 0 → negsuc 0 ≡ sign_ℚ x
  sign_below down = sym (sign_from_below x (subst (λ (y : ℚ). y <ℚ zero_ℚ) is (below_zero n (unsigned_abs d) (positive_terms d h.at_least_one) down)))

  pub sign_at_zero : n ≡ pos 0 → pos 0 ≡ sign_ℚ x
  sign_at_zero none = sym (sign_from_zero x (sym is ∙ zero_numerator n (unsigned_abs d) (positive_terms d h.at_least_one) none))

  as_fraction : (limit : ℚ) → fraction limit.numerator limit.denominator ≡ limit
  as_fraction limit = parts_make limit

  pub below_zero_test : int_lt n (pos 0) ≡ lt_ℚ x zero_ℚ
  below_zero_test =
      ap₂ int_lt (times_one n) (no_product (unsigned_abs d)) ∙ cross_below n (pos 0) (unsigned_abs d) 1 (positive_terms d h.at_least_one) (omega arith)
      ∙ ap₂ lt_ℚ is (fraction-one (pos 0))

  pub above_zero_test : int_lt (pos 0) n ≡ lt_ℚ zero_ℚ x
  above_zero_test =
      ap₂ int_lt (no_product (unsigned_abs d)) (times_one n) ∙ cross_below (pos 0) n 1 (unsigned_abs d) (omega arith) (positive_terms d h.at_least_one)
      ∙ ap₂ lt_ℚ (fraction-one (pos 0)) is

  pub below_limit : (limit : ℚ) (left right : ℤ) → left ≡ n *ℤ pos limit.denominator → right ≡ limit.numerator *ℤ d → int_lt left right ≡ lt_ℚ x limit
  below_limit limit left right left_is right_is =
      ap₂ int_lt left_is (right_is ∙ ap (λ m. limit.numerator *ℤ m) (sym (positive_is d h.at_least_one)))
      ∙ cross_below n limit.numerator (unsigned_abs d) limit.denominator (positive_terms d h.at_least_one) limit.positive ∙ ap₂ lt_ℚ is (as_fraction limit)

  pub above_limit : (limit : ℚ) (left right : ℤ) → left ≡ n *ℤ pos limit.denominator → right ≡ limit.numerator *ℤ d → int_lt right left ≡ lt_ℚ limit x
  above_limit limit left right left_is right_is =
      ap₂ int_lt (right_is ∙ ap (λ m. limit.numerator *ℤ m) (sym (positive_is d h.at_least_one))) left_is
      ∙ cross_below limit.numerator n limit.denominator (unsigned_abs d) limit.positive (positive_terms d h.at_least_one) ∙ ap₂ lt_ℚ (as_fraction limit) is
