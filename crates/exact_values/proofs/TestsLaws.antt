-- What the tests tell, and the sign.
use Rattle.std.proofs.Common.{◌≡◌, ◌≢◌, true, false, not, refl, sym, ap, ◌⊎◌, inl, inr, pos, negsuc, Less, Equal, Greater, arith}
use Rattle.std.proofs.lemmas.Int.{ints}
use Rattle.std.specs.Prelude.{◌<ℤ◌, ◌≤ℤ◌}
use Rattle.std.specs.Ordering.{is_lt}
use Rattle.std.specs.Cmp.{Equal-is}
use Rattle.std.specs.declared.cmp.Ordering.{Ordering}
use Rattle.std.proofs.lemmas.Bool.{false_from_ne_true, not-false, not-true}
use Rattle.exact_values.specs.Rational.{ℚ, zero_ℚ, ◌≤ℚ◌, ◌<ℚ◌, compare_ℚ, sign_of, sign_ℚ}
use Rattle.exact_values.specs.Tests.{lt_ℚ, le_ℚ, eq_ℚ}
use Rattle.exact_values.proofs.Compare.{lt_from_compare, compare_from_lt, same_from_compare, compare_from_same, gt_from_compare, compare_from_gt}
use Rattle.exact_values.proofs.Compare.{le_from_compare}
use Rattle.exact_values.proofs.Order.{lt_not_le, lt_or_le}

-- ---- whether x is below y

less_from : (o : Ordering) → is_lt o ≡ true → o ≡ Less
less_from Less e = refl
less_from Equal e = cc
less_from Greater e = cc

not_less_from : (o : Ordering) → is_lt o ≡ false → o ≡ Less → ⊥
not_less_from Less e h = cc
not_less_from Equal e h = cc
not_less_from Greater e h = cc

pub lt_from_test : (x y : ℚ) → lt_ℚ x y ≡ true → x <ℚ y
lt_from_test x y h = lt_from_compare (less_from (compare_ℚ x y) h)

pub test_from_lt : (x y : ℚ) → x <ℚ y → lt_ℚ x y ≡ true
test_from_lt x y h = ap is_lt (compare_from_lt h)

pub le_from_lt_fails : (x y : ℚ) → lt_ℚ x y ≡ false → y ≤ℚ x
le_from_lt_fails x y h = le_from_compare (not_less_from (compare_ℚ x y) h)

pub lt_fails_from_le : (x y : ℚ) → y ≤ℚ x → lt_ℚ x y ≡ false
lt_fails_from_le x y h = false_from_ne_true (lt_ℚ x y) (λ e. lt_not_le (lt_from_test x y e) h)

-- ---- whether x is at most y

pub le_from_test : (x y : ℚ) → le_ℚ x y ≡ true → x ≤ℚ y
le_from_test x y h = le_from_lt_fails y x (not-true (lt_ℚ y x) h)

pub test_from_le : (x y : ℚ) → x ≤ℚ y → le_ℚ x y ≡ true
test_from_le x y h = ap not (lt_fails_from_le y x h)

pub lt_from_le_fails : (x y : ℚ) → le_ℚ x y ≡ false → y <ℚ x
lt_from_le_fails x y h = lt_from_test y x (not-false (lt_ℚ y x) h)

pub le_fails_from_lt : (x y : ℚ) → y <ℚ x → le_ℚ x y ≡ false
le_fails_from_lt x y h = ap not (test_from_lt y x h)

-- ---- whether x is y

pub same_from_test : (x y : ℚ) → eq_ℚ x y ≡ true → x ≡ y
same_from_test x y h = same_from_compare ((Equal-is (compare_ℚ x y)).0 h)

pub test_from_same : (x y : ℚ) → x ≡ y → eq_ℚ x y ≡ true
test_from_same x y h = (Equal-is (compare_ℚ x y)).1 (compare_from_same h)

pub apart_from_eq_fails : (x y : ℚ) → eq_ℚ x y ≡ false → x ≢ y
apart_from_eq_fails x y h e = let passes : eq_ℚ x y ≡ true = test_from_same x y e in cc

pub eq_fails_from_apart : (x y : ℚ) → x ≢ y → eq_ℚ x y ≡ false
eq_fails_from_apart x y h = false_from_ne_true (eq_ℚ x y) (λ e. h (same_from_test x y e))

-- ---- the sign

ordering_of_minus : (o : Ordering) → sign_of o ≡ negsuc 0 → o ≡ Less
ordering_of_minus Less e = refl
ordering_of_minus Equal e = cc
ordering_of_minus Greater e = cc

ordering_of_nought : (o : Ordering) → sign_of o ≡ pos 0 → o ≡ Equal
ordering_of_nought Less e = cc
ordering_of_nought Equal e = refl
ordering_of_nought Greater e = absurd (one_apart (sym e))
  where
    one_apart : pos 0 ≡ pos 1 → ⊥
    one_apart e = omega (arith, ints)

ordering_of_plus : (o : Ordering) → sign_of o ≡ pos 1 → o ≡ Greater
ordering_of_plus Less e = cc
ordering_of_plus Equal e = absurd (one_apart e)
  where
    one_apart : pos 0 ≡ pos 1 → ⊥
    one_apart e = omega (arith, ints)
ordering_of_plus Greater e = refl

module _ (x : ℚ) where
  pub below_from_sign : sign_ℚ x ≡ negsuc 0 → x <ℚ zero_ℚ
  below_from_sign h = lt_from_compare (ordering_of_minus (compare_ℚ x zero_ℚ) h)

  pub sign_from_below : x <ℚ zero_ℚ → sign_ℚ x ≡ negsuc 0
  sign_from_below h = ap sign_of (compare_from_lt h)

  pub zero_from_sign : sign_ℚ x ≡ pos 0 → x ≡ zero_ℚ
  zero_from_sign h = same_from_compare (ordering_of_nought (compare_ℚ x zero_ℚ) h)

  pub sign_from_zero : x ≡ zero_ℚ → sign_ℚ x ≡ pos 0
  sign_from_zero h = ap sign_of (compare_from_same h)

  pub above_from_sign : sign_ℚ x ≡ pos 1 → zero_ℚ <ℚ x
  above_from_sign h = gt_from_compare (ordering_of_plus (compare_ℚ x zero_ℚ) h)

  pub sign_from_above : zero_ℚ <ℚ x → sign_ℚ x ≡ pos 1
  sign_from_above h = ap sign_of (compare_from_gt h)

  -- a sign that is tested by its order with 0
  pub below_from_negative : sign_ℚ x <ℤ pos 0 → x <ℚ zero_ℚ
  below_from_negative h = lt_from_compare (by_order (compare_ℚ x zero_ℚ) h)
    where
      by_order : (o : Ordering) → sign_of o <ℤ pos 0 → o ≡ Less
      by_order Less k = refl
      by_order Equal k = absurd (omega (arith, ints))
      by_order Greater k = absurd (omega (arith, ints))

  pub above_from_positive : pos 0 <ℤ sign_ℚ x → zero_ℚ <ℚ x
  above_from_positive h = gt_from_compare (by_order (compare_ℚ x zero_ℚ) h)
    where
      by_order : (o : Ordering) → pos 0 <ℤ sign_of o → o ≡ Greater
      by_order Less k = absurd (omega (arith, ints))
      by_order Equal k = absurd (omega (arith, ints))
      by_order Greater k = refl

  pub at_least_from_not_negative : pos 0 ≤ℤ sign_ℚ x → zero_ℚ ≤ℚ x
  at_least_from_not_negative h = le_from_compare (by_order (compare_ℚ x zero_ℚ) h)
    where
      by_order : (o : Ordering) → pos 0 ≤ℤ sign_of o → o ≡ Less → ⊥
      by_order Less k e = absurd (omega (arith, ints))
      by_order Equal k e = cc
      by_order Greater k e = cc

  pub at_most_from_not_positive : sign_ℚ x ≤ℤ pos 0 → x ≤ℚ zero_ℚ
  at_most_from_not_positive h = by_case (lt_or_le zero_ℚ x)
    where
      by_case : (zero_ℚ <ℚ x) ⊎ (x ≤ℚ zero_ℚ) → x ≤ℚ zero_ℚ
      by_case (inl above) = absurd (let e = sign_from_above above in omega (arith, ints))
      by_case (inr le) = le
