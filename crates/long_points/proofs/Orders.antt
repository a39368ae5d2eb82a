-- What an order tells.
use Rattle.std.proofs.Common.{◌≡◌, not, refl, sym, ap, ◌∙◌, pos, Option, Some, None, arith}
use Rattle.std.specs.Prelude.{ℤ, ◌*ℤ◌}
use Rattle.std.proofs.lemmas.Int.{ints}
use Rattle.std.specs.Ordering.{int_cmp}
use Rattle.std.specs.declared.cmp.Ordering.{Ordering}
use Rattle.std.specs.declared.cmp.Ordering.TheVariants.{Less, Equal, Greater}
use Rattle.exact_values.specs.Rational.{ℚ, whole, zero_ℚ, neg_ℚ, compare_ℚ}
use Rattle.exact_values.specs.Tests.{eq_ℚ, is_less, is_equal}
use Rattle.exact_values.proofs.Ring.{by_ring1, opposite, number, ◌≐◌}
use Rattle.exact_values.proofs.Compare.{lt_from_compare, same_from_compare, gt_from_compare, compare_from_lt, compare_from_gt, compare_from_same}
use Rattle.exact_values.proofs.Order.{neg-lt-neg}
use Rattle.lp_definitions.specs.LinearProgram.{for_min}
use Rattle.lp_definitions.specs.declared.Sense.{Sense}
use Rattle.lp_definitions.specs.declared.Sense.TheVariants.{Min, Max}
use Rattle.check_definitions.specs.Checks.{is_not_below, is_not_above, is_at}
use Rattle.long_programs.specs.Programs.{order_to}
use Rattle.long_points.specs.Tests.{not_below_by, not_above_by, at_by, counted_by}

-- the order the other way round
abbrev pub turned : Ordering → Ordering
turned Less = Greater
turned Equal = Equal
turned Greater = Less

pub compare_turned : (x y : ℚ) → compare_ℚ y x ≡ turned (compare_ℚ x y)
compare_turned x y = at (compare_ℚ x y) refl
  where
    at : (o : Ordering) → compare_ℚ x y ≡ o → compare_ℚ y x ≡ turned o
    at Less e = compare_from_gt (lt_from_compare e)
    at Equal e = compare_from_same (sym (same_from_compare e))
    at Greater e = compare_from_lt (gt_from_compare e)

below_by_order : (o : Ordering) → not_below_by (Some o) ≡ not (is_less o)
below_by_order Less = refl
below_by_order Equal = refl
below_by_order Greater = refl

above_by_order : (o : Ordering) → not_above_by (Some o) ≡ not (is_less (turned o))
above_by_order Less = refl
above_by_order Equal = refl
above_by_order Greater = refl

at_by_order : (o : Ordering) → at_by (Some o) ≡ is_equal (turned o)
at_by_order Less = refl
at_by_order Equal = refl
at_by_order Greater = refl

pub not_below_is : (limit : Option ℚ) (x : ℚ) → not_below_by (order_to limit x) ≡ is_not_below limit x
not_below_is None x = refl
not_below_is (Some l) x = below_by_order (compare_ℚ x l)

pub not_above_is : (limit : Option ℚ) (x : ℚ) → not_above_by (order_to limit x) ≡ is_not_above limit x
not_above_is None x = refl
not_above_is (Some l) x = above_by_order (compare_ℚ x l) ∙ ap (λ o. not (is_less o)) (sym (compare_turned x l))

pub at_is : (limit : Option ℚ) (x : ℚ) → at_by (order_to limit x) ≡ is_at limit x
at_is None x = refl
at_is (Some l) x = at_by_order (compare_ℚ x l) ∙ ap is_equal (sym (compare_turned x l))

pub equal_turned : (x y : ℚ) → is_equal (compare_ℚ x y) ≡ eq_ℚ y x
equal_turned x y = at (compare_ℚ x y) ∙ ap is_equal (sym (compare_turned x y))
  where
    at : (o : Ordering) → is_equal o ≡ is_equal (turned o)
    at Less = refl
    at Equal = refl
    at Greater = refl

-- ---- signs

pub whole_sign : (z : ℤ) → int_cmp z (pos 0) ≡ compare_ℚ (whole z) zero_ℚ
unfolding compare_ℚ whole
whole_sign z = let one : z ≡ z *ℤ pos 1 = omega (arith, ints) in ap (λ (y : ℤ). int_cmp y (pos 0)) one

pub counted_is : (sense : Sense) (x : ℚ) → counted_by sense (compare_ℚ x zero_ℚ) ≡ compare_ℚ (for_min sense x) zero_ℚ
counted_is Min x = refl
counted_is Max x = at (compare_ℚ x zero_ℚ) refl
  where
    nothing : neg_ℚ zero_ℚ ≡ zero_ℚ
    nothing = by_ring1 zero_ℚ (λ x. opposite (number (pos 0)) ≐ number (pos 0)) refl

    at : (o : Ordering) → compare_ℚ x zero_ℚ ≡ o → counted_by Max o ≡ compare_ℚ (neg_ℚ x) zero_ℚ
    at Less e = sym (ap (compare_ℚ (neg_ℚ x)) (sym nothing) ∙ compare_from_gt (neg-lt-neg (lt_from_compare e)))
    at Equal e = sym (ap (compare_ℚ (neg_ℚ x)) (sym nothing) ∙ compare_from_same (ap neg_ℚ (same_from_compare e)))
    at Greater e = sym (ap (compare_ℚ (neg_ℚ x)) (sym nothing) ∙ compare_from_lt (neg-lt-neg (gt_from_compare e)))
