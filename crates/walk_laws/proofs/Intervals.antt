-- An interval that passes its tests is true at every value in it.
use Rattle.std.proofs.Common.{◌≡◌, ℕ, List, [], ◌∷◌, ◌++◌, Bool, true, false, ◌⊎◌, Option, Some, None, refl, ap, arith, subst}
use Rattle.std.specs.Prelude.{◌&&◌, ◌||◌}
use Rattle.std.specs.declared.cmp.Ordering.{Ordering}
use Rattle.std.specs.declared.cmp.Ordering.TheVariants.{Less, Equal, Greater}
use Rattle.std.proofs.lemmas.Bool.{and_parts}
use mathlib.Core.Logic.{inl, inr}
use Rattle.exact_values.specs.Rational.{ℚ, zero_ℚ, ◌≤ℚ◌, ◌<ℚ◌, compare_ℚ}
use Rattle.exact_values.specs.Tests.{lt_ℚ, le_ℚ, eq_ℚ}
use Rattle.exact_values.proofs.Compare.{lt_from_compare, same_from_compare, compare_from_lt}
use Rattle.exact_values.proofs.TestsLaws.{same_from_test, lt_from_test, le_from_test}
use Rattle.exact_values.proofs.Order.{lt_not_le, le_of_lt, le_refl, apart_from_above}
use Rattle.lp_definitions.specs.LinearProgram.{LinearProgram, Vector, size, IsVariable, IsLinearProgram, lower_of, upper_of, for_min}
use Rattle.check_definitions.specs.declared.Verdict.TheVariants.{Checked}
use Rattle.check_definitions.specs.Steps.{Step, AllHold}
use Rattle.check_definitions.specs.Checks.{is_at, by_sign, optimal_steps}
use Rattle.check_definitions.proofs.Holding.{checked_hold, hold-append, each_hold}
use Rattle.simplex_definitions.specs.Chain.{Part, along}
use Rattle.parametric_laws.specs.Truth.{IsBestBy, IsTruePart}
use Rattle.interval_laws.specs.Laws.{StandAtBoth, IsProvedAtEnds, HoldsBetween, BetweenLaws, point_at, prices_at}
use Rattle.question_definitions.specs.Answers.{Sheet, Changing, Row, Set}
use Rattle.answer_definitions.specs.ParametricRuns.{row_of, shifts_of, family_of}
use Rattle.listing_definitions.specs.Report.{ParametricInterval}
use Rattle.walk_definitions.specs.Checkers.{Checker}
use Rattle.walk_definitions.specs.Tests.{says, asked, making_steps, along_steps, end_test, keeps_limit, keeping_steps, part_test, interval_test}
use Rattle.soundness_laws.specs.ParametricRuns.{ChangesFreely}
use Rattle.walk_laws.specs.Views.{part_of}
use Rattle.walk_laws.proofs.Judging.{asked_holds, each_checked}
use Rattle.walk_laws.proofs.Solution.{solved_if_held}
use Rattle.walk_laws.proofs.Openings.{lawful_family}

-- what is proved at both ends is so between them
holds_between : BetweenLaws → (sheet : Sheet) (changing : Changing) → IsLinearProgram sheet.lp → ChangesFreely sheet changing →
    HoldsBetween (family_of sheet changing)
holds_between between sheet (Row name) lawful may = between.objective sheet.lp (row_of sheet.problem name) lawful may.0 may.1
holds_between between sheet (Set name) lawful may = between.rhs sheet.lp (shifts_of sheet.problem name) lawful

-- ---- limits at both ends

at_limit : (limit : Option ℚ) (v : ℚ) → is_at limit v ≡ true → limit ≡ Some v
at_limit None v h = cc
at_limit (Some l) v h = ap Some (same_from_test l v h)

of_negative : (x : ℚ) (negative positive : Bool) → by_sign (compare_ℚ x zero_ℚ) negative positive ≡ true → x <ℚ zero_ℚ → negative ≡ true
of_negative x negative positive h below = at (compare_ℚ x zero_ℚ) h (compare_from_lt below)
  where
    at : (o : Ordering) → by_sign o negative positive ≡ true → o ≡ Less → negative ≡ true
    at Less h e = h
    at Equal h e = cc
    at Greater h e = cc

of_positive : (x : ℚ) (negative positive : Bool) → by_sign (compare_ℚ x zero_ℚ) negative positive ≡ true → zero_ℚ <ℚ x → positive ≡ true
of_positive x negative positive h above =
    at (compare_ℚ x zero_ℚ) h (λ less. lt_not_le above (le_of_lt (lt_from_compare less))) (λ equal. apart_from_above above (same_from_compare equal))
  where
    at : (o : Ordering) → by_sign o negative positive ≡ true → (o ≡ Less → ⊥) → (o ≡ Equal → ⊥) → positive ≡ true
    at Less h less equal = absurd (less refl)
    at Equal h less equal = absurd (equal refl)
    at Greater h less equal = h

-- a limit is the value of the one point in the one linear program, and of the other in the other
at_both : (one other : Option ℚ) (v w : ℚ) → (is_at one v && is_at other w) ≡ true → (one ≡ Some v) × (other ≡ Some w)
at_both one other v w h = let parts = and_parts (is_at one v) (is_at other w) h in (at_limit one v parts.0, at_limit other w parts.1)

module _ (p q : LinearProgram) (z w : Vector) (y : Vector) where
  stand_at_both : ((k : ℕ) → IsVariable p.matrix k → AllHold (keeps_limit p q z w (y k) k)) → StandAtBoth p q z w y
  stand_at_both kept = record {
    lower = λ k is above. at_both (lower_of p k) (lower_of q k) (z k) (w k) (of_positive _ _ _ (holds k is) above);
    upper = λ k is below. at_both (upper_of p k) (upper_of q k) (z k) (w k) (of_negative _ _ _ (holds k is) below);
  }
    where
      holds : (k : ℕ) (is : IsVariable p.matrix k)
          → by_sign (compare_ℚ (for_min p.sense (y k)) zero_ℚ) (is_at (upper_of p k) (z k) && is_at (upper_of q k) (w k))
          (is_at (lower_of p k) (z k) && is_at (lower_of q k) (w k)) ≡ true
      holds k is = (kept k is).0

-- ---- an interval

-- the family has the variables of the linear program
variable_of : (sheet : Sheet) (changing : Changing) (theta : ℚ) (k : ℕ) → IsVariable (family_of sheet changing theta).matrix k → IsVariable sheet.lp.matrix k
variable_of sheet (Row name) theta k is = is
variable_of sheet (Set name) theta k is = is

-- from is before to, or they are one where the interval is the first
begins_before : (is_first : Bool) (from to : ℚ) → (lt_ℚ from to || (is_first && eq_ℚ from to)) ≡ true → (from <ℚ to) ⊎ ((is_first ≡ true) × (from ≡ to))
begins_before is_first from to h = by (lt_ℚ from to) is_first refl h
  where
    by : (less first : Bool) → lt_ℚ from to ≡ less → (less || (first && eq_ℚ from to)) ≡ true → (from <ℚ to) ⊎ ((first ≡ true) × (from ≡ to))
    by true first is h = inl (lt_from_test from to is)
    by false true is h = inr (refl, same_from_test from to h)
    by false false is h = cc

-- an interval that is true; it is longer than a point, or the first
pub record IsTrueInterval (family : ℚ → LinearProgram) (is_first : Bool) (max : ℚ) (part : Part) : Type 0 where
  pub is_true : IsTruePart family max part
  pub long : (part.from <ℚ part.to) ⊎ ((is_first ≡ true) × (part.from ≡ part.to))

module _ (C : Checker) (between : BetweenLaws) (sheet : Sheet) (changing : Changing) (lawful : IsLinearProgram sheet.lp)
    (may : ChangesFreely sheet changing) where
  abbrev family : ℚ → LinearProgram
  family = family_of sheet changing

  solved_at_end : (theta : ℚ) (value value_rate price price_rate : List ℚ) → end_test C sheet changing theta value value_rate price price_rate ≡ Checked
      → IsBestBy (family theta) (along theta value value_rate) (along theta price price_rate)
  solved_at_end theta value value_rate price price_rate e =
      let each =
      each_checked
      (says C (making_steps sheet changing theta) ∷ says C (along_steps sheet theta value value_rate) ∷ says C (along_steps sheet theta price price_rate)
      ∷ says C (optimal_steps (family theta) (along theta value value_rate) (along theta price price_rate)) ∷ []) e in
      solved_if_held (family theta) (lawful_family sheet changing lawful may theta) (along theta value value_rate) (along theta price price_rate)
      (checked_hold C.arithmetic (optimal_steps (family theta) (along theta value value_rate) (along theta price price_rate)) each.1.1.1.0)

  module _ (part : Part) where
    abbrev one_end : ℚ → ℕ → List Step
    one_end theta k =
        keeps_limit (family part.from) (family part.to) (along part.from part.value part.value_rate) (along part.to part.value part.value_rate)
        (along theta part.price part.price_rate k) k

    -- what both ends keep is checked at each variable
    kept_at : AllHold (keeping_steps sheet changing part.from part.to part.value part.value_rate part.price part.price_rate) → (k : ℕ)
        → IsVariable sheet.lp.matrix k
        → AllHold (one_end part.from k) × AllHold (one_end part.to k)
    kept_at e k is = hold-append (one_end part.from k) (one_end part.to k)
        (each_hold (λ k. one_end part.from k ++ one_end part.to k) 1 (size sheet.lp.matrix) k e is.0 (omega (arith, is.1)))

    part_is_true : (is_first : Bool) (max : ℚ)
        → part_test C sheet changing part.from part.to part.value part.value_rate part.price part.price_rate is_first max ≡ Checked
        → IsTrueInterval family is_first max part
    part_is_true is_first max e =
        let each = each_checked (asked (lt_ℚ part.from part.to || (is_first && eq_ℚ part.from part.to)) ∷ asked (le_ℚ part.to max)
        ∷ end_test C sheet changing part.from part.value part.value_rate part.price part.price_rate ∷ end_test C sheet changing part.to part.value
        part.value_rate part.price part.price_rate
        ∷ says C (keeping_steps sheet changing part.from part.to part.value part.value_rate part.price part.price_rate) ∷ []) e in
        let long = begins_before is_first part.from part.to (asked_holds _ each.0) in
        let kept =
        kept_at (checked_hold C.arithmetic
        (keeping_steps sheet changing part.from part.to part.value part.value_rate part.price part.price_rate) each.1.1.1.1.0) in
        let proved : IsProvedAtEnds family part = record {
          forward = not_after long;
          first = solved_at_end part.from part.value part.value_rate part.price part.price_rate each.1.1.0;
          last = solved_at_end part.to part.value part.value_rate part.price part.price_rate each.1.1.1.0;
          first_prices = stand_at_both (family part.from) (family part.to) (point_at part part.from) (point_at part part.to) (prices_at part part.from)
              (λ k is. (kept k (variable_of sheet changing part.from k is)).0);
          last_prices = stand_at_both (family part.from) (family part.to) (point_at part part.from) (point_at part part.to) (prices_at part part.to)
              (λ k is. (kept k (variable_of sheet changing part.from k is)).1);
        } in
        record { is_true = holds_between between sheet changing lawful may max part (le_from_test part.to max (asked_holds _ each.1.0)) proved; long = long }
      where
        not_after : (part.from <ℚ part.to) ⊎ ((is_first ≡ true) × (part.from ≡ part.to)) → part.from ≤ℚ part.to
        not_after (inl less) = le_of_lt less
        not_after (inr same) = subst (λ (x : ℚ). part.from ≤ℚ x) same.1 (le_refl part.from)

  pub interval_is_true : (is_first : Bool) (max : ℚ) (interval : ParametricInterval) → interval_test C sheet changing is_first max interval ≡ Checked →
      IsTrueInterval family is_first max (part_of interval)
  interval_is_true is_first max interval e = part_is_true (part_of interval) is_first max e
