-- Intervals, what is made at their ends, and what is compared there.
use Rattle.std.proofs.Common.{◌≡◌, ℕ, ◌+◌, ◌-◌, ◌<◌, ◌≤◌, List, ◌++◌, map, length, get_or, Bool, true, false, refl, sym, ap, ap₂, subst, ◌∙◌, arith}
use Rattle.std.specs.Prelude.{nat_lt}
use Rattle.std.specs.List.{flat_map}
use Rattle.std.proofs.lemmas.List.{length-map, get_or-map, get_or_past}
use Rattle.std.proofs.lemmas.Bool.Decides.{nat_tests}
use Rattle.exact_values.specs.Rational.{ℚ, zero_ℚ, ◌+ℚ◌, ◌*ℚ◌}
use Rattle.exact_values.proofs.RingLaws.{add-zero, mul-zero}
use Rattle.lp_definitions.specs.LinearProgram.{LinearProgram, Matrix, Vector, IsVariable, numbers_from, size, value_at, variables}
use Rattle.lp_laws.proofs.Opening.{length-numbers_from, numbers_from-at}
use Rattle.check_definitions.specs.declared.Verdict.TheVariants.{Checked}
use Rattle.check_definitions.specs.Steps.{Step, verdict_of}
use Rattle.check_definitions.specs.Checks.{optimal_check}
use Rattle.simplex_definitions.specs.Chain.{along}
use Rattle.question_definitions.specs.Answers.{Sheet, Changing}
use Rattle.answer_definitions.specs.ParametricRuns.{family_of}
use Rattle.walk_definitions.specs.Checkers.{checker_of_128_bits}
use Rattle.walk_definitions.specs.Tests.{along_steps, keeps_limit, keeping_steps, part_test}
use Rattle.checks_of_128_bits.specs.declared.interval_tests.IntervalEnd.{IntervalEnd}
use Rattle.listing_claims.specs.declared.claims.Part.{Part}
use Rattle.checks_of_128_bits.specs.declared.fractions.FractionColumns.{FractionColumns}
use Rattle.checks_of_128_bits.specs.declared.interval_tests.Interval.{Interval}
use Rattle.checks_of_128_bits.specs.Fractions.{HasColumns}
use Rattle.listing_claims.specs.Intervals.{part_verdict}
use Rattle.checks_of_128_bits.specs.Intervals.{IsInterval, IsEnd, AreEnds, kept_steps, interval_verdict}
use Rattle.checks_of_128_bits.proofs.Carried.{family_matrix}

-- ---- values at a value of the parameter

along_at : (theta : ℚ) (value rate made : List ℚ) (n : ℕ) → made ≡ map (along theta value rate) (numbers_from 1 n) → length value ≡ n → length rate ≡ n →
    (k : ℕ) → value_at made k ≡ along theta value rate k
along_at theta value rate made n is values rates k = ap (λ xs. value_at xs k) is ∙ by (nat_lt (k - 1) n) refl
  where
    by : (b : Bool) → nat_lt (k - 1) n ≡ b → value_at (map (along theta value rate) (numbers_from 1 n)) k ≡ along theta value rate k
    by true less =
        let below : k - 1 < n = grind (arith, nat_tests, less) in
        let within : k - 1 < length (numbers_from 1 n) = rw (length-numbers_from 1 n) below in
        let place : 1 + (k - 1) - 1 ≡ k - 1 = omega arith in
        get_or-map (along theta value rate) (numbers_from 1 n) (k - 1) 0 zero_ℚ within
        ∙ ap (along theta value rate) (numbers_from-at 1 n (k - 1) 0 below)
        ∙ ap (λ i. get_or value i zero_ℚ +ℚ theta *ℚ get_or rate i zero_ℚ) place
    by false past =
        let over : n ≤ k - 1 = grind (arith, nat_tests, past) in
        let all : length (map (along theta value rate) (numbers_from 1 n)) ≤ k - 1 =
        rw (length-map (numbers_from 1 n) (along theta value rate), length-numbers_from 1 n) over in
        let over_value : length value ≤ k - 1 = rw values over in
        let over_rate : length rate ≤ k - 1 = rw rates over in
        get_or_past (map (along theta value rate) (numbers_from 1 n)) (k - 1) zero_ℚ all
        ∙ sym (ap₂ (λ (v r : ℚ). v +ℚ theta *ℚ r) (get_or_past value (k - 1) zero_ℚ over_value) (get_or_past rate (k - 1) zero_ℚ over_rate)
        ∙ ap (λ (z : ℚ). zero_ℚ +ℚ z) (mul-zero theta) ∙ add-zero zero_ℚ)

pub along_made : (p : LinearProgram) (theta : ℚ) (value rate made : List ℚ) → made ≡ map (along theta value rate) (variables p.matrix) →
    length value ≡ size p.matrix → length rate ≡ size p.matrix → value_at made ≡ along theta value rate
along_made p theta value rate made is values rates = λ i k. along_at theta value rate made (size p.matrix) is values rates k i

pub along_counted : (p : LinearProgram) (f : ℕ → ℚ) (made : List ℚ) → made ≡ map f (variables p.matrix) → length made ≡ size p.matrix
along_counted p f made is = ap length is ∙ length-map (variables p.matrix) f ∙ length-numbers_from 1 (size p.matrix)

-- ---- at an end

-- what was made of slices that show the columns
pub along_given : (sheet : Sheet) (theta : ℚ) (a b value rate made : List ℚ) → a ≡ value → b ≡ rate → verdict_of (along_steps sheet theta a b) ≡ Checked →
    made ≡ map (along theta a b) (variables sheet.lp.matrix) →
    (verdict_of (along_steps sheet theta value rate) ≡ Checked) × (made ≡ map (along theta value rate) (variables sheet.lp.matrix))
along_given sheet theta a b value rate made is_value is_rate passed is = (
  sym (ap₂ (λ a b. verdict_of (along_steps sheet theta a b)) is_value is_rate) ∙ passed,
  is ∙ ap₂ (λ a b. map (along theta a b) (variables sheet.lp.matrix)) is_value is_rate,
)

pub best_given : (sheet : Sheet) (changing : Changing) (theta : ℚ) (columns : FractionColumns) → HasColumns sheet.lp columns →
    (program : LinearProgram) (a b point prices : List ℚ) → program ≡ family_of sheet changing theta → a ≡ point → b ≡ prices →
    point ≡ map (along theta columns.value.items columns.value_rate.items) (variables sheet.lp.matrix) →
    prices ≡ map (along theta columns.price.items columns.price_rate.items) (variables sheet.lp.matrix) →
    optimal_check program (value_at a) (value_at b)
    ≡ optimal_check (family_of sheet changing theta) (along theta columns.value.items columns.value_rate.items)
    (along theta columns.price.items columns.price_rate.items)
best_given sheet changing theta columns counted program a b point prices is is_point is_prices made also =
    let z = ap value_at is_point ∙ along_made sheet.lp theta columns.value.items columns.value_rate.items point made counted.value counted.value_rate in
    let y = ap value_at is_prices ∙ along_made sheet.lp theta columns.price.items columns.price_rate.items prices also counted.price counted.price_rate in
    λ i. optimal_check (is i) (z i) (y i)

-- the test of an interval is that of its fractions
pub part_is : (sheet : Sheet) (changing : Changing) (from : ℚ) (part : Part) (interval : Interval) (is_first : Bool) (max : ℚ) → IsInterval from part interval →
    interval_verdict sheet changing interval is_first max ≡ part_verdict checker_of_128_bits sheet changing from part.to part.columns is_first max
part_is sheet changing from part interval is_first max is =
    λ i. part_test checker_of_128_bits sheet changing (is.begins i) (is.ends i) (is.columns.value i) (is.columns.value_rate i) (is.columns.price i)
    (is.columns.price_rate i) is_first max

-- ---- at both ends

module _ (sheet : Sheet) (changing : Changing) (from to : ℚ) (columns : FractionColumns) (counted : HasColumns sheet.lp columns) (start end : IntervalEnd)
    (first : IsEnd sheet changing from columns start) (last : IsEnd sheet changing to columns end) where
  first_matrix : start.program.matrix ≡ sheet.lp.matrix
  first_matrix = ap (λ (p : LinearProgram). p.matrix) first.program ∙ family_matrix sheet changing from

  last_matrix : end.program.matrix ≡ sheet.lp.matrix
  last_matrix = ap (λ (p : LinearProgram). p.matrix) last.program ∙ family_matrix sheet changing to

  first_point : value_at start.point.items ≡ along from columns.value.items columns.value_rate.items
  first_point = along_made sheet.lp from columns.value.items columns.value_rate.items start.point.items first.point counted.value counted.value_rate

  last_point : value_at end.point.items ≡ along to columns.value.items columns.value_rate.items
  last_point = along_made sheet.lp to columns.value.items columns.value_rate.items end.point.items last.point counted.value counted.value_rate

  first_prices : value_at start.prices.items ≡ along from columns.price.items columns.price_rate.items
  first_prices = along_made sheet.lp from columns.price.items columns.price_rate.items start.prices.items first.prices counted.price counted.price_rate

  last_prices : value_at end.prices.items ≡ along to columns.price.items columns.price_rate.items
  last_prices = along_made sheet.lp to columns.price.items columns.price_rate.items end.prices.items last.prices counted.price counted.price_rate

  pub are_ends : (k : ℕ) → IsVariable start.program.matrix k → AreEnds start end k
  are_ends k is =
      let here : IsVariable sheet.lp.matrix k = subst (λ (a : Matrix). IsVariable a k) first_matrix is in
      record {
        first = is;
        last = subst (λ (a : Matrix). IsVariable a k) (sym last_matrix) here;
        first_point = rw (along_counted sheet.lp (along from columns.value.items columns.value_rate.items) start.point.items first.point) here.1;
        last_point = rw (along_counted sheet.lp (along to columns.value.items columns.value_rate.items) end.point.items last.point) here.1;
        first_prices = rw (along_counted sheet.lp (along from columns.price.items columns.price_rate.items) start.prices.items first.prices) here.1;
        last_prices = rw (along_counted sheet.lp (along to columns.price.items columns.price_rate.items) end.prices.items last.prices) here.1;
      }

  -- the comparisons are those of the definition
  compared : (p q : LinearProgram) (z w y u : Vector) (ks : List ℕ) → List Step
  compared p q z w y u ks = flat_map (λ k. keeps_limit p q z w (y k) k ++ keeps_limit p q z w (u k) k) ks

  pub kept_is : verdict_of (flat_map (kept_steps start end) (variables start.program.matrix)) ≡ verdict_of
      (keeping_steps sheet changing from to columns.value.items columns.value_rate.items columns.price.items columns.price_rate.items)
  unfolding compared
  kept_is =
      (λ i. verdict_of
      (compared (first.program i) (last.program i) (first_point i) (last_point i) (first_prices i) (last_prices i) (variables (first_matrix i))))
