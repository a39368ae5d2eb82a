-- The ends of an interval.
use Rattle.std.proofs.Common.{◌≡◌, ℕ, zero, suc, ◌-◌, List, [], ◌∷◌, ◌++◌, Bool, length, get_or, refl, sym, ap, subst, ◌∙◌, pos, arith}
use Rattle.std.specs.Prelude.{IsTrue, ◌↔◌, ◌&&◌, Option, Some, None}
use Rattle.std.specs.List.{flat_map}
use Rattle.exact_values.specs.Rational.{ℚ, zero_ℚ, ◌+ℚ◌, ◌*ℚ◌}
use Rattle.exact_values.proofs.Ring.{by_ring1, ◌⊕◌, ◌⊗◌, ◌≐◌, number}
use Rattle.lp_definitions.specs.LinearProgram.{LinearProgram, Vector, size, value_at, variables, lower_of, upper_of}
use Rattle.simplex_definitions.specs.Chain.{along}
use Rattle.check_definitions.specs.Steps.{Step, AllHold, of_any_length, verdict_by, sum_steps}
use Rattle.check_definitions.specs.Checks.{optimal_steps}
use Rattle.check_definitions.proofs.Holding.{hold_checked}
use Rattle.question_definitions.specs.Answers.{Sheet, Changing, Row, Set}
use Rattle.answer_definitions.specs.ParametricRuns.{family_of, shifts_of}
use Rattle.answer_definitions.specs.Lines.{row_numbers}
use Rattle.walk_definitions.specs.Tests.{moving_steps, making_steps, along_steps, keeps_limit, keeping_steps}
use Rattle.listing_claims.specs.declared.claims.Columns.{Columns}
use Rattle.listing_claims.specs.Intervals.{AreCounted}
use Rattle.long_vectors.specs.Vectors.{list_along}
use Rattle.long_programs.specs.declared.programs.ChangeAt.{ChangeAt}
use Rattle.long_programs.specs.Programs.{program_of}
use Rattle.long_points.specs.declared.ends.End.{End}
use Rattle.long_points.specs.Places.{HasPlaces}
use Rattle.long_points.specs.Ends.{IsEnd, kept_steps}
use Rattle.long_points.proofs.Holds.{append_hold, sums_hold}
use Rattle.long_solutions.specs.Answers.{Answers}
use Rattle.long_solutions.specs.Lines.{IsFamily, points_at, end_verdict, ends_verdict}
use Rattle.long_solutions.proofs.Answered.{answers_of, both_answer, last_answers, after_checked}

-- ---- values at theta

list_along_at : (x : ℚ) (vs rs : List ℚ) → length vs ≡ length rs → (k : ℕ) →
    get_or (list_along x vs rs) k zero_ℚ ≡ get_or vs k zero_ℚ +ℚ x *ℚ get_or rs k zero_ℚ
list_along_at x [] [] e k = by_ring1 x (λ x. number (pos 0) ≐ number (pos 0) ⊕ x ⊗ number (pos 0)) refl
list_along_at x [] (r ∷ rs) e k = absurd (omega (arith, e))
list_along_at x (v ∷ vs) [] e k = absurd (omega (arith, e))
list_along_at x (v ∷ vs) (r ∷ rs) e zero = refl
list_along_at x (v ∷ vs) (r ∷ rs) e (suc k) = list_along_at x vs rs (omega (arith, e)) k

pub along_is : (x : ℚ) (vs rs : List ℚ) → length vs ≡ length rs → value_at (list_along x vs rs) ≡ along x vs rs
along_is x vs rs e = λ i k. list_along_at x vs rs e (k - 1) i

pub length-list_along : (x : ℚ) (vs rs : List ℚ) → length vs ≡ length rs → length (list_along x vs rs) ≡ length vs
length-list_along x [] [] e = refl
length-list_along x [] (r ∷ rs) e = refl
length-list_along x (v ∷ vs) [] e = absurd (omega (arith, e))
length-list_along x (v ∷ vs) (r ∷ rs) e = ap suc (length-list_along x vs rs (omega (arith, e)))

-- ---- how many there are

pub end_places : (theta : ℚ) (columns : Columns) (p : LinearProgram) → AreCounted p columns → (end : End) → IsEnd (points_at theta columns) theta end →
    HasPlaces p end
end_places theta columns p counted end is = (
  is.point.is_over.counted ∙ length-list_along theta columns.value.items columns.value_rate.items (counted.value ∙ sym counted.value_rate)
      ∙ counted.value,
  is.prices.is_over.counted ∙ length-list_along theta columns.price.items columns.price_rate.items (counted.price ∙ sym counted.price_rate)
      ∙ counted.price,
)

-- ---- steps that are operations alone

flat_hold : (f : ℕ → List Step) → ((k : ℕ) → AllHold (f k)) → (ks : List ℕ) → AllHold (flat_map f ks)
flat_hold f each [] = tt
flat_hold f each (k ∷ ks) = append_hold (f k) (flat_map f ks) (each k) (flat_hold f each ks)

module _ (sheet : Sheet) where
  moving_hold : (theta by : ℚ) (limit : Option ℚ) → AllHold (moving_steps sheet theta by limit)
  moving_hold theta by None = tt
  moving_hold theta by (Some limit) = tt

  pub making_hold : (changing : Changing) (theta : ℚ) → AllHold (making_steps sheet changing theta)
  making_hold (Row name) theta = tt
  making_hold (Set name) theta =
      flat_hold (λ i. moving_steps sheet theta (value_at (shifts_of sheet.problem name) i) (lower_of sheet.lp i) ++ moving_steps sheet theta
      (value_at (shifts_of sheet.problem name) i) (upper_of sheet.lp i))
      (λ i. append_hold (moving_steps sheet theta (value_at (shifts_of sheet.problem name) i) (lower_of sheet.lp i))
      (moving_steps sheet theta (value_at (shifts_of sheet.problem name) i) (upper_of sheet.lp i))
      (moving_hold theta (value_at (shifts_of sheet.problem name) i) (lower_of sheet.lp i))
      (moving_hold theta (value_at (shifts_of sheet.problem name) i) (upper_of sheet.lp i)))
      (row_numbers sheet.lp)

  along_hold : (theta : ℚ) (value rate : List ℚ) → AllHold (along_steps sheet theta value rate)
  along_hold theta value rate =
      flat_hold (λ k. sum_steps (value_at value k) (record { left = theta; right = value_at rate k } ∷ []))
      (λ k. sums_hold (value_at value k) (record { left = theta; right = value_at rate k } ∷ [])) (variables sheet.lp.matrix)

-- ---- an end, and both

module _ (sheet : Sheet) (changing : Changing) (p : LinearProgram) (change : ChangeAt) (family : IsFamily sheet changing p change) (columns : Columns)
    (counted : AreCounted sheet.lp columns) where
  same_values : length columns.value.items ≡ length columns.value_rate.items
  same_values = counted.value ∙ sym counted.value_rate

  same_prices : length columns.price.items ≡ length columns.price_rate.items
  same_prices = counted.price ∙ sym counted.price_rate

  values : (theta : ℚ) → value_at (points_at theta columns).point ≡ along theta columns.value.items columns.value_rate.items
  values theta = along_is theta columns.value.items columns.value_rate.items same_values

  prices : (theta : ℚ) → value_at (points_at theta columns).prices ≡ along theta columns.price.items columns.price_rate.items
  prices theta = along_is theta columns.price.items columns.price_rate.items same_prices

  pub end_answers : (from to theta : ℚ) (holds : Bool) →
      IsTrue holds ↔ AllHold
      (optimal_steps (program_of p change theta) (value_at (points_at theta columns).point) (value_at (points_at theta columns).prices)) →
      Answers holds (end_verdict sheet changing from to columns theta)
  end_answers from to theta holds h =
      let z : Vector = along theta columns.value.items columns.value_rate.items in
      let y : Vector = along theta columns.price.items columns.price_rate.items in
      let q : LinearProgram = family_of sheet changing theta in
      let best : IsTrue holds ↔ AllHold (optimal_steps q z y) =
      subst (λ (steps : List Step). IsTrue holds ↔ AllHold steps) (λ i. optimal_steps (sym (family.same theta) i) (values theta i) (prices theta i)) h in
      after_checked holds _ _ (hold_checked (making_steps sheet changing theta) (making_hold sheet changing theta))
      (after_checked holds _ _
      (hold_checked (along_steps sheet theta columns.value.items columns.value_rate.items)
      (along_hold sheet theta columns.value.items columns.value_rate.items))
      (after_checked holds _ _
      (hold_checked (along_steps sheet theta columns.price.items columns.price_rate.items)
      (along_hold sheet theta columns.price.items columns.price_rate.items))
      (last_answers holds (verdict_by of_any_length (optimal_steps q z y)) (answers_of holds (optimal_steps q z y) best))))

  -- the comparisons of what is kept are those of the definition
  kept_is : (from to : ℚ) →
      flat_map (kept_steps (program_of p change from) (program_of p change to) (points_at from columns) (points_at to columns))
      (variables p.matrix) ≡ keeping_steps sheet changing from to columns.value.items columns.value_rate.items columns.price.items columns.price_rate.items
  kept_is from to = λ i.
      flat_map (λ k.
      keeps_limit (sym (family.same from) i) (sym (family.same to) i) (values from i) (values to i) (prices from i k) k
      ++ keeps_limit (sym (family.same from) i) (sym (family.same to) i) (values from i) (values to i) (prices to i k) k)
      (variables (sym family.lp i).matrix)

  pub ends_answer : (from to : ℚ) (begins closes keeps : Bool) →
      IsTrue begins ↔ AllHold (optimal_steps (program_of p change from) (value_at (points_at from columns).point) (value_at (points_at from columns).prices)) →
      IsTrue closes ↔ AllHold (optimal_steps (program_of p change to) (value_at (points_at to columns).point) (value_at (points_at to columns).prices)) →
      IsTrue keeps ↔ AllHold
      (flat_map (kept_steps (program_of p change from) (program_of p change to) (points_at from columns) (points_at to columns)) (variables p.matrix)) →
      Answers (begins && (closes && keeps)) (ends_verdict sheet changing from to columns)
  ends_answer from to begins closes keeps first last kept =
      let steps : List Step = keeping_steps sheet changing from to columns.value.items columns.value_rate.items columns.price.items columns.price_rate.items in
      both_answer begins (closes && keeps) (end_verdict sheet changing from to columns from) _ (end_answers from to from begins first)
      (both_answer closes keeps (end_verdict sheet changing from to columns to) _ (end_answers from to to closes last)
      (last_answers keeps (verdict_by of_any_length steps)
      (answers_of keeps steps (subst (λ (s : List Step). IsTrue keeps ↔ AllHold s) (kept_is from to) kept))))
