-- A test that is passed in numbers of 128 bits is passed in numbers of any length, and there no operation of it is refused.
--     any limit                    the checker of any length, with another limit on digits, or none
--     IsTest test                  both are so of a test, which goes by the checker
use Rattle.std.proofs.Common.{◌≡◌, ℕ, Bool, true, false, List, [], ◌∷◌, map, Option, refl, ap, ◌∙◌}
use Rattle.std.specs.Prelude.{◌&&◌, ◌||◌}
use Rattle.std.specs.List.{flat_map}
use Rattle.exact_values.specs.Rational.{ℚ, zero_ℚ, ◌+ℚ◌, ◌*ℚ◌}
use Rattle.exact_values.specs.Tests.{lt_ℚ, le_ℚ, eq_ℚ}
use Rattle.lp_definitions.specs.LinearProgram.{LinearProgram, Vector, value_at, for_min}
use Rattle.frac128.specs.declared.Refused.{Refused}
use Rattle.check_definitions.specs.declared.Verdict.{Verdict}
use Rattle.check_definitions.specs.declared.Verdict.TheVariants.{Checked, Failed, Unchecked}
use Rattle.check_definitions.specs.Steps.{Step, of_128_bits, followed_by, sum_steps, sum_of}
use Rattle.check_definitions.specs.Checks.{equations, feasible_point, reduced_costs, ray_columns, multiplied, limit_product, ray_limits, free_direction}
use Rattle.check_definitions.specs.Checks.{optimal_steps, crossed_steps, infeasible_steps, unbounded_steps}
use Rattle.check_definitions.proofs.Holding.{checked_widens, never_refused}
use Rattle.check_definitions.proofs.Passing.{both_checked}
use Rattle.simplex_definitions.specs.Chain.{along}
use Rattle.listing_definitions.specs.declared.Mark.{Mark}
use Rattle.listing_definitions.specs.declared.Mark.TheVariants.{Optimal, Infeasible, Unbounded}
use Rattle.listing_definitions.specs.Report.{PathVerdict, OptimalAt, CrossedAt, InfeasibleBy, UnboundedBy, Check, SolutionLines, ParametricInterval, ChainEnd}
use Rattle.listing_definitions.specs.Report.{EndsAt, UnboundedPast, InfeasiblePast}
use Rattle.question_definitions.specs.Answers.{Sheet, Changing, Row, Set}
use Rattle.answer_definitions.specs.Lines.{row_numbers}
use Rattle.answer_definitions.specs.ParametricRuns.{row_of, shifts_of, family_of}
use Rattle.walk_definitions.specs.Checkers.{Checker, checker_of_128_bits, checker_of_any_length}
use Rattle.walk_definitions.specs.Tables.{column_of, multipliers}
use Rattle.walk_definitions.specs.Tests.{asked, says, point_of, prices_of, slacks_of, slack_steps, making_steps, along_steps, keeping_steps, shift_products}
use Rattle.walk_definitions.specs.Tests.{claim_test, verdict_test, best_test, solution_test, end_test, part_test, interval_test, unbounded_past}
use Rattle.walk_definitions.specs.Tests.{infeasible_past, past_test, close_test}

abbrev pub any : Option ℕ → Checker
any limit = record checker_of_any_length { most_digits = limit }

pub record IsTest (test : Checker → Verdict) : Type 0 where
  pub widens : test checker_of_128_bits ≡ Checked → test checker_of_any_length ≡ Checked
  pub never : (limit : Option ℕ) (refused : Refused) → test (any limit) ≡ Unchecked refused → ⊥

-- ---- what tests are made of

pub of_steps : (steps : List Step) → IsTest (λ C. says C steps)
of_steps steps = record { widens = checked_widens of_128_bits steps; never = λ limit. never_refused steps }

of_failed : (part number : ℕ) → IsTest (λ C. Failed part number)
of_failed part number = record { widens = λ e. e; never = λ limit refused e. cc e }

of_asked : (b : Bool) → IsTest (λ C. asked b)
of_asked true = record { widens = λ e. e; never = λ limit refused e. cc e }
of_asked false = of_failed 6 0

pub over : IsTest (λ C. Checked)
over = record { widens = λ e. e; never = λ limit refused e. cc e }

-- the word of a check, which that of any length takes as it is
of_word : (check : Check) → IsTest (λ C. asked (C.takes check))
of_word check = record { widens = λ e. refl; never = λ limit refused e. cc e }

pub next : {one other : Checker → Verdict} → IsTest one → IsTest other → IsTest (λ C. followed_by (one C) (other C))
next {one = one} {other = other} first later = record {
  widens = λ e.
      let both = both_checked (one checker_of_128_bits) (other checker_of_128_bits) e in
      ap (λ v. followed_by v (other checker_of_any_length)) (first.widens both.0) ∙ later.widens both.1;
  never = λ limit refused e. at (one (any limit)) (other (any limit)) (first.never limit) (later.never limit) refused e;
}
  where
    at : (v w : Verdict) → ((refused : Refused) → v ≡ Unchecked refused → ⊥) → ((refused : Refused) → w ≡ Unchecked refused → ⊥) → (refused : Refused) →
        followed_by v w ≡ Unchecked refused → ⊥
    at Checked w off on refused e = on refused e
    at (Failed part number) w off on refused e = cc e
    at (Unchecked other) w off on refused e = off other refl

-- ---- the tests

module _ (sheet : Sheet) where
  claim_is : (verdict : PathVerdict) → IsTest (λ C. claim_test C sheet verdict)
  claim_is (OptimalAt steps objective) = over
  claim_is (CrossedAt k) = of_steps (crossed_steps sheet.lp k)
  claim_is (InfeasibleBy steps lines) = of_steps (infeasible_steps sheet.lp (value_at (multipliers sheet lines)))
  claim_is (UnboundedBy steps objective lines) =
      next (of_steps (unbounded_steps sheet.lp (value_at (column_of 0 lines)) (value_at (column_of 1 lines))))
      (next (of_asked (eq_ℚ objective (value_at (column_of 0 lines) sheet.lp.objective))) over)

  pub verdict_is : (verdict : PathVerdict) (check : Check) → IsTest (λ C. verdict_test C sheet verdict check)
  verdict_is (OptimalAt steps objective) check = over
  verdict_is (CrossedAt k) check = next (claim_is (CrossedAt k)) (next (of_word check) over)
  verdict_is (InfeasibleBy steps lines) check = next (claim_is (InfeasibleBy steps lines)) (next (of_word check) over)
  verdict_is (UnboundedBy steps objective lines) check = next (claim_is (UnboundedBy steps objective lines)) (next (of_word check) over)

  best_is : (mark : Mark) (z y : Vector) → IsTest (λ C. best_test C sheet mark z y)
  best_is Optimal z y = of_steps (optimal_steps sheet.lp z y)
  best_is Infeasible z y = over
  best_is Unbounded z y = over

  pub solution_is : (mark : Mark) (lines : SolutionLines) → IsTest (λ C. solution_test C sheet mark lines)
  solution_is mark lines =
      next (of_steps (equations sheet.lp 1 (point_of sheet lines))) (next (of_steps (reduced_costs sheet.lp (prices_of sheet lines)))
      (next (of_steps (flat_map (slack_steps sheet (point_of sheet lines) (slacks_of sheet lines)) (row_numbers sheet.lp)))
      (next (best_is mark (point_of sheet lines) (prices_of sheet lines)) over)))

  module _ (changing : Changing) where
    end_is : (theta : ℚ) (value value_rate price price_rate : List ℚ) → IsTest (λ C. end_test C sheet changing theta value value_rate price price_rate)
    end_is theta value value_rate price price_rate =
        next (of_steps (making_steps sheet changing theta))
        (next (of_steps (along_steps sheet theta value value_rate)) (next (of_steps (along_steps sheet theta price price_rate))
        (next (of_steps (optimal_steps (family_of sheet changing theta) (along theta value value_rate) (along theta price price_rate))) over)))

    part_is : (from to : ℚ) (value value_rate price price_rate : List ℚ) (is_first : Bool) (max : ℚ) →
        IsTest (λ C. part_test C sheet changing from to value value_rate price price_rate is_first max)
    part_is from to value value_rate price price_rate is_first max =
        next (of_asked (lt_ℚ from to || (is_first && eq_ℚ from to)))
        (next (of_asked (le_ℚ to max)) (next (end_is from value value_rate price price_rate) (next (end_is to value value_rate price price_rate)
        (next (of_steps (keeping_steps sheet changing from to value value_rate price price_rate)) over))))

    pub interval_is : (is_first : Bool) (max : ℚ) (interval : ParametricInterval) → IsTest (λ C. interval_test C sheet changing is_first max interval)
    interval_is is_first max interval =
        part_is interval.from interval.to (column_of 1 interval.lines) (column_of 2 interval.lines) (column_of 3 interval.lines)
        (column_of 4 interval.lines) is_first max

    unbounded_is : (h : ℕ) (t : ℚ) (z d : Vector) → IsTest (λ C. unbounded_past C sheet changing h t z d)
    unbounded_is h t z d =
        let lp : LinearProgram = sheet.lp in
        next (of_steps (feasible_point lp z))
        (next (of_steps (equations lp 3 d))
        (next (of_steps (free_direction lp d)) (next (of_steps (sum_steps (d lp.objective) (record { left = t; right = d h } ∷ [])))
        (next (of_asked (le_ℚ (for_min lp.sense (d lp.objective +ℚ t *ℚ d h)) zero_ℚ)) (next (of_asked (lt_ℚ (for_min lp.sense (d h)) zero_ℚ)) over)))))

    infeasible_is : (shift : List ℚ) (t : ℚ) (w : Vector) → IsTest (λ C. infeasible_past C sheet changing shift t w)
    infeasible_is shift t w =
        let lp : LinearProgram = family_of sheet changing t in
        next (of_steps (making_steps sheet changing t)) (next (of_steps (ray_columns lp w)) (next (of_steps (ray_limits lp w zero_ℚ (multiplied lp w)))
        (next (of_asked (le_ℚ (sum_of zero_ℚ (map (limit_product lp w) (multiplied lp w))) zero_ℚ))
        (next (of_steps (sum_steps zero_ℚ (shift_products sheet changing shift w)))
        (next (of_asked (lt_ℚ (sum_of zero_ℚ (shift_products sheet changing shift w)) zero_ℚ)) over)))))

  past_is : (max last t : ℚ) {test : Checker → Verdict} → IsTest test → IsTest (λ C. past_test max last t (test C))
  past_is max last t h = next (of_asked (eq_ℚ t last)) (next (of_asked (lt_ℚ t max)) (next h over))

  ends_is : (max last t : ℚ) → IsTest (λ C. followed_by (asked (eq_ℚ t last)) (followed_by (asked (eq_ℚ t max)) Checked))
  ends_is max last t = next (of_asked (eq_ℚ t last)) (next (of_asked (eq_ℚ t max)) over)

  pub close_is : (changing : Changing) (max last : ℚ) (end : ChainEnd) → IsTest (λ C. close_test C sheet changing max last end)
  close_is (Row name) max last (UnboundedPast t lines) =
      past_is max last t (unbounded_is (Row name) (row_of sheet.problem name) t (value_at (column_of 0 lines)) (value_at (column_of 1 lines)))
  close_is (Row name) max last (InfeasiblePast t lines) = of_failed 6 0
  close_is (Row name) max last (EndsAt t) = ends_is max last t
  close_is (Set name) max last (UnboundedPast t lines) = of_failed 6 0
  close_is (Set name) max last (InfeasiblePast t lines) =
      past_is max last t (infeasible_is (Set name) (shifts_of sheet.problem name) t (value_at (multipliers sheet lines)))
  close_is (Set name) max last (EndsAt t) = ends_is max last t
