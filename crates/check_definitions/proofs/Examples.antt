-- Worked problems: what the checks say of their points, prices, rays and directions, and of wrong ones.
use Rattle.std.proofs.Common.{◌≡◌, ℕ, ◌*◌, ◌^◌, List, [], ◌∷◌, refl, pos, negsuc}
use Rattle.std.specs.Prelude.{Option, Some, None}
use Rattle.exact_values.specs.Gcd.{gcd}
use Rattle.exact_values.specs.Rational.{ℚ, whole, fraction, zero_ℚ, ◌+ℚ◌, ◌*ℚ◌, neg_ℚ, compare_ℚ}
use Rattle.frac128.specs.declared.Op.TheVariants.{Mul}
use Rattle.frac128.specs.Operations.{refuses, shared_factor, raised_numerator, raised_sum, sum_denominator}
use Rattle.lp_definitions.specs.declared.Entry.{Entry}
use Rattle.lp_definitions.specs.declared.Sense.{Sense}
use Rattle.lp_definitions.specs.declared.Sense.TheVariants.{Min, Max}
use Rattle.lp_definitions.specs.LinearProgram.{LinearProgram, value_at}
use Rattle.check_definitions.specs.declared.Verdict.TheVariants.{Checked, Failed, Unchecked}
use Rattle.check_definitions.specs.Steps.{of_any_length, verdict_by}
use Rattle.check_definitions.specs.Checks.{optimal_steps, optimal_check, crossed_check, infeasible_check, unbounded_check}

abbrev number : ℕ → ℚ
number n = whole (pos n)

abbrev minus : ℕ → ℚ
minus n = whole (negsuc n)

abbrev on : ℕ → ℚ → Entry
on i n = record { row = i; value = n }

-- one column with these numbers, which is not negative, and rows with these limits of which the first is the objective
abbrev one_column : ℕ → List Entry → List (Option ℚ) → List (Option ℚ) → Sense → LinearProgram
one_column rows entries lower upper sense = record {
  matrix = record { rows = rows; cols = 1; columns = entries ∷ [] };
  lower = lower;
  upper = upper;
  rhs = [];
  objective = 1;
  change = None;
  sense = sense;
}

-- ---- 3 x where x is at most 4: 12 is the greatest, and the row's price is 3

abbrev three_x : Sense → LinearProgram
three_x sense = one_column 2 (on 1 (number 3) ∷ on 2 (number 1) ∷ []) (None ∷ None ∷ Some zero_ℚ ∷ []) (None ∷ Some (number 4) ∷ None ∷ []) sense

abbrev four : List ℚ
four = number 12 ∷ number 4 ∷ number 4 ∷ []

greatest : optimal_check (three_x Max) (value_at four) (value_at (zero_ℚ ∷ number 3 ∷ zero_ℚ ∷ [])) ≡ Checked
unfolding refuses shared_factor raised_numerator raised_sum sum_denominator ◌+ℚ◌ ◌*ℚ◌ neg_ℚ fraction whole gcd compare_ℚ
greatest = refl

-- a row's value that is not its sum
wrong_row : optimal_check (three_x Max) (value_at (number 11 ∷ number 4 ∷ number 4 ∷ [])) (value_at (zero_ℚ ∷ number 3 ∷ zero_ℚ ∷ [])) ≡ Failed 1 1
unfolding refuses shared_factor raised_numerator raised_sum sum_denominator ◌+ℚ◌ ◌*ℚ◌ neg_ℚ fraction whole gcd compare_ℚ
wrong_row = refl

-- a value above its limit
above_limit : optimal_check (three_x Max) (value_at (number 15 ∷ number 5 ∷ number 5 ∷ [])) (value_at (zero_ℚ ∷ number 3 ∷ zero_ℚ ∷ [])) ≡ Failed 2 2
unfolding refuses shared_factor raised_numerator raised_sum sum_denominator ◌+ℚ◌ ◌*ℚ◌ neg_ℚ fraction whole gcd compare_ℚ
above_limit = refl

-- the column is variable 3
wrong_price : optimal_check (three_x Max) (value_at four) (value_at (zero_ℚ ∷ number 2 ∷ zero_ℚ ∷ [])) ≡ Failed 3 3
unfolding refuses shared_factor raised_numerator raised_sum sum_denominator ◌+ℚ◌ ◌*ℚ◌ neg_ℚ fraction whole gcd compare_ℚ
wrong_price = refl

-- at an upper limit a price is not positive where the objective is to be small
wrong_sign : optimal_check (three_x Min) (value_at four) (value_at (zero_ℚ ∷ number 3 ∷ zero_ℚ ∷ [])) ≡ Failed 4 2
unfolding refuses shared_factor raised_numerator raised_sum sum_denominator ◌+ℚ◌ ◌*ℚ◌ neg_ℚ fraction whole gcd compare_ℚ
wrong_sign = refl

-- ---- x is at least 3 by one row, and at most 2 by another

abbrev contradiction : LinearProgram
contradiction =
    one_column 3 (on 1 (number 1) ∷ on 2 (number 1) ∷ on 3 (number 1) ∷ []) (None ∷ Some (number 3) ∷ None ∷ Some zero_ℚ ∷ [])
    (None ∷ None ∷ Some (number 2) ∷ None ∷ []) Min

no_point : infeasible_check contradiction (value_at (zero_ℚ ∷ minus 0 ∷ number 1 ∷ zero_ℚ ∷ [])) ≡ Checked
unfolding refuses shared_factor raised_numerator raised_sum sum_denominator ◌+ℚ◌ ◌*ℚ◌ neg_ℚ fraction whole gcd compare_ℚ
no_point = refl

-- a ray of zeros has no negative sum
zeros : infeasible_check contradiction (value_at (zero_ℚ ∷ zero_ℚ ∷ zero_ℚ ∷ zero_ℚ ∷ [])) ≡ Failed 3 0
unfolding refuses shared_factor raised_numerator raised_sum sum_denominator ◌+ℚ◌ ◌*ℚ◌ neg_ℚ fraction whole gcd compare_ℚ
zeros = refl

-- a multiplier that meets no limit
no_limit : infeasible_check contradiction (value_at (zero_ℚ ∷ number 1 ∷ minus 0 ∷ zero_ℚ ∷ [])) ≡ Failed 2 2
unfolding refuses shared_factor raised_numerator raised_sum sum_denominator ◌+ℚ◌ ◌*ℚ◌ neg_ℚ fraction whole gcd compare_ℚ
no_limit = refl

-- ---- - x, where x has no upper limit, and where it has one

abbrev falling : Option ℚ → LinearProgram
falling high = one_column 1 (on 1 (minus 0) ∷ []) (None ∷ Some zero_ℚ ∷ []) (None ∷ high ∷ []) Min

no_least : unbounded_check (falling None) (value_at (zero_ℚ ∷ zero_ℚ ∷ [])) (value_at (minus 0 ∷ number 1 ∷ [])) ≡ Checked
unfolding refuses shared_factor raised_numerator raised_sum sum_denominator ◌+ℚ◌ ◌*ℚ◌ neg_ℚ fraction whole gcd compare_ℚ
no_least = refl

limit_ahead : unbounded_check (falling (Some (number 5))) (value_at (zero_ℚ ∷ zero_ℚ ∷ [])) (value_at (minus 0 ∷ number 1 ∷ [])) ≡ Failed 4 2
unfolding refuses shared_factor raised_numerator raised_sum sum_denominator ◌+ℚ◌ ◌*ℚ◌ neg_ℚ fraction whole gcd compare_ℚ
limit_ahead = refl

-- the objective does not change
no_improvement : unbounded_check (falling None) (value_at (zero_ℚ ∷ zero_ℚ ∷ [])) (value_at (zero_ℚ ∷ zero_ℚ ∷ [])) ≡ Failed 5 0
unfolding refuses shared_factor raised_numerator raised_sum sum_denominator ◌+ℚ◌ ◌*ℚ◌ neg_ℚ fraction whole gcd compare_ℚ
no_improvement = refl

-- with the second row as its change row, 3 times
abbrev changed : LinearProgram
changed =
    record (one_column 2 (on 1 (number 1) ∷ on 2 (minus 0) ∷ []) (None ∷ None ∷ Some zero_ℚ ∷ []) (None ∷ None ∷ None ∷ []) Min) {
      change = Some
          (record { row = 2; theta = number 3 });
    }

-- x - 3 x falls, and x alone does not
change_counts : unbounded_check changed (value_at (zero_ℚ ∷ zero_ℚ ∷ zero_ℚ ∷ [])) (value_at (number 1 ∷ minus 0 ∷ number 1 ∷ [])) ≡ Checked
unfolding refuses shared_factor raised_numerator raised_sum sum_denominator ◌+ℚ◌ ◌*ℚ◌ neg_ℚ fraction whole gcd compare_ℚ
change_counts = refl

-- ---- an upper limit of -1 on a column that is not negative

crossed : crossed_check (falling (Some (minus 0))) 2 ≡ Checked
unfolding compare_ℚ whole
crossed = refl

not_crossed : crossed_check (falling (Some zero_ℚ)) 2 ≡ Failed 1 2
unfolding compare_ℚ whole
not_crossed = refl

-- ---- a product that does not fit into 128 bits

abbrev large : ℚ
large = number (999999999 * 10 ^ 18)

abbrev too_large : LinearProgram
too_large = one_column 2 (on 1 (number 1) ∷ on 2 large ∷ []) (None ∷ None ∷ Some zero_ℚ ∷ []) (None ∷ None ∷ None ∷ []) Min

refused : optimal_check too_large (value_at (large ∷ zero_ℚ ∷ large ∷ [])) (value_at []) ≡ Unchecked (record { op = Mul; left = large; right = large })
unfolding refuses shared_factor raised_numerator raised_sum sum_denominator ◌+ℚ◌ ◌*ℚ◌ neg_ℚ fraction whole gcd compare_ℚ
refused = refl

-- of any length it is made, and the row's value is found not to be the row's sum
made : verdict_by of_any_length (optimal_steps too_large (value_at (large ∷ zero_ℚ ∷ large ∷ [])) (value_at [])) ≡ Failed 1 2
unfolding ◌+ℚ◌ ◌*ℚ◌ neg_ℚ fraction whole gcd compare_ℚ
made = refl
