-- What the comparisons of a check ask, each by itself.
--     equation_test p z i          the sum of row i is the value of row i
--     limit_test p z k             the value of variable k is within its limits
--     cost_test p y j              the price of column j is its reduced cost
--     price_test p z y k           the price of variable k stands at the limit that its sign asks for
--     slack_test p z slack i       the slack of row i is its right-hand side less its activity
--     keep_test p q z w price k    a price of variable k asks for a limit at which both points stand, each in its own program
--     not_below_by, not_above_by, at_by    what an order tells of a value and a limit, if the limit is there
--     counted_by sense order       how the value compares with 0 as it counts where less is better
--     rate_on row by i             a number stands on a row, and 0 on the others
--     rates_on es i                the numbers of a column that stand on row i, added up
--     UpTo test i                  the numbers from 1 to i pass
--     AnswersUpTo Post test n      a function of these results answers of each number from 1 to n whether it passes
use Rattle.std.specs.Prelude.{◌≡◌, ℕ, ◌+◌, ◌≤◌, Bool, true, false, ◌&&◌, nat_eq, if◌then◌else◌, List, [], ◌∷◌, Option, Some, None, Result, Ok}
use Rattle.std.specs.declared.alloc.AllocError.{AllocError}
use Rattle.std.specs.declared.cmp.Ordering.{Ordering}
use Rattle.std.specs.declared.cmp.Ordering.TheVariants.{Less, Equal, Greater}
use Rattle.exact_values.specs.Rational.{ℚ, zero_ℚ, ◌+ℚ◌, ◌-ℚ◌, compare_ℚ}
use Rattle.exact_values.specs.Tests.{eq_ℚ}
use Rattle.lp_definitions.specs.LinearProgram.{LinearProgram, Vector, value_at, lower_of, upper_of, cost, for_min}
use Rattle.lp_definitions.specs.declared.Entry.{Entry}
use Rattle.lp_definitions.specs.declared.Sense.{Sense}
use Rattle.lp_definitions.specs.declared.Sense.TheVariants.{Min, Max}
use Rattle.check_definitions.specs.Steps.{sum_of}
use Rattle.check_definitions.specs.Checks.{is_not_below, is_not_above, is_at, by_sign, row_products, column_products}

module _ (p : LinearProgram) where
  abbrev pub equation_test : Vector → ℕ → Bool
  equation_test z i = eq_ℚ (sum_of zero_ℚ (row_products p z i)) (z i)

  abbrev pub limit_test : Vector → ℕ → Bool
  limit_test z k = is_not_below (lower_of p k) (z k) && is_not_above (upper_of p k) (z k)

  abbrev pub cost_test : Vector → ℕ → Bool
  cost_test y j = eq_ℚ (cost p j -ℚ sum_of zero_ℚ (column_products p y j)) (y (p.rows + j))

  abbrev pub price_test : Vector → Vector → ℕ → Bool
  price_test z y k = by_sign (compare_ℚ (for_min p.sense (y k)) zero_ℚ) (is_at (upper_of p k) (z k)) (is_at (lower_of p k) (z k))

  abbrev pub slack_test : Vector → Vector → ℕ → Bool
  slack_test z slack i = eq_ℚ (value_at p.rhs i -ℚ z i) (slack i)

abbrev pub keep_test : (p q : LinearProgram) → Vector → Vector → ℚ → ℕ → Bool
keep_test p q z w price k =
    by_sign (compare_ℚ (for_min p.sense price) zero_ℚ) (is_at (upper_of p k) (z k) && is_at (upper_of q k) (w k))
    (is_at (lower_of p k) (z k) && is_at (lower_of q k) (w k))

abbrev pub not_below_by : Option Ordering → Bool
not_below_by None = true
not_below_by (Some Less) = false
not_below_by (Some Equal) = true
not_below_by (Some Greater) = true

abbrev pub not_above_by : Option Ordering → Bool
not_above_by None = true
not_above_by (Some Less) = true
not_above_by (Some Equal) = true
not_above_by (Some Greater) = false

abbrev pub at_by : Option Ordering → Bool
at_by None = false
at_by (Some Less) = false
at_by (Some Equal) = true
at_by (Some Greater) = false

abbrev pub counted_by : Sense → Ordering → Ordering
counted_by Min order = order
counted_by Max Less = Greater
counted_by Max Equal = Equal
counted_by Max Greater = Less

abbrev pub UpTo : (ℕ → Bool) → ℕ → Type 0
UpTo test i = (k : ℕ) → 1 ≤ k → k ≤ i → test k ≡ true

abbrev pub AnswersUpTo : (ℕ → Result Bool AllocError → Type 0) → (ℕ → Bool) → ℕ → Type 0
AnswersUpTo Post test n = (k : ℕ) → (holds : Bool) → 1 ≤ k → k ≤ n → Post k (Ok holds) → holds ≡ test k

abbrev pub rate_on : ℕ → ℚ → ℕ → ℚ
rate_on row by i = if nat_eq row i then by else zero_ℚ

abbrev pub rates_on : List Entry → ℕ → ℚ
rates_on [] i = zero_ℚ
rates_on (e ∷ es) i = rate_on e.row e.value i +ℚ rates_on es i
