-- The checks of a linear program's verdicts, step by step. A column is numbered as the variable that belongs to it.
--     equations p part z           each row's sum is the row's value
--     within_limits p z            each value is within its limits
--     feasible_point p z           both
--     reduced_costs p y            each column's cost, less the rows' prices times its numbers, is the column's price
--     standing_prices p z y        a price that is not 0 stands only at the limit that its sign asks for
--     ray_columns, ray_limits      the multipliers vanish on each column; each meets a limit, and these products are added up
--     free_direction p d           the direction falls only where there is no lower limit, and rises only where there is no upper one
--     optimal_steps, crossed_steps, infeasible_steps, unbounded_steps      all that is asked of a verdict
--     optimal_check, crossed_check, infeasible_check, unbounded_check      what these steps say in numbers of 128 bits
use Rattle.std.specs.Prelude.{ℕ, ◌+◌, Bool, true, false, not, ◌&&◌, List, [], ◌∷◌, ◌++◌, map, filter, Option, Some, None, is_some, is_none, unwrap_or}
use Rattle.std.specs.List.{flat_map}
use Rattle.std.specs.declared.cmp.Ordering.{Ordering}
use Rattle.std.specs.declared.cmp.Ordering.TheVariants.{Less, Equal, Greater}
use Rattle.exact_values.specs.Rational.{ℚ, zero_ℚ, ◌-ℚ◌, ◌+ℚ◌, compare_ℚ}
use Rattle.exact_values.specs.Tests.{lt_ℚ, le_ℚ, eq_ℚ}
use Rattle.frac128.specs.declared.Op.TheVariants.{Sub}
use Rattle.lp_definitions.specs.LinearProgram.{LinearProgram, Vector, variables, numbers_from, column, entry, lower_of, upper_of, cost, objective_value}
use Rattle.lp_definitions.specs.LinearProgram.{for_min}
use Rattle.lp_definitions.specs.Solutions.{limit_against}
use Rattle.lp_definitions.specs.declared.Change.{Change}
use Rattle.lp_definitions.specs.declared.Entry.{Entry}
use Rattle.check_definitions.specs.declared.Verdict.{Verdict}
use Rattle.check_definitions.specs.Steps.{Step, operation, comparison, verdict_of, Product, product_of, sum_steps, sum_of}

-- ---- tests of one value

-- the value is not below the limit, if there is one
abbrev pub is_not_below : Option ℚ → ℚ → Bool
is_not_below None v = true
is_not_below (Some limit) v = le_ℚ limit v

-- nor above it
abbrev pub is_not_above : Option ℚ → ℚ → Bool
is_not_above None v = true
is_not_above (Some limit) v = le_ℚ v limit

-- the limit is there, and it is the value
abbrev pub is_at : Option ℚ → ℚ → Bool
is_at None v = false
is_at (Some limit) v = eq_ℚ limit v

-- both limits are there, and the lower one is greater
abbrev pub is_crossed : Option ℚ → Option ℚ → Bool
is_crossed (Some low) (Some high) = lt_ℚ high low
is_crossed (Some low) None = false
is_crossed None high = false

-- what is asked of a negative number, and what of a positive one; nothing is asked of 0
abbrev pub by_sign : Ordering → Bool → Bool → Bool
by_sign Less negative positive = negative
by_sign Equal negative positive = true
by_sign Greater negative positive = positive

-- ---- parts

-- the numbers of a column in the order in which it has them, each with the value of its row before it
abbrev pub entry_products : Vector → List Entry → List Product
entry_products y es = map (λ e. record { left = y e.row; right = e.value }) es

-- those of the numbers that have a multiplier other than 0
abbrev pub multiplied_among : Vector → List ℕ → List ℕ
multiplied_among w ks = filter (λ k. not (eq_ℚ (w k) zero_ℚ)) ks

-- theta times f at the change row, if there is one, added to f at the objective row
abbrev pub change_steps : Option Change → Vector → ℚ → List Step
change_steps None f v = []
change_steps (Some c) f v = sum_steps v (record { left = c.theta; right = f c.row } ∷ [])

module _ (p : LinearProgram) where
  abbrev pub combined_steps : Vector → List Step
  combined_steps f = change_steps p.change f (f p.objective)

  -- the numbers on row i, each times the value of its column, over the columns in order
  abbrev pub row_products : Vector → ℕ → List Product
  row_products z i = map (λ j. record { left = entry p.matrix i j; right = z (p.rows + j) }) (numbers_from 1 p.cols)

  -- the sum of row i is the value of row i
  abbrev pub equation : ℕ → Vector → ℕ → List Step
  equation part z i = sum_steps zero_ℚ (row_products z i) ++ comparison part i (eq_ℚ (sum_of zero_ℚ (row_products z i)) (z i)) ∷ []

  abbrev pub equations : ℕ → Vector → List Step
  equations part z = flat_map (equation part z) (numbers_from 1 p.rows)

  -- the value of variable k is not below its lower and not above its upper limit
  abbrev pub within_limit : Vector → ℕ → List Step
  within_limit z k = comparison 2 k (is_not_below (lower_of p k) (z k) && is_not_above (upper_of p k) (z k)) ∷ []

  abbrev pub within_limits : Vector → List Step
  within_limits z = flat_map (within_limit z) (variables p.matrix)

  abbrev pub feasible_point : Vector → List Step
  feasible_point z = equations 1 z ++ within_limits z

  -- the numbers of column j, each with the multiplier of its row
  abbrev pub column_products : Vector → ℕ → List Product
  column_products y j = entry_products y (column p.matrix j)

  -- the cost of column j is made; the sum over its numbers is subtracted from it; and this is the price of the column
  abbrev pub reduced_cost : Vector → ℕ → List Step
  reduced_cost y j =
      combined_steps (λ i. entry p.matrix i j)
      ++ (sum_steps zero_ℚ (column_products y j)
      ++ operation Sub (cost p j) (sum_of zero_ℚ (column_products y j))
      ∷ comparison 3 (p.rows + j) (eq_ℚ (cost p j -ℚ sum_of zero_ℚ (column_products y j)) (y (p.rows + j))) ∷ [])

  abbrev pub reduced_costs : Vector → List Step
  reduced_costs y = flat_map (reduced_cost y) (numbers_from 1 p.cols)

  -- for MIN a positive price stands only at the lower limit and a negative one only at the upper one; for MAX the other way round
  abbrev pub standing_price : Vector → Vector → ℕ → List Step
  standing_price z y k = comparison 4 k (by_sign (compare_ℚ (for_min p.sense (y k)) zero_ℚ) (is_at (upper_of p k) (z k)) (is_at (lower_of p k) (z k))) ∷ []

  abbrev pub standing_prices : Vector → Vector → List Step
  standing_prices z y = flat_map (standing_price z y) (variables p.matrix)

  -- the multiplier of column j, and the multipliers of the rows times its numbers, add up to 0
  abbrev pub ray_column : Vector → ℕ → List Step
  ray_column w j =
      sum_steps (w (p.rows + j)) (column_products w j) ++ comparison 1 (p.rows + j) (eq_ℚ (sum_of (w (p.rows + j)) (column_products w j)) zero_ℚ) ∷ []

  abbrev pub ray_columns : Vector → List Step
  ray_columns w = flat_map (ray_column w) (numbers_from 1 p.cols)

  -- the variables with a multiplier other than 0, in order
  abbrev pub multiplied : Vector → List ℕ
  multiplied w = multiplied_among w (variables p.matrix)

  -- the multiplier of variable k and the limit that it meets
  abbrev pub limit_product : Vector → ℕ → Product
  limit_product w k = record { left = w k; right = unwrap_or (limit_against p w k) zero_ℚ }

  -- each of these multipliers meets a limit, and its product with this limit is added to the sum
  abbrev pub ray_limits : Vector → ℚ → List ℕ → List Step
  ray_limits w sum [] = []
  ray_limits w sum (k ∷ ks) =
      comparison 2 k (is_some (limit_against p w k)) ∷ sum_steps sum (limit_product w k ∷ []) ++ ray_limits w (sum +ℚ product_of (limit_product w k)) ks

  -- the sum of these products is negative
  abbrev pub ray_sum : Vector → List Step
  ray_sum w = comparison 3 0 (lt_ℚ (sum_of zero_ℚ (map (limit_product w) (multiplied w))) zero_ℚ) ∷ []

  -- variable k falls only if it has no lower limit, and rises only if it has no upper one
  abbrev pub free_to_move : Vector → ℕ → List Step
  free_to_move d k = comparison 4 k (by_sign (compare_ℚ (d k) zero_ℚ) (is_none (lower_of p k)) (is_none (upper_of p k))) ∷ []

  abbrev pub free_direction : Vector → List Step
  free_direction d = flat_map (free_to_move d) (variables p.matrix)

  -- the objective of the direction is negative for MIN, and positive for MAX
  abbrev pub improving : Vector → List Step
  improving d = combined_steps d ++ comparison 5 0 (lt_ℚ (for_min p.sense (objective_value p d)) zero_ℚ) ∷ []

  -- ---- the steps of the checks, and their verdicts

  abbrev pub optimal_steps : Vector → Vector → List Step
  optimal_steps z y = feasible_point z ++ (reduced_costs y ++ standing_prices z y)

  abbrev pub crossed_steps : ℕ → List Step
  crossed_steps k = comparison 1 k (is_crossed (lower_of p k) (upper_of p k)) ∷ []

  abbrev pub infeasible_steps : Vector → List Step
  infeasible_steps w = ray_columns w ++ (ray_limits w zero_ℚ (multiplied w) ++ ray_sum w)

  abbrev pub unbounded_steps : Vector → Vector → List Step
  unbounded_steps z d = feasible_point z ++ (equations 3 d ++ (free_direction d ++ improving d))

  abbrev pub optimal_check : Vector → Vector → Verdict
  optimal_check z y = verdict_of (optimal_steps z y)

  abbrev pub crossed_check : ℕ → Verdict
  crossed_check k = verdict_of (crossed_steps k)

  abbrev pub infeasible_check : Vector → Verdict
  infeasible_check w = verdict_of (infeasible_steps w)

  abbrev pub unbounded_check : Vector → Vector → Verdict
  unbounded_check z d = verdict_of (unbounded_steps z d)
