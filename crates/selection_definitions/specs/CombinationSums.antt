-- The products and sums that a selection makes of a combination in a column.
use Rattle.std.specs.Prelude.{◌≡◌, ◌⊎◌, ℕ, ◌+◌, List, Some, length, take, slice_get}
use Rattle.exact_values.specs.Rational.{zero_ℚ}
use Rattle.frac128.specs.declared.Op.TheVariants.{Add, Mul}
use Rattle.lp_definitions.specs.declared.Evidence.{Evidence}
use Rattle.lp_definitions.specs.RatesEvidence.{Names, Refuses}
use Rattle.check_definitions.specs.Steps.{Product, product_of, sum_of}
use Rattle.problem_definitions.specs.Problem.{Row, Entry, Group, Problem}
use Rattle.selection_definitions.specs.Combinations.{part_products, column_values}

-- the formula of these products and sums
abbrev pub combination_formula : ℕ
combination_formula = 19

-- The evidence names a combination, a column as a variable, and how many products stand before one of the combination's products in
-- the column. That product is refused, or the sum of those before with it. The evidence has no waypoint, and the parameter is 0.
pub record IsCombinationRefusal (problem : Problem ℕ) (e : Evidence) : Type 0 where
  pub place : ℕ
  pub row : Row ℕ
  pub is_row : slice_get problem.rows place ≡ Some row
  pub parts : List (Entry ℕ)
  pub is_combination : row.parts ≡ Some parts
  pub column_place : ℕ
  pub column : Group (Entry ℕ)
  pub is_column : slice_get problem.columns column_place ≡ Some column
  pub products : List Product
  pub are_products : products ≡ part_products parts (column_values (take place problem.rows) column.items)
  pub term : ℕ
  pub product : Product
  pub is_product : slice_get products term ≡ Some product
  pub names : Names e combination_formula 0 0 (place + 1) (length problem.rows + (column_place + 1)) term
  pub refuses : Refuses e Mul product.left product.right ⊎ Refuses e Add (sum_of zero_ℚ (take term products)) (product_of product)
  pub no_way : e.way ≡ 0
  pub no_theta : e.theta ≡ zero_ℚ
