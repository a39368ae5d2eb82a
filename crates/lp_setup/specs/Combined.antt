-- What is made of a column on combinations, step by step.
--     IsTotal products total                       the sum of these products so far, and their number
--     IsTotalWith total product next               the same with a part's product more, if it has one
--     IsRefusedWith total product refused          that product is refused, or the sum with it
--     IsRefusedPart products refused               one of these products is refused, or the sum of those before with it
--     IsRowValue values parts place value          what a column has on the row at a place
--     IsRowValueMade, IsRowValueOverflow           the sum that this takes is made, or evidence shows that it is refused
--     AreSumsMade rows entries count               no product and no sum on the first so many rows is refused
--     IsColumnOverflow rows entries number stop    one is, as evidence shows that names the column by this number
--     IsMatrixOverflow rows columns stop           one is, in one of these columns
--     IsProgramOverflow problem sides ranges stop  the range sum of a row is refused, or one of these is
use Rattle.std.specs.Prelude.{◌≡◌, ◌⊎◌, ℕ, ◌+◌, ◌<◌, List, Option, Some, None, length, take, slice_get, unwrap_or, false, All}
use Rattle.std.specs.List.{enumerate_from}
use Rattle.std.specs.Option.{IfSome}
use Rattle.exact_values.specs.Rational.{ℚ, zero_ℚ, ◌+ℚ◌}
use Rattle.frac128.specs.declared.Op.TheVariants.{Add, Mul}
use Rattle.frac128.specs.Operations.{refuses}
use Rattle.lp_definitions.specs.declared.Evidence.{Evidence}
use Rattle.lp_definitions.specs.RatesEvidence.{Names, Refuses}
use Rattle.check_definitions.specs.declared.Verdict.TheVariants.{Checked}
use Rattle.check_definitions.specs.Steps.{verdict_of, Product, product_of, sum_steps, sum_of}
use Rattle.lp_model.specs.declared.Stop.{Stop}
use Rattle.lp_model.specs.declared.Stop.TheVariants.{Overflow, NoMemory}
use Rattle.problem_definitions.specs.Problem.{Row, Entry, Group, Problem}
use Rattle.problem_definitions.specs.Valid.{AreEntries}
use Rattle.selection_definitions.specs.Combinations.{part_products, sum_if_any, column_values}
use Rattle.selection_definitions.specs.CombinationSums.{combination_formula}
use Rattle.selection_definitions.specs.Making.{combination_steps}
use Rattle.lp_setup.specs.declared.combined.Total.{Total}
use Rattle.lp_setup.specs.declared.combined.RefusedPart.{RefusedPart}
use Rattle.lp_setup.specs.Parts.{IsSumRefusal, IsRowRefusal}

-- the sum of products, if there is one, and their number; no operation that it took is refused
pub record IsTotal (products : List Product) (total : Total) : Type 0 where
  pub is_sum : total.sum ≡ sum_if_any products
  pub is_count : total.terms ≡ length products
  pub is_made : verdict_of (sum_steps zero_ℚ products) ≡ Checked

-- a product is added, and neither it nor the sum is refused
pub record IsAdded (total : Total) (product : Product) (next : Total) : Type 0 where
  pub is_sum : next.sum ≡ Some (unwrap_or total.sum zero_ℚ +ℚ product_of product)
  pub is_count : next.terms ≡ total.terms + 1
  pub product_made : refuses Mul product.left product.right ≡ false
  pub sum_made : refuses Add (unwrap_or total.sum zero_ℚ) (product_of product) ≡ false

-- a part without a product adds nothing
abbrev pub IsTotalWith : Total → Option Product → Total → Type 0
IsTotalWith total None next = next ≡ total
IsTotalWith total (Some product) next = IsAdded total product next

-- a product is refused, or the sum with it
pub record IsRefusedAt (total : Total) (product : Product) (refused : RefusedPart) : Type 0 where
  pub is_term : refused.term ≡ total.terms
  pub refuses : IsSumRefusal Mul product.left product.right refused.refused ⊎ IsSumRefusal Add (unwrap_or total.sum zero_ℚ) (product_of product) refused.refused

abbrev pub IsRefusedWith : Total → Option Product → RefusedPart → Type 0
IsRefusedWith total None refused = ⊥
IsRefusedWith total (Some product) refused = IsRefusedAt total product refused

-- one of a list of products is refused, or the sum of those before with it
pub record IsRefusedPart (products : List Product) (refused : RefusedPart) : Type 0 where
  pub product : Product
  pub is_product : slice_get products refused.term ≡ Some product
  pub refuses : IsSumRefusal Mul product.left product.right refused.refused ⊎ IsSumRefusal Add (sum_of zero_ℚ (take refused.term products))
      (product_of product) refused.refused

-- What a column has on the row at a place, from its values by row: on a plain row the value there, and on a combination the sum of its
-- parts, which stand on rows before it.
abbrev pub IsRowValue : List (Option ℚ) → Option (List (Entry ℕ)) → ℕ → Option ℚ → Type 0
IsRowValue values None place value = slice_get values place ≡ Some value
IsRowValue values (Some parts) place value = value ≡ sum_if_any (part_products parts (take place values))

-- what a row makes of these values is made, or isn't a combination's
abbrev pub IsRowValueMade : List (Option ℚ) → Option (List (Entry ℕ)) → ℕ → Type 0
IsRowValueMade values None place = Unit {0}
IsRowValueMade values (Some parts) place = verdict_of (sum_steps zero_ℚ (part_products parts (take place values))) ≡ Checked

-- the evidence names the row at a place, a variable and a term of a list of products, of which the product is refused, or the sum with it
pub record IsTermRefusal (products : List Product) (place number : ℕ) (e : Evidence) : Type 0 where
  pub term : ℕ
  pub product : Product
  pub is_product : slice_get products term ≡ Some product
  pub names : Names e combination_formula 0 0 (place + 1) number term
  pub refuses : Refuses e Mul product.left product.right ⊎ Refuses e Add (sum_of zero_ℚ (take term products)) (product_of product)
  pub no_way : e.way ≡ 0
  pub no_theta : e.theta ≡ zero_ℚ

abbrev pub IsTermOverflow : List Product → ℕ → ℕ → Stop → Type 0
IsTermOverflow products place number (Overflow e) = IsTermRefusal products place number e
IsTermOverflow products place number NoMemory = Unit {0}

-- a row is a combination, and what it makes of these values is refused
abbrev pub IsRowValueOverflow : List (Option ℚ) → Option (List (Entry ℕ)) → ℕ → ℕ → Stop → Type 0
IsRowValueOverflow values None place number stop = ⊥
IsRowValueOverflow values (Some parts) place number stop = IsTermOverflow (part_products parts (take place values)) place number stop

-- what the row at a place makes in a column of these entries is made
abbrev pub IsSumMade : List (Row ℕ) → List (Entry ℕ) → ℕ → Type 0
IsSumMade rows entries place = (row : Row ℕ) → slice_get rows place ≡ Some row → verdict_of (combination_steps (take place rows) entries row.parts) ≡ Checked

abbrev pub AreSumsMade : List (Row ℕ) → List (Entry ℕ) → ℕ → Type 0
AreSumsMade rows entries count = (place : ℕ) → place < count → IsSumMade rows entries place

-- in a column of these entries a product or a sum of a combination is refused
pub record IsColumnRefusal (rows : List (Row ℕ)) (entries : List (Entry ℕ)) (number : ℕ) (e : Evidence) : Type 0 where
  pub place : ℕ
  pub row : Row ℕ
  pub is_row : slice_get rows place ≡ Some row
  pub parts : List (Entry ℕ)
  pub is_combination : row.parts ≡ Some parts
  pub refused : IsTermRefusal (part_products parts (column_values (take place rows) entries)) place number e

abbrev pub IsColumnOverflow : List (Row ℕ) → List (Entry ℕ) → ℕ → Stop → Type 0
IsColumnOverflow rows entries number (Overflow e) = IsColumnRefusal rows entries number e
IsColumnOverflow rows entries number NoMemory = Unit {0}

-- what the first so many columns make is made
abbrev pub AreColumnsMade : List (Row ℕ) → List (Group (Entry ℕ)) → ℕ → Type 0
AreColumnsMade rows columns count =
    (place : ℕ) → place < count → (column : Group (Entry ℕ)) → slice_get columns place ≡ Some column → AreSumsMade rows column.items (length rows)

-- in one of the columns, which are the variables after the rows, a product or a sum is refused
pub record IsMatrixRefusal (rows : List (Row ℕ)) (columns : List (Group (Entry ℕ))) (e : Evidence) : Type 0 where
  pub place : ℕ
  pub column : Group (Entry ℕ)
  pub is_column : slice_get columns place ≡ Some column
  pub refused : IsColumnRefusal rows column.items (length rows + (place + 1)) e

abbrev pub IsMatrixOverflow : List (Row ℕ) → List (Group (Entry ℕ)) → Stop → Type 0
IsMatrixOverflow rows columns (Overflow e) = IsMatrixRefusal rows columns e
IsMatrixOverflow rows columns NoMemory = Unit {0}

-- the parts of each combination stand on rows before it
abbrev pub AreParts : List (Row ℕ) → Type 0
AreParts rows = All (λ (row : ℕ × Row ℕ). IfSome row.1.parts (AreEntries row.0)) (enumerate_from 0 rows)

-- what is refused of the rows' ranges or of the combinations
abbrev pub IsProgramOverflow : Problem ℕ → List ℚ → List (Option ℚ) → Stop → Type 0
IsProgramOverflow problem sides ranges (Overflow e) = IsRowRefusal problem.rows sides ranges e ⊎ IsMatrixRefusal problem.rows problem.columns e
IsProgramOverflow problem sides ranges NoMemory = Unit {0}
