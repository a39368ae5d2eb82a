-- Where no row is a combination, the numbers of a column are those that the deck gives.
use Rattle.std.proofs.Common.{◌≡◌, ℕ, ◌+◌, Bool, true, false, ◌||◌, List, [], ◌∷◌, ◌++◌, Option, Some, None, map, refl, ap, ◌∙◌}
use Rattle.std.specs.List.{enumerate_from, filter_map, list_any}
use Rattle.std.specs.Option.{is_some}
use Rattle.std.proofs.lemmas.List.{append-nil}
use Rattle.exact_values.specs.Rational.{ℚ}
use Rattle.problem_definitions.specs.Problem.{Row, Entry, Group}
use Rattle.selection_definitions.specs.Combinations.{value_in, on_combination, column_values}
use Rattle.selection_definitions.specs.Selection.{entered, coefficients}

-- whether one of the rows is a combination
abbrev pub combines : List (Row ℕ) → Bool
combines rows = list_any (λ row. is_some row.parts) rows

none_on : (number : ℕ) (value : Option ℚ) (parts : Option (List (Entry ℕ))) → is_some parts ≡ false → on_combination number value parts ≡ None
none_on number value None plain = refl
none_on number value (Some parts) plain = absurd (cc plain)

-- no row of a list is a combination, whatever the values are
none_from : (values : List (Option ℚ)) (first : ℕ) (rows : List (Row ℕ)) → combines rows ≡ false
    → filter_map (λ (row : ℕ × Row ℕ). on_combination row.0 (value_in values row.0) row.1.parts) (enumerate_from first rows) ≡ []
none_from values first [] plain = refl
none_from values first (row ∷ rows) plain =
    rw (none_on first (value_in values first) row.parts (left (is_some row.parts) (combines rows) plain))
    (none_from values (first + 1) rows (right (is_some row.parts) (combines rows) plain))
  where
    left : (a b : Bool) → (a || b) ≡ false → a ≡ false
    left true b none = none
    left false b none = refl

    right : (a b : Bool) → (a || b) ≡ false → b ≡ false
    right true true none = none
    right true false none = refl
    right false b none = none

pub plain_coefficients : (rows : List (Row ℕ)) (column : Group (Entry ℕ)) → combines rows ≡ false → coefficients rows column ≡ entered column.items
plain_coefficients rows column plain =
    ap (λ more. entered column.items ++ more) (none_from (column_values rows column.items) 1 rows plain) ∙ append-nil (entered column.items)

pub plain_columns : (rows : List (Row ℕ)) (columns : List (Group (Entry ℕ))) → combines rows ≡ false →
    map (coefficients rows) columns ≡ map (λ (column : Group (Entry ℕ)). entered column.items) columns
plain_columns rows [] plain = refl
plain_columns rows (column ∷ columns) plain = λ i. plain_coefficients rows column plain i ∷ plain_columns rows columns plain i
