-- Worked columns of combinations, computed. Values are compared by their terms.
use Rattle.std.specs.Prelude.{◌≡◌, refl, ℕ, List, [], ◌∷◌, map, Some, pos, negsuc, ℤ}
use Rattle.exact_values.specs.Gcd.{gcd}
use Rattle.exact_values.specs.Rational.{whole, fraction, ◌+ℚ◌, ◌*ℚ◌}
use Rattle.lp_definitions.specs.declared.Entry.{Entry as Coefficient}
use Rattle.problem_definitions.specs.declared.RowKind.TheVariants.{N, G, L}
use Rattle.problem_definitions.specs.Problem.{Row, plain_row, Entry}
use Rattle.selection_definitions.specs.Selection.{coefficients}

item : ℕ → ℤ → Entry ℕ
item row value = record { row = row; value = record { text = []; value = whole value } }

combination : List (Entry ℕ) → Row ℕ
combination parts = record { kind = L; name = []; parts = Some parts }

-- an objective and a limit; twice the one less three times the other; four times that combination, and the limit; and the limit less
-- itself, by way of a combination of it
rows : List (Row ℕ)
rows = plain_row N [] ∷ plain_row G [] ∷ combination (item 1 (pos 2) ∷ item 2 (negsuc 2) ∷ []) ∷ combination (item 3 (pos 4) ∷ item 2 (pos 1) ∷ [])
    ∷ combination (item 2 (pos 1) ∷ []) ∷ combination (item 2 (pos 1) ∷ item 5 (negsuc 0) ∷ []) ∷ []

-- each number of a column with its row, by its terms
numbers : List (Entry ℕ) → List (ℕ × ℤ × ℕ)
numbers entries =
    map (λ (number : Coefficient). (number.row, number.value.numerator, number.value.denominator)) (coefficients rows (record { name = []; items = entries }))

-- a column with 5 on the limit and 7 on the objective: -1 on the first combination, 1 on the second, 5 on the third, and 0 on the last
on_both : numbers (item 2 (pos 5) ∷ item 1 (pos 7) ∷ [])
    ≡ (2, pos 5, 1) ∷ (1, pos 7, 1) ∷ (3, negsuc 0, 1) ∷ (4, pos 1, 1) ∷ (5, pos 5, 1) ∷ (6, pos 0, 1) ∷ []
unfolding numbers rows item combination whole fraction gcd ◌+ℚ◌ ◌*ℚ◌
on_both = refl

-- a column on the objective alone has nothing on the combinations of the limit alone
on_objective : numbers (item 1 (pos 7) ∷ []) ≡ (1, pos 7, 1) ∷ (3, pos 14, 1) ∷ (4, pos 56, 1) ∷ []
unfolding numbers rows item combination whole fraction gcd ◌+ℚ◌ ◌*ℚ◌
on_objective = refl
