-- Worked selections, computed. Values are compared by their terms.
use Rattle.std.specs.Prelude.{◌≡◌, refl, ℕ, List, [], ◌∷◌, codes, Option, Some, None, option_map, pos, negsuc, ℤ}
use Prim.Native.String.{String}
use Rattle.exact_values.specs.Gcd.{gcd}
use Rattle.exact_values.specs.Rational.{ℚ, fraction, whole, neg_ℚ, ◌+ℚ◌, compare_ℚ}
use Rattle.lp_definitions.specs.declared.Sense.TheVariants.{Min}
use Rattle.problem_definitions.specs.declared.RowKind.{RowKind}
use Rattle.problem_definitions.specs.declared.RowKind.TheVariants.{N, G, L, E}
use Rattle.problem_definitions.specs.declared.BoundKind.{BoundKind}
use Rattle.problem_definitions.specs.declared.BoundKind.TheVariants.{Up, Lo, Fx, Fr, Mi, Pl}
use Rattle.problem_definitions.specs.Problem.{Row, plain_row, Entry, Bound, Group, Problem}
use Rattle.selection_definitions.specs.declared.SelectionFault.TheVariants.{NoObjective, ObjectiveNotFree, NoRhsSet, NoRangeSet, NoBoundSet}
use Rattle.selection_definitions.specs.Choice.{Choice, objective_of, selection_fault}
use Rattle.selection_definitions.specs.Limits.{Limits, row_limits, column_limits}
use Rattle.selection_definitions.specs.Selection.{rhs_of, range_of}

terms : Option ℚ → Option (ℤ × ℕ)
terms None = None
terms (Some value) = Some (value.numerator, value.denominator)

-- the terms of both limits
limits : Limits → Option (ℤ × ℕ) × Option (ℤ × ℕ)
limits pair = (terms pair.lower, terms pair.upper)

int : ℤ → Option (ℤ × ℕ)
int n = Some (n, 1)

-- ---- rows: the limits of each type with the right-hand side 5 and the ranges 3, -3 and 0

five : ℚ
five = whole (pos 5)

ranged : RowKind → ℤ → Option (ℤ × ℕ) × Option (ℤ × ℕ)
ranged kind range = limits (row_limits kind five (Some (whole range)))

without_ranges : (limits (row_limits N five None) ≡ (None, None)) × (limits (row_limits G five None) ≡ (int (pos 5), None))
    × (limits (row_limits L five None) ≡ (None, int (pos 5))) × (limits (row_limits E five None) ≡ (int (pos 5), int (pos 5)))
unfolding limits terms int five whole
without_ranges = (refl, refl, refl, refl)

at_least : (ranged G (pos 3) ≡ (int (pos 5), int (pos 8))) × (ranged G (negsuc 2) ≡ (int (pos 5), int (pos 8))) ×
    (ranged G (pos 0) ≡ (int (pos 5), int (pos 5)))
unfolding ranged limits terms int five whole fraction gcd neg_ℚ ◌+ℚ◌ compare_ℚ
at_least = (refl, refl, refl)

at_most : (ranged L (pos 3) ≡ (int (pos 2), int (pos 5))) × (ranged L (negsuc 2) ≡ (int (pos 2), int (pos 5))) × (ranged L (pos 0) ≡ (int (pos 5), int (pos 5)))
unfolding ranged limits terms int five whole fraction gcd neg_ℚ ◌+ℚ◌ compare_ℚ
at_most = (refl, refl, refl)

equal : (ranged E (pos 3) ≡ (int (pos 5), int (pos 8))) × (ranged E (negsuc 2) ≡ (int (pos 2), int (pos 5))) × (ranged E (pos 0) ≡ (int (pos 5), int (pos 5)))
unfolding ranged limits terms int five whole fraction gcd neg_ℚ ◌+ℚ◌ compare_ℚ
equal = (refl, refl, refl)

-- ---- columns

bound : ℕ → BoundKind → ℤ → Bound ℕ
bound column kind value = record { kind = kind; column = column; value = Some (record { text = []; value = whole value }) }

valueless : ℕ → BoundKind → Bound ℕ
valueless column kind = record { kind = kind; column = column; value = None }

-- a negative upper limit leaves the lower one at 0; bounds of other columns don't count
negative_upper : limits (column_limits (bound 1 Lo (pos 7) ∷ bound 2 Up (negsuc 0) ∷ []) 2) ≡ (int (pos 0), int (negsuc 0))
unfolding limits terms int bound whole
negative_upper = refl

both_ends : (limits (column_limits (bound 1 Lo (negsuc 0) ∷ bound 1 Up (pos 1) ∷ []) 1) ≡ (int (negsuc 0), int (pos 1))) ×
    (limits (column_limits (bound 1 Fx (pos 4) ∷ []) 1) ≡ (int (pos 4), int (pos 4)))
unfolding limits terms int bound whole
both_ends = (refl, refl)

removed_ends : (limits (column_limits (valueless 1 Fr ∷ []) 1) ≡ (None, None)) ×
    (limits (column_limits (bound 1 Up (pos 2) ∷ valueless 1 Mi ∷ []) 1) ≡ (None, int (pos 2)))
    × (limits (column_limits (valueless 1 Pl ∷ []) 1) ≡ (int (pos 0), None)) × (limits (column_limits [] 1) ≡ (int (pos 0), None))
unfolding limits terms int bound valueless whole
removed_ends = (refl, refl, refl, refl)

-- ---- choices

row : RowKind → String → Row ℕ
row kind name = plain_row kind (codes name)

item : ℕ → ℤ → Entry ℕ
item row value = record { row = row; value = record { text = []; value = whole value } }

set : {X : Type 0} → String → List X → Group X
set name items = record { name = codes name; items = items }

-- two N rows after a row of another type, two right-hand side sets, and one set of ranges and of bounds
problem : Problem ℕ
problem = record {
  name = codes "T";
  rows = row G "LOW" ∷ row N "COST" ∷ row N "CHG" ∷ [];
  columns = set "X" (item 1 (pos 1) ∷ item 2 (pos 1) ∷ []) ∷ [];
  rhs = set "B" (item 1 (pos 3) ∷ []) ∷ set "C" (item 2 (pos 4) ∷ []) ∷ [];
  ranges = set "R" (item 1 (pos 2) ∷ []) ∷ [];
  bounds = set "BND" (bound 1 Up (pos 9) ∷ []) ∷ [];
}

choice : Option String → Option String → Option String → Option String → Choice
choice objective rhs range bound = record {
  objective = option_map codes objective;
  rhs = option_map codes rhs;
  options = record { bound = option_map codes bound; range = option_map codes range; sense = Min };
}

objectives : (objective_of problem.rows None ≡ Some 2) × (objective_of problem.rows (Some (codes "CHG")) ≡ Some 3) ×
    (objective_of problem.rows (Some (codes "Z")) ≡ None)
unfolding problem row
objectives = (refl, refl, refl)

no_fault : (selection_fault problem (choice None None None None) ≡ None) ×
    (selection_fault problem (choice (Some "CHG") (Some "C") (Some "R") (Some "BND")) ≡ None)
unfolding problem choice selection_fault row set item bound whole
no_fault = (refl, refl)

-- each fault, where those after it hold too
faults : (selection_fault problem (choice (Some "Z") (Some "Z") (Some "Z") (Some "Z")) ≡ Some NoObjective)
    × (selection_fault problem (choice (Some "LOW") (Some "Z") (Some "Z") (Some "Z")) ≡ Some ObjectiveNotFree)
    × (selection_fault problem (choice None (Some "Z") (Some "Z") (Some "Z")) ≡ Some NoRhsSet)
    × (selection_fault problem (choice None None (Some "Z") (Some "Z")) ≡ Some NoRangeSet)
    × (selection_fault problem (choice None None None (Some "Z")) ≡ Some NoBoundSet)
    × (selection_fault (record problem { rows = row G "LOW" ∷ [] }) (choice None None None None) ≡ Some NoObjective)
unfolding problem choice selection_fault row set item bound whole
faults = (refl, refl, refl, refl, refl, refl)

-- the first right-hand side set applies where none is chosen, and a row without an item has 0; no range applies unless it is chosen
right_hand_sides : (terms (Some (rhs_of problem (choice None None None None) 1)) ≡ int (pos 3)) ×
    (terms (Some (rhs_of problem (choice None (Some "C") None None) 1)) ≡ int (pos 0))
    × (terms (Some (rhs_of problem (choice None (Some "C") None None) 2)) ≡ int (pos 4)) ×
    (terms (Some (rhs_of (record problem { rhs = [] }) (choice None None None None) 1)) ≡ int (pos 0))
unfolding problem choice terms int row set item bound whole
right_hand_sides = (refl, refl, refl, refl)

chosen_ranges : (terms (range_of problem (choice None None None None) 1) ≡ None) ×
    (terms (range_of problem (choice None None (Some "R") None) 1) ≡ int (pos 2)) × (terms (range_of problem (choice None None (Some "R") None) 2) ≡ None)
unfolding problem choice terms int row set item bound whole
chosen_ranges = (refl, refl, refl)
