-- What is chosen of a problem, and why a choice is refused.
--     objective_of rows chosen         the number of the objective row, from 1
--     rhs_items, set_items             the items of the sets that apply
--     selection_fault problem choice   the first fault of a choice
use Rattle.std.specs.Prelude.{ℕ, ◌+◌, Bool, false, not, List, [], ◌∷◌, Option, Some, None, is_none, option_map, position}
use Rattle.card_definitions.specs.Words.{◌⟹◌, first_fault}
use Rattle.control_definitions.specs.Program.{SetupOptions}
use Rattle.problem_definitions.specs.Names.{Name, same}
use Rattle.problem_definitions.specs.Kinds.{is_free_kind}
use Rattle.problem_definitions.specs.Problem.{Row, Entry, Group, Problem, has_free_row, has_group}
use Rattle.problem_definitions.specs.Groups.{items_of}
use Rattle.selection_definitions.specs.declared.SelectionFault.{SelectionFault}
use Rattle.selection_definitions.specs.declared.SelectionFault.TheVariants.{NoObjective, ObjectiveNotFree, NoRhsSet, NoRangeSet, NoBoundSet}

-- the objective and the right-hand side set that are named, if they are, and the options of SETUP
pub record Choice : Type 0 where
  pub objective : Option Name
  pub rhs : Option Name
  pub options : SetupOptions

-- the number of the first row that passes, from 1
abbrev pub row_number : (Row ℕ → Bool) → List (Row ℕ) → Option ℕ
row_number p rows = option_map (λ place. place + 1) (position p rows)

-- The objective is the chosen row, or else the first N row.
abbrev pub objective_of : List (Row ℕ) → Option Name → Option ℕ
objective_of rows (Some name) = row_number (λ row. same name row.name) rows
objective_of rows None = row_number (λ row. is_free_kind row.kind) rows

-- The right-hand side set is the chosen one, or else the first; where there is none, it has no items.
abbrev pub rhs_items : List (Group (Entry ℕ)) → Option Name → List (Entry ℕ)
rhs_items sets (Some name) = items_of name sets
rhs_items [] None = []
rhs_items (set ∷ sets) None = set.items

-- No range set and no bound set applies unless it is chosen.
abbrev pub set_items : {X : Type 0} → List (Group X) → Option Name → List X
set_items sets (Some name) = items_of name sets
set_items sets None = []

-- whether a row is chosen that isn't an N row
abbrev pub is_not_free : List (Row ℕ) → Option Name → Bool
is_not_free rows (Some name) = not (has_free_row rows name)
is_not_free rows None = false

-- whether a set is chosen that isn't there
abbrev pub misses_set : {X : Type 0} → List (Group X) → Option Name → Bool
misses_set sets (Some name) = not (has_group sets name)
misses_set sets None = false

-- The first fault of a choice, in this order.
unfoldable pub selection_fault : Problem ℕ → Choice → Option SelectionFault
selection_fault problem choice = first_fault (
    (is_none (objective_of problem.rows choice.objective) ⟹ NoObjective) ∷
    (is_not_free problem.rows choice.objective ⟹ ObjectiveNotFree) ∷
    (misses_set problem.rhs choice.rhs ⟹ NoRhsSet) ∷
    (misses_set problem.ranges choice.options.range ⟹ NoRangeSet) ∷
    (misses_set problem.bounds choice.options.bound ⟹ NoBoundSet) ∷ [])
