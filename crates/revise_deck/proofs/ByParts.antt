-- A problem by names, by its parts.
use Rattle.std.proofs.Common.{◌≡◌, ℕ, List, map, ap₂, ◌∙◌}
use Rattle.problem_definitions.specs.Names.{Name, name_at}
use Rattle.problem_definitions.specs.Problem.{Row, Entry, Bound, Group, Problem, group_names}
use Rattle.problem_definitions.specs.Numbering.{entry_by, row_by, bound_by, group_by, by_names}

abbrev rows_by : List (Row ℕ) → List (Row ℕ) → List (Row Name)
rows_by rows list = map (row_by (name_at (map (λ row. row.name) rows))) list

abbrev entries_by : List (Row ℕ) → List (Group (Entry ℕ)) → List (Group (Entry Name))
entries_by rows groups = map (group_by (entry_by (name_at (map (λ row. row.name) rows)))) groups

abbrev bounds_by : List (Group (Entry ℕ)) → List (Group (Bound ℕ)) → List (Group (Bound Name))
bounds_by columns sets = map (group_by (bound_by (name_at (group_names columns)))) sets

module _ (old : Problem ℕ) (rows : List (Row ℕ)) (columns rhs ranges : List (Group (Entry ℕ))) (bounds : List (Group (Bound ℕ))) (name : Name)
    (n : name ≡ old.name) (r : rows ≡ old.rows) (c : columns ≡ old.columns) (h : rhs ≡ old.rhs) (g : ranges ≡ old.ranges) (b : bounds ≡ old.bounds) where
  pub named_by_parts : (named_rows : List (Row Name)) (named_columns named_rhs named_ranges : List (Group (Entry Name)))
      (named_bounds : List (Group (Bound Name)))
      → named_rows ≡ rows_by rows rows → named_columns ≡ entries_by rows columns → named_rhs ≡ entries_by rows rhs → named_ranges ≡ entries_by rows ranges
      → named_bounds ≡ bounds_by columns bounds
      → record { name = name; rows = named_rows; columns = named_columns; rhs = named_rhs; ranges = named_ranges; bounds = named_bounds } ≡ by_names old
  unfolding by_names
  named_by_parts named_rows named_columns named_rhs named_ranges named_bounds rs cs hs gs bs = λ i. record {
    name = n i;
    rows = (rs ∙ ap₂ rows_by r r) i;
    columns = (cs ∙ ap₂ entries_by r c) i;
    rhs = (hs ∙ ap₂ entries_by r h) i;
    ranges = (gs ∙ ap₂ entries_by r g) i;
    bounds = (bs ∙ ap₂ bounds_by c b) i;
  }
