-- Names in place of numbers and numbers in place of names: the problem again.
use Rattle.std.proofs.Common.{◌≡◌, ℕ, ◌+◌, ◌≤◌, List, [], ◌∷◌, Option, Some, None, length, map, ap, sym, ◌∙◌, subst, arith}
use Rattle.std.specs.List.{AllByRecursion, IsDistinct, enumerate_from}
use Rattle.std.specs.Option.{IfSome}
use Rattle.std.proofs.lemmas.List.{length-map}
use Rattle.problem_definitions.specs.Names.{Name, same, number_in, name_at}
use Rattle.problem_definitions.specs.Problem.{Row, Entry, Bound, Group, Problem, row_names, group_names}
use Rattle.problem_definitions.specs.Numbering.{entry_by, bound_by, group_by, problem_by, numbered, by_names}
use Rattle.problem_definitions.specs.Valid.{IsNumberOf, AreEntries, AreBounds, IsProblem}
use Rattle.problem_definitions.proofs.Each.{each-change, all-each}
use Rattle.problem_definitions.proofs.RowsBy.{AreAgain, row_names-by, rows-again}
use Rattle.problem_definitions.proofs.Lawful.{names-by}
use Rattle.problem_definitions.proofs.Again.{groups-again}
use Rattle.revise_laws.proofs.Places.{number_in-name_at}

module _ (names : List Name) (distinct : IsDistinct same names) (count : ℕ) (counted : count ≡ length names) where
  again : (number : ℕ) → IsNumberOf count number → number_in names (name_at names number) ≡ number
  again number is = number_in-name_at names distinct number (subst (λ n. IsNumberOf n number) counted is)

  entries-again : (groups : List (Group (Entry ℕ))) → AllByRecursion (λ (group : Group (Entry ℕ)). AreEntries count group.items) groups
      → map (group_by (entry_by (number_in names))) (map (group_by (entry_by (name_at names))) groups) ≡ groups
  entries-again groups each = groups-again (entry_by (name_at names)) (entry_by (number_in names)) groups
      (each-change (λ (group : Group (Entry ℕ)). AreEntries count group.items)
      (λ group. AllByRecursion (λ entry. entry_by (number_in names) (entry_by (name_at names) entry) ≡ entry) group.items)
      (λ group are. each-change (λ (entry : Entry ℕ). IsNumberOf count entry.row) (λ entry. entry_by (number_in names) (entry_by (name_at names) entry) ≡ entry)
      (λ entry is. ap (λ row. record { row = row; value = entry.value }) (again entry.row is)) group.items
      (all-each (λ (entry : Entry ℕ). IsNumberOf count entry.row) group.items are.on_rows)) groups each)

  bounds-again : (groups : List (Group (Bound ℕ))) → AllByRecursion (λ (group : Group (Bound ℕ)). AreBounds count group.items) groups
      → map (group_by (bound_by (number_in names))) (map (group_by (bound_by (name_at names))) groups) ≡ groups
  bounds-again groups each = groups-again (bound_by (name_at names)) (bound_by (number_in names)) groups
      (each-change (λ (group : Group (Bound ℕ)). AreBounds count group.items)
      (λ group. AllByRecursion (λ bound. bound_by (number_in names) (bound_by (name_at names) bound) ≡ bound) group.items)
      (λ group are. each-change (λ (bound : Bound ℕ). IsNumberOf count bound.column)
      (λ bound. bound_by (number_in names) (bound_by (name_at names) bound) ≡ bound)
      (λ bound is. ap (λ column. record { kind = bound.kind; column = column; value = bound.value }) (again bound.column is)) group.items
      (all-each (λ (bound : Bound ℕ). IsNumberOf count bound.column) group.items are.on_columns)) groups each)

  -- the parts of rows after so many stand on rows before them, so they come back
  rows-parts-again : (first : ℕ) (rows : List (Row ℕ)) → first + length rows ≤ count
      → AllByRecursion (λ (row : ℕ × Row ℕ). IfSome row.1.parts (AreEntries row.0)) (enumerate_from first rows)
      → AllByRecursion (λ (row : Row ℕ). IfSome row.parts (AreAgain (name_at names) (number_in names))) rows
  rows-parts-again first [] few are = tt
  rows-parts-again first (row ∷ rows) few are = (own row.parts are.0, rows-parts-again (first + 1) rows (omega (arith, few)) are.1)
    where
      wider : (number : ℕ) → IsNumberOf first number → IsNumberOf count number
      wider number is = record { positive = is.positive; at_most = omega (arith, is.at_most, few) }

      own : (parts : Option (List (Entry ℕ))) → IfSome parts (AreEntries first) → IfSome parts (AreAgain (name_at names) (number_in names))
      own None are = tt
      own (Some parts) are =
          each-change (λ (entry : Entry ℕ). IsNumberOf first entry.row) (λ entry. entry_by (number_in names) (entry_by (name_at names) entry) ≡ entry)
          (λ entry is. ap (λ row. record { row = row; value = entry.value }) (again entry.row (wider entry.row is))) parts
          (all-each (λ (entry : Entry ℕ). IsNumberOf first entry.row) parts are.on_rows)

-- A problem by numbers comes back from its names.
pub numbered-by_names : (p : Problem ℕ) → IsProblem p → numbered (by_names p) ≡ p
unfolding by_names numbered
numbered-by_names p is =
    ap (λ names. problem_by (number_in names) (number_in (group_names (map (group_by (entry_by (name_at (row_names p)))) p.columns))) (by_names p))
    (row_names-by (name_at (row_names p)) p.rows)
    ∙ (λ i. record {
      name = p.name;
      rows = rows-again (name_at (row_names p)) (number_in (row_names p)) p.rows
          (rows-parts-again (row_names p) is.rows.distinct (length p.rows) (sym (length-map p.rows (λ row. row.name))) 0 p.rows (omega arith)
          (all-each (λ (row : ℕ × Row ℕ). IfSome row.1.parts (AreEntries row.0)) (enumerate_from 0 p.rows) is.parts)) i;
      columns = by_row p.columns (all-each (λ (column : Group (Entry ℕ)). AreEntries (length p.rows) column.items) p.columns is.entries) i;
      rhs = by_row p.rhs (all-each (λ (set : Group (Entry ℕ)). AreEntries (length p.rows) set.items) p.rhs is.rhs_items) i;
      ranges = by_row p.ranges (all-each (λ (set : Group (Entry ℕ)). AreEntries (length p.rows) set.items) p.ranges is.range_items) i;
      bounds = by_column i;
    })
  where
    by_row : (groups : List (Group (Entry ℕ))) → AllByRecursion (λ (group : Group (Entry ℕ)). AreEntries (length p.rows) group.items) groups
        → map (group_by (entry_by (number_in (row_names p)))) (map (group_by (entry_by (name_at (row_names p)))) groups) ≡ groups
    by_row groups each = entries-again (row_names p) is.rows.distinct (length p.rows) (sym (length-map p.rows (λ row. row.name))) groups each

    by_column : map (group_by (bound_by (number_in (group_names (map (group_by (entry_by (name_at (row_names p)))) p.columns)))))
        (map (group_by (bound_by (name_at (group_names p.columns)))) p.bounds) ≡ p.bounds
    by_column =
        ap (λ names. map (group_by (bound_by (number_in names))) (map (group_by (bound_by (name_at (group_names p.columns)))) p.bounds))
        (names-by (entry_by (name_at (row_names p))) p.columns)
        ∙ bounds-again (group_names p.columns) is.columns.distinct (length p.columns) (sym (length-map p.columns (λ column. column.name))) p.bounds
        (all-each (λ (set : Group (Bound ℕ)). AreBounds (length p.columns) set.items) p.bounds is.bound_items)
