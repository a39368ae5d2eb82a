-- Numbers in place of names and names in place of numbers: the problem again.
use Rattle.std.proofs.Common.{◌≡◌, true, List, [], ◌∷◌, Option, Some, None, map, refl, ap, ap₂, sym, ◌∙◌}
use Rattle.std.specs.List.{AllByRecursion}
use Rattle.std.specs.Option.{IfSome}
use Rattle.problem_definitions.specs.Names.{Name, number_in, name_at}
use Rattle.problem_definitions.specs.Problem.{Row, Entry, Bound, Group, Problem, row_names, group_names, has_row, has_group}
use Rattle.problem_definitions.specs.Numbering.{entry_by, bound_by, group_by, problem_by, numbered, by_names}
use Rattle.problem_definitions.proofs.Names.{row_is_named}
use Rattle.problem_definitions.proofs.Groups.{map-map, has_group-names}
use Rattle.problem_definitions.proofs.Each.{map-kept, each-change}
use Rattle.problem_definitions.proofs.Places.{name_at-number_in}
use Rattle.problem_definitions.proofs.LawfulEntries.{AreLawfulEntries}
use Rattle.problem_definitions.proofs.Parts.{parts-there}
use Rattle.problem_definitions.proofs.RowsBy.{rows-again, row_names-by, AreAgain}
use Rattle.problem_definitions.proofs.Lawful.{AreGroups, AreColumnEntries, AreRightHandSides, AreRanges, AreBoundSets, IsLawful, names-by}

-- groups whose items come back
pub groups-again : {X Y : Type 0} (to : X → Y) (back : Y → X) (groups : List (Group X))
    → AllByRecursion (λ group. AllByRecursion (λ item. back (to item) ≡ item) group.items) groups
    → map (group_by back) (map (group_by to) groups) ≡ groups
groups-again to back [] each = refl
groups-again to back (group ∷ groups) each =
    ap₂ (λ items rest. record { name = group.name; items = items } ∷ rest) (map-map back to group.items ∙ map-kept (λ item. back (to item)) group.items each.0)
    (groups-again to back groups each.1)

module _ (p : Problem Name) (lawful : IsLawful p) where
  entry-again : (entry : Entry Name) → has_row p.rows entry.row ≡ true → entry_by (name_at (row_names p)) (entry_by (number_in (row_names p)) entry) ≡ entry
  entry-again entry there =
      ap (λ row. record { row = row; value = entry.value }) (name_at-number_in (row_names p) entry.row (sym (row_is_named entry.row p.rows) ∙ there))

  bound-again : (bound : Bound Name) → has_group p.columns bound.column ≡ true →
      bound_by (name_at (group_names p.columns)) (bound_by (number_in (group_names p.columns)) bound) ≡ bound
  bound-again bound there =
      ap (λ column. record { kind = bound.kind; column = column; value = bound.value })
      (name_at-number_in (group_names p.columns) bound.column (sym (has_group-names p.columns bound.column) ∙ there))

  entries-again : (entries : List (Entry Name)) → AllByRecursion (λ (entry : Entry Name). has_row p.rows entry.row ≡ true) entries
      → AllByRecursion (λ entry. entry_by (name_at (row_names p)) (entry_by (number_in (row_names p)) entry) ≡ entry) entries
  entries-again entries there =
      each-change (λ (entry : Entry Name). has_row p.rows entry.row ≡ true)
      (λ entry. entry_by (name_at (row_names p)) (entry_by (number_in (row_names p)) entry) ≡ entry) entry-again entries there

  entry_groups-again : {N : Name → Type 0} (P : List (Entry Name) → Type 0)
      → ((entries : List (Entry Name)) → P entries → AllByRecursion (λ (entry : Entry Name). has_row p.rows entry.row ≡ true) entries)
      → (groups : List (Group (Entry Name))) → AreGroups N P groups
      → map (group_by (entry_by (name_at (row_names p)))) (map (group_by (entry_by (number_in (row_names p)))) groups) ≡ groups
  entry_groups-again P on_rows groups known = groups-again (entry_by (number_in (row_names p))) (entry_by (name_at (row_names p))) groups
      (each-change (λ (group : Group (Entry Name)). P group.items)
      (λ group. AllByRecursion (λ entry. entry_by (name_at (row_names p)) (entry_by (number_in (row_names p)) entry) ≡ entry) group.items)
      (λ group c. entries-again group.items (on_rows group.items c)) groups known.items)

  bound_groups-again : map (group_by (bound_by (name_at (group_names (map (group_by (entry_by (number_in (row_names p)))) p.columns)))))
      (map (group_by (bound_by (number_in (group_names p.columns)))) p.bounds) ≡ p.bounds
  bound_groups-again =
      ap (λ names. map (group_by (bound_by (name_at names))) (map (group_by (bound_by (number_in (group_names p.columns)))) p.bounds))
      (names-by (entry_by (number_in (row_names p))) p.columns)
      ∙ groups-again (bound_by (number_in (group_names p.columns))) (bound_by (name_at (group_names p.columns))) p.bounds
      (each-change (λ (group : Group (Bound Name)). AreBoundSets p.columns group.items)
      (λ group. AllByRecursion
      (λ bound. bound_by (name_at (group_names p.columns)) (bound_by (number_in (group_names p.columns)) bound) ≡ bound) group.items)
      (λ group c. each-change (λ (bound : Bound Name). has_group p.columns bound.column ≡ true)
      (λ bound. bound_by (name_at (group_names p.columns))
      (bound_by (number_in (group_names p.columns)) bound) ≡ bound) bound-again group.items c.bounds_lawful.on_columns) p.bounds lawful.bounds.items)

  parts-of_rows : AllByRecursion (λ (row : Row Name). IfSome row.parts (AreAgain (number_in (row_names p)) (name_at (row_names p)))) p.rows
  parts-of_rows =
      each-change (λ (row : Row Name). IfSome row.parts (AreLawfulEntries p.rows))
      (λ (row : Row Name). IfSome row.parts (AreAgain (number_in (row_names p)) (name_at (row_names p)))) (λ row are. again row.parts are)
      p.rows (parts-there p.rows [] p.rows (λ name there. there) lawful.parts)
    where
      again : (parts : Option (List (Entry Name))) → IfSome parts (AreLawfulEntries p.rows) →
          IfSome parts (AreAgain (number_in (row_names p)) (name_at (row_names p)))
      again None are = tt
      again (Some parts) are = entries-again parts are.on_rows

  -- A lawful problem by names comes back from its numbers.
  pub by_names-numbered : by_names (numbered p) ≡ p
  unfolding by_names numbered
  by_names-numbered =
      ap (λ names. problem_by (name_at names) (name_at (group_names (map (group_by (entry_by (number_in (row_names p)))) p.columns))) (numbered p))
      (row_names-by (number_in (row_names p)) p.rows)
      ∙ (λ i. record {
        name = p.name;
        rows = rows-again (number_in (row_names p)) (name_at (row_names p)) p.rows parts-of_rows i;
        columns = entry_groups-again (AreColumnEntries p.rows) (λ entries c. c.entries_lawful.on_rows) p.columns lawful.columns i;
        rhs = entry_groups-again (AreRightHandSides p.rows) (λ entries c. c.entries_lawful.on_rows) p.rhs lawful.rhs i;
        ranges = entry_groups-again (AreRanges p.rows) (λ entries c. c.entries_lawful.on_rows) p.ranges lawful.ranges i;
        bounds = bound_groups-again i;
      })
