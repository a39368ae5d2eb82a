-- A problem by numbers is lawful by names.
use Rattle.std.proofs.Common.{◌≡◌, ℕ, ◌+◌, ◌≤◌, Bool, true, false, ◌&&◌, List, [], ◌∷◌, ◌++◌, Option, Some, None, option_map, length, map, refl, ap, sym, ◌∙◌}
use Rattle.std.proofs.Common.{subst, append_assoc, arith, nat_eq, is_some}
use Rattle.std.specs.List.{All, AllByRecursion, IsDistinct, sum_by, enumerate_from}
use Rattle.std.specs.Option.{IfSome}
use Rattle.std.proofs.lemmas.List.{length-map, length-append, map-append}
use Rattle.std.proofs.lemmas.List.Sums.{sum_by-cons}
use Rattle.card_definitions.specs.Words.{is_empty}
use Rattle.problem_definitions.specs.declared.TheConstants.{MAX_ROWS, MAX_COLUMNS, MAX_ENTRIES}
use Rattle.problem_definitions.specs.Names.{Name, same, has_name, name_at, marker}
use Rattle.problem_definitions.specs.Kinds.{meet, takes_value}
use Rattle.problem_definitions.specs.Problem.{Row, Entry, Bound, Group, Problem, row_names, group_names, has_row, has_free_row, has_combination, has_group}
use Rattle.problem_definitions.specs.Numbering.{entry_by, row_by, bound_by, group_by, by_names}
use Rattle.problem_definitions.specs.Valid.{IsName, IsDecimal, AreLabels, IsNumberOf, AreEntries, clash, AreBounds, AreSets, is_free_row, is_combination}
use Rattle.problem_definitions.specs.Valid.{IsProblem}
use Rattle.problem_definitions.proofs.Names.{row_is_named}
use Rattle.problem_definitions.proofs.Groups.{map-map, has_group-names}
use Rattle.problem_definitions.proofs.Each.{each-change, each-mapped, distinct-mapped, all-each}
use Rattle.problem_definitions.proofs.RowsBy.{row_names-by, row_count-by, has_free_row-by, has_combination-by}
use Rattle.problem_definitions.proofs.LawfulEntries.{AreLawfulEntries}
use Rattle.problem_definitions.proofs.Parts.{ArePartsAfter}
use Rattle.problem_definitions.proofs.Lawful.{IsLabel, AreGroups, AreColumnEntries, AreRightHandSides, AreRanges, clash_by_name, AreLawfulBounds, AreBoundSets}
use Rattle.problem_definitions.proofs.Lawful.{IsLawful, names-by, empty-map}
use Rattle.revise_laws.proofs.Places.{name_at-there, name_at-front, names_apart, free_row-name, combination-name}

labels : (names : List Name) → AreLabels names → AllByRecursion IsLabel names
labels names are = both names (all-each IsName names are.each) (all-each (λ name. is_empty name ≡ false) names are.present)
  where
    both : (names : List Name) → AllByRecursion IsName names → AllByRecursion (λ name. is_empty name ≡ false) names → AllByRecursion IsLabel names
    both [] each present = tt
    both (name ∷ names) each present = (record { name_of = each.0; present = present.0 }, both names each.1 present.1)

-- what two facts on the groups' items give, once they are replaced
items-by : {X Y : Type 0} (h : X → Y) (P P' : List X → Type 0) (Q : List Y → Type 0) → ((items : List X) → P items → P' items → Q (map h items))
    → (groups : List (Group X)) → AllByRecursion (λ group. P group.items) groups → AllByRecursion (λ group. P' group.items) groups
    → AllByRecursion (λ group. Q group.items) (map (group_by h) groups)
items-by h P P' Q change [] each also = tt
items-by h P P' Q change (group ∷ groups) each also = (change group.items each.0 also.0, items-by h P P' Q change groups each.1 also.1)

sets : {X Y : Type 0} (h : X → Y) (P : List X → Type 0) (Q : List Y → Type 0) → ((items : List X) → P items → is_empty (map h items) ≡ false → Q (map h items))
    → (groups : List (Group X)) → AreSets groups → AllByRecursion (λ group. P group.items) groups → AreGroups IsName Q (map (group_by h) groups)
sets h P Q change groups are each = record {
  names = subst (AllByRecursion IsName) (sym (names-by h groups)) (all-each IsName (group_names groups) are.names);
  distinct = subst (IsDistinct same) (sym (names-by h groups)) are.distinct;
  items =
      items-by h P (λ items. is_empty items ≡ false) Q (λ items p e. change items p (empty-map h items e)) groups each
      (all-each (λ (set : Group _). is_empty set.items ≡ false) groups are.filled);
}

-- Rows that include those of so many of these names, by their numbers.
module _ (rows : List (Row Name)) (names : List Name) (distinct : IsDistinct same names) (count : ℕ) (within : count ≤ length names)
    (there : (number : ℕ) → IsNumberOf count number → has_row rows (name_at names number) ≡ true) where
  numbers : (number : ℕ) → IsNumberOf count number → IsNumberOf (length names) number
  numbers number is = record { positive = is.positive; at_most = omega (arith, is.at_most, within) }

  entries-named : (entries : List (Entry ℕ)) → AreEntries count entries → AreLawfulEntries rows (map (entry_by (name_at names)) entries)
  entries-named entries are = record {
    on_rows = each-mapped (λ entry. has_row rows entry.row ≡ true) (entry_by (name_at names)) entries
        (each-change (λ (entry : Entry ℕ). IsNumberOf count entry.row) (λ entry. has_row rows (name_at names entry.row) ≡ true)
        (λ entry is. there entry.row is) entries on_rows);
    distinct =
        subst (IsDistinct same) (map-map (name_at names) (λ entry. entry.row) entries ∙ sym (map-map (λ entry. entry.row) (entry_by (name_at names)) entries))
        (distinct-mapped nat_eq same (name_at names) (IsNumberOf count)
        (λ a b is_a is_b apart. names_apart names distinct a b (numbers a is_a) (numbers b is_b) apart)
        (map (λ entry. entry.row) entries) (each-mapped (IsNumberOf count) (λ (entry : Entry ℕ). entry.row) entries on_rows) are.distinct);
    values =
        each-mapped (λ entry. IsDecimal entry.value) (entry_by (name_at names)) entries
        (all-each (λ (entry : Entry ℕ). IsDecimal entry.value) entries are.values);
  }
    where
      on_rows : AllByRecursion (λ (entry : Entry ℕ). IsNumberOf count entry.row) entries
      on_rows = all-each (λ (entry : Entry ℕ). IsNumberOf count entry.row) entries are.on_rows

  -- a test that no entry's row passes by its number passes none by its name
  tested-named : (test : ℕ → Bool) (passes : Name → Bool)
      → ((number : ℕ) → IsNumberOf count number → test number ≡ false → passes (name_at names number) ≡ false)
      → (entries : List (Entry ℕ)) → AreEntries count entries → All (λ (entry : Entry ℕ). test entry.row ≡ false) entries
      → AllByRecursion (λ entry. passes entry.row ≡ false) (map (entry_by (name_at names)) entries)
  tested-named test passes limit entries are fails =
      both entries (all-each (λ (entry : Entry ℕ). IsNumberOf count entry.row) entries are.on_rows)
      (all-each (λ (entry : Entry ℕ). test entry.row ≡ false) entries fails)
    where
      both : (entries : List (Entry ℕ)) → AllByRecursion (λ (entry : Entry ℕ). IsNumberOf count entry.row) entries
          → AllByRecursion (λ (entry : Entry ℕ). test entry.row ≡ false) entries
          → AllByRecursion (λ entry. passes entry.row ≡ false) (map (entry_by (name_at names)) entries)
      both [] each fails' = tt
      both (entry ∷ entries) each fails' = (limit entry.row each.0 fails'.0, both entries each.1 fails'.1)

-- ---- parts

-- rows with names in place of numbers, after others of the same names
parts-named : (all : List Name) → IsDistinct same all → (done rest : List (Row ℕ)) → map (λ (row : Row ℕ). row.name) (done ++ rest) ≡ all
    → AllByRecursion (λ (row : ℕ × Row ℕ). IfSome row.1.parts (AreEntries row.0)) (enumerate_from (length done) rest)
    → ArePartsAfter (map (row_by (name_at all)) done) (map (row_by (name_at all)) rest)
parts-named all distinct done [] named are = tt
parts-named all distinct done (row ∷ rest) named are = (
  first row.parts are.0,
  subst (λ before. ArePartsAfter before (map (row_by (name_at all)) rest)) (map-append (row_by (name_at all)) done (row ∷ []))
      (parts-named all distinct (done ++ row ∷ []) rest (ap (map (λ (row : Row ℕ). row.name)) (append_assoc done (row ∷ []) rest) ∙ named)
      (subst (λ n. AllByRecursion (λ (row : ℕ × Row ℕ). IfSome row.1.parts (AreEntries row.0)) (enumerate_from n rest)) more are.1)),
)
  where
    more : length done + 1 ≡ length (done ++ row ∷ [])
    more = omega (arith, length-append done (row ∷ []))

    done_names : List Name
    done_names = map (λ (row : Row ℕ). row.name) done

    whole : map (λ (row : Row ℕ). row.name) done ++ map (λ (row : Row ℕ). row.name) (row ∷ rest) ≡ all
    whole = sym (map-append (λ (row : Row ℕ). row.name) done (row ∷ rest)) ∙ named

    within : length done ≤ length all
    within =
        omega (
          arith,
          ap length whole,
          length-append (map (λ (row : Row ℕ). row.name) done) (map (λ (row : Row ℕ). row.name) (row ∷ rest)),
          length-map done
              (λ (row : Row ℕ). row.name),
        )

    there : (number : ℕ) → IsNumberOf (length done) number → has_row (map (row_by (name_at all)) done) (name_at all number) ≡ true
    there number is =
        row_is_named (name_at all number) (map (row_by (name_at all)) done)
        ∙ ap (λ names. has_name names (name_at all number)) (row_names-by (name_at all) done)
        ∙ subst (λ names. has_name (map (λ (row : Row ℕ). row.name) done) (name_at names number) ≡ true) whole
        (name_at-front (map (λ (row : Row ℕ). row.name) done) (map (λ (row : Row ℕ). row.name) (row ∷ rest)) number
        (subst (λ n. IsNumberOf n number) (sym (length-map done (λ (row : Row ℕ). row.name))) is))

    first : (parts : Option (List (Entry ℕ))) → IfSome parts (AreEntries (length done)) →
        IfSome (option_map (map (entry_by (name_at all))) parts) (AreLawfulEntries (map (row_by (name_at all)) done))
    first None are' = tt
    first (Some parts) are' = entries-named (map (row_by (name_at all)) done) all distinct (length done) within there parts are'

bounds-named : (columns : List (Group (Entry Name))) (names : List Name) → group_names columns ≡ names → IsDistinct same names → (count : ℕ)
    → count ≡ length names → (bounds : List (Bound ℕ)) → AreBounds count bounds
    → AreLawfulBounds columns (map (bound_by (name_at names)) bounds)
bounds-named columns names named distinct count counted bounds are = record {
  on_columns = each-mapped (λ bound. has_group columns bound.column ≡ true) (bound_by (name_at names)) bounds
      (each-change (λ (bound : Bound ℕ). IsNumberOf count bound.column) (λ bound. has_group columns (name_at names bound.column) ≡ true)
      (λ bound is. has_group-names columns (name_at names bound.column) ∙ ap (λ list. has_name list (name_at names bound.column)) named
      ∙ name_at-there names bound.column (numbers bound.column is)) bounds on_columns);
  apart = distinct-mapped clash clash_by_name (bound_by (name_at names)) (λ (bound : Bound ℕ). IsNumberOf count bound.column) keeps bounds on_columns are.apart;
  valued =
      each-mapped (λ bound. is_some bound.value ≡ takes_value bound.kind) (bound_by (name_at names)) bounds
      (all-each (λ (bound : Bound ℕ). is_some bound.value ≡ takes_value bound.kind) bounds are.valued);
  values =
      each-mapped (λ bound. IfSome bound.value IsDecimal) (bound_by (name_at names)) bounds
      (all-each (λ (bound : Bound ℕ). IfSome bound.value IsDecimal) bounds are.values);
}
  where
    on_columns : AllByRecursion (λ (bound : Bound ℕ). IsNumberOf count bound.column) bounds
    on_columns = all-each (λ (bound : Bound ℕ). IsNumberOf count bound.column) bounds are.on_columns

    numbers : (number : ℕ) → IsNumberOf count number → IsNumberOf (length names) number
    numbers number is = subst (λ n. IsNumberOf n number) counted is

    keeps : (a b : Bound ℕ) → IsNumberOf count a.column → IsNumberOf count b.column → clash a b ≡ false →
        (same (name_at names a.column) (name_at names b.column) && meet a.kind b.kind) ≡ false
    keeps a b is_a is_b apart = by (nat_eq a.column b.column) (meet a.kind b.kind) (same (name_at names a.column) (name_at names b.column)) apart
        (names_apart names distinct a.column b.column (subst (λ n. IsNumberOf n a.column) counted is_a) (subst (λ n. IsNumberOf n b.column) counted is_b))
      where
        by : (n m s : Bool) → (n && m) ≡ false → (n ≡ false → s ≡ false) → (s && m) ≡ false
        by n m false e unlike = refl
        by n false true e unlike = refl
        by false true true e unlike = unlike refl
        by true true true e unlike = e

sum-by : {X Y : Type 0} (h : X → Y) (groups : List (Group X)) →
    sum_by (λ group. length group.items) (map (group_by h) groups) ≡ sum_by (λ group. length group.items) groups
sum-by h [] = refl
sum-by h (group ∷ groups) =
    omega (
      arith,
      sum-by h groups,
      length-map group.items h,
      sum_by-cons (λ group. length group.items) group groups,
      sum_by-cons (λ group. length group.items)
          (group_by h group) (map (group_by h) groups),
    )

-- ---- groups of entries by two facts or three of their items

record AreNumberedColumn (problem : Problem ℕ) (entries : List (Entry ℕ)) : Type 0 where
  are : AreEntries (length problem.rows) entries
  unmarked : All (λ (entry : Entry ℕ). same marker (name_at (row_names problem) entry.row) ≡ false) entries
  plain : All (λ (entry : Entry ℕ). is_combination problem.rows entry.row ≡ false) entries

record AreNumberedRanges (problem : Problem ℕ) (entries : List (Entry ℕ)) : Type 0 where
  are : AreEntries (length problem.rows) entries
  limited : All (λ (entry : Entry ℕ). is_free_row problem.rows entry.row ≡ false) entries

module _ (problem : Problem ℕ) (is : IsProblem problem) where
  column_items : AllByRecursion (λ (column : Group (Entry ℕ)). AreNumberedColumn problem column.items) problem.columns
  column_items = each problem.columns (all-each (λ (column : Group (Entry ℕ)). AreEntries (length problem.rows) column.items) problem.columns is.entries)
      (all-each (λ (column : Group (Entry ℕ)). All
      (λ (entry : Entry ℕ). same marker (name_at (row_names problem) entry.row) ≡ false) column.items) problem.columns is.no_marker)
      (all-each (λ (column : Group (Entry ℕ)). All
      (λ (entry : Entry ℕ). is_combination problem.rows entry.row ≡ false) column.items) problem.columns is.plain_entries)
    where
      each : (groups : List (Group (Entry ℕ))) → AllByRecursion (λ (group : Group (Entry ℕ)). AreEntries (length problem.rows) group.items) groups
          → AllByRecursion
          (λ (group : Group (Entry ℕ)). All (λ (entry : Entry ℕ). same marker (name_at (row_names problem) entry.row) ≡ false) group.items) groups
          → AllByRecursion (λ (group : Group (Entry ℕ)). All (λ (entry : Entry ℕ). is_combination problem.rows entry.row ≡ false) group.items) groups
          → AllByRecursion (λ (group : Group (Entry ℕ)). AreNumberedColumn problem group.items) groups
      each [] are unmarked plain = tt
      each (group ∷ groups) are unmarked plain = (record { are = are.0; unmarked = unmarked.0; plain = plain.0 }, each groups are.1 unmarked.1 plain.1)

  range_items : AllByRecursion (λ (set : Group (Entry ℕ)). AreNumberedRanges problem set.items) problem.ranges
  range_items = each problem.ranges (all-each (λ (set : Group (Entry ℕ)). AreEntries (length problem.rows) set.items) problem.ranges is.range_items)
      (all-each (λ (set : Group (Entry ℕ)). All (λ (entry : Entry ℕ). is_free_row problem.rows entry.row ≡ false) set.items) problem.ranges is.ranges_limited)
    where
      each : (groups : List (Group (Entry ℕ))) → AllByRecursion (λ (group : Group (Entry ℕ)). AreEntries (length problem.rows) group.items) groups
          → AllByRecursion (λ (group : Group (Entry ℕ)). All (λ (entry : Entry ℕ). is_free_row problem.rows entry.row ≡ false) group.items) groups
          → AllByRecursion (λ (group : Group (Entry ℕ)). AreNumberedRanges problem group.items) groups
      each [] are limited = tt
      each (group ∷ groups) are limited = (record { are = are.0; limited = limited.0 }, each groups are.1 limited.1)

-- What is a problem by numbers is lawful by names.
pub named-lawful : (problem : Problem ℕ) → IsProblem problem → IsLawful (by_names problem)
unfolding by_names
named-lawful problem is = record {
  row_labels = subst (AllByRecursion IsLabel) (sym rows_named) (labels (row_names problem) is.rows);
  rows_distinct = subst (IsDistinct same) (sym rows_named) is.rows.distinct;
  parts =
      parts-named (row_names problem) is.rows.distinct [] problem.rows refl
      (all-each (λ (row : ℕ × Row ℕ). IfSome row.1.parts (AreEntries row.0)) (enumerate_from 0 problem.rows) is.parts);
  columns = record {
    names = subst (AllByRecursion IsLabel) (sym (names-by by_row problem.columns)) (labels (group_names problem.columns) is.columns);
    distinct = subst (IsDistinct same) (sym (names-by by_row problem.columns)) is.columns.distinct;
    items = each-mapped (λ (column : Group (Entry Name)). AreColumnEntries rows column.items) (group_by by_row) problem.columns
        (each-change (λ (column : Group (Entry ℕ)). AreNumberedColumn problem column.items)
        (λ (column : Group (Entry ℕ)). AreColumnEntries rows (map by_row column.items)) (λ column c. column_named column.items c) problem.columns
        (column_items problem is));
  };
  rhs =
      sets by_row (AreEntries (length problem.rows)) (AreRightHandSides rows)
      (λ items p e. record { entries_lawful = named items p; filled = e }) problem.rhs is.rhs
      (all-each (λ (set : Group (Entry ℕ)). AreEntries (length problem.rows) set.items) problem.rhs is.rhs_items);
  ranges =
      sets by_row (AreNumberedRanges problem) (AreRanges rows)
      (λ items p e. record {
        entries_lawful = named items p.are;
        filled = e;
        limited = tested (is_free_row problem.rows)
            (has_free_row rows) free items p.are p.limited;
      }) problem.ranges is.ranges (range_items problem is);
  bounds = sets by_column (AreBounds (length problem.columns)) (AreBoundSets (map (group_by by_row) problem.columns))
      (λ items p e. record {
        bounds_lawful = bounds-named (map (group_by by_row) problem.columns) (group_names problem.columns)
            (names-by by_row problem.columns) is.columns.distinct (length problem.columns)
            (sym (length-map problem.columns (λ column. column.name))) items p;
        filled = e;
      })
      problem.bounds is.bounds (all-each (λ (set : Group (Bound ℕ)). AreBounds (length problem.columns) set.items) problem.bounds is.bound_items);
  few_rows = subst (λ n. n ≤ MAX_ROWS) (sym (row_count-by (name_at (row_names problem)) problem.rows)) is.few_rows;
  few_columns = subst (λ n. n ≤ MAX_COLUMNS) (sym (length-map problem.columns (group_by by_row))) is.few_columns;
  few_entries = subst (λ n. n ≤ MAX_ENTRIES) (sym (sum-by by_row problem.columns)) is.few_entries;
}
  where
    rows : List (Row Name)
    rows = map (row_by (name_at (row_names problem))) problem.rows

    rows_named : map (λ row. row.name) (map (row_by (name_at (row_names problem))) problem.rows) ≡ row_names problem
    rows_named = row_names-by (name_at (row_names problem)) problem.rows

    counted : length problem.rows ≡ length (row_names problem)
    counted = sym (length-map problem.rows (λ row. row.name))

    numbered_so : (number : ℕ) → IsNumberOf (length problem.rows) number → IsNumberOf (length (map (λ (row : Row ℕ). row.name) problem.rows)) number
    numbered_so number within = subst (λ n. IsNumberOf n number) (sym (length-map problem.rows (λ row. row.name))) within

    there : (number : ℕ) → IsNumberOf (length problem.rows) number →
        has_row (map (row_by (name_at (row_names problem))) problem.rows) (name_at (row_names problem) number) ≡ true
    there number within = row_is_named (name_at (row_names problem) number) (map (row_by (name_at (row_names problem))) problem.rows)
        ∙ ap (λ names. has_name names (name_at (row_names problem) number)) (row_names-by (name_at (row_names problem)) problem.rows)
        ∙ name_at-there (row_names problem) number (numbered_so number within)

    named : (entries : List (Entry ℕ)) → AreEntries (length problem.rows) entries → AreLawfulEntries rows (map (entry_by (name_at (row_names problem))) entries)
    named = entries-named rows (row_names problem) is.rows.distinct (length problem.rows) (omega (arith, counted)) there

    tested : (test : ℕ → Bool) (passes : Name → Bool)
        → ((number : ℕ) → IsNumberOf (length problem.rows) number → test number ≡ false → passes (name_at (row_names problem) number) ≡ false)
        → (entries : List (Entry ℕ)) → AreEntries (length problem.rows) entries → All (λ (entry : Entry ℕ). test entry.row ≡ false) entries
        → AllByRecursion (λ entry. passes entry.row ≡ false) (map (entry_by (name_at (row_names problem))) entries)
    tested = tested-named rows (row_names problem) is.rows.distinct (length problem.rows) (omega (arith, counted)) there

    free : (number : ℕ) → IsNumberOf (length problem.rows) number → is_free_row problem.rows number ≡ false
        → has_free_row (map (row_by (name_at (row_names problem))) problem.rows) (name_at (row_names problem) number) ≡ false
    free number within limited =
        has_free_row-by (name_at (row_names problem)) problem.rows (name_at (row_names problem) number)
        ∙ free_row-name problem.rows is.rows.distinct number (numbered_so number within) limited

    plain : (number : ℕ) → IsNumberOf (length problem.rows) number → is_combination problem.rows number ≡ false
        → has_combination (map (row_by (name_at (row_names problem))) problem.rows) (name_at (row_names problem) number) ≡ false
    plain number within limited =
        has_combination-by (name_at (row_names problem)) problem.rows (name_at (row_names problem) number)
        ∙ combination-name problem.rows is.rows.distinct number (numbered_so number within) limited

    column_named : (entries : List (Entry ℕ)) → AreNumberedColumn problem entries → AreColumnEntries rows (map (entry_by (name_at (row_names problem))) entries)
    column_named entries c = record {
      entries_lawful = named entries c.are;
      no_marker =
          each-mapped (λ entry. same marker entry.row ≡ false) (entry_by (name_at (row_names problem))) entries
          (all-each (λ (entry : Entry ℕ). same marker (name_at (row_names problem) entry.row) ≡ false) entries c.unmarked);
      plain = tested (is_combination problem.rows) (has_combination rows) plain entries c.are c.plain;
    }

    by_row : Entry ℕ → Entry Name
    by_row = entry_by (name_at (row_names problem))

    by_column : Bound ℕ → Bound Name
    by_column = bound_by (name_at (group_names problem.columns))
