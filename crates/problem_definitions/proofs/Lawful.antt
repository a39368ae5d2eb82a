-- What holds of every problem, said by names: then it holds of the problem by numbers.
use Rattle.std.proofs.Common.{◌≡◌, ℕ, ◌+◌, ◌≤◌, Bool, true, false, ◌&&◌, List, [], ◌∷◌, ◌++◌, Option, Some, None, option_map, length, map, refl, ap, ap₂, sym}
use Rattle.std.proofs.Common.{◌∙◌, subst, append_assoc, length-append, nat_eq, fold, is_some}
use Rattle.std.specs.List.{All, AllByRecursion, IsDistinct, enumerate_from}
use Rattle.std.specs.Option.{IfSome}
use Rattle.std.proofs.lemmas.List.{length-map, map-append}
use Rattle.card_definitions.specs.Words.{is_empty}
use Rattle.problem_definitions.specs.declared.TheConstants.{MAX_ROWS, MAX_COLUMNS, MAX_ENTRIES}
use Rattle.problem_definitions.specs.Names.{Name, same, has_name, number_in, name_at, marker}
use Rattle.problem_definitions.specs.Kinds.{meet, takes_value}
use Rattle.problem_definitions.specs.Problem.{Row, Entry, Bound, Group, Problem, row_names, group_names, entry_count, has_row, has_free_row, has_combination}
use Rattle.problem_definitions.specs.Problem.{has_group}
use Rattle.problem_definitions.specs.Numbering.{entry_by, row_by, bound_by, group_by, numbered}
use Rattle.problem_definitions.specs.Valid.{IsName, IsDecimal, AreLabels, IsNumberOf, AreEntries, clash, AreBounds, AreSets, is_free_row, is_combination}
use Rattle.problem_definitions.specs.Valid.{IsProblem}
use Rattle.problem_definitions.proofs.Names.{row_is_named}
use Rattle.problem_definitions.proofs.Groups.{map-map, has_group-names}
pub use Rattle.problem_definitions.proofs.LawfulEntries.{AreLawfulEntries}
use Rattle.problem_definitions.proofs.Parts.{ArePartsAfter}
use Rattle.problem_definitions.proofs.Each.{each-change, each-all, each-mapped, distinct-mapped}
use Rattle.problem_definitions.proofs.RowsBy.{row_names-by, row_count-by, is_free_row-by, is_combination-by}
use Rattle.problem_definitions.proofs.Places.{number_in-within, number_in-front, name_at-number_in, numbers_apart, free_row-number, combination-number}

-- a name that isn't empty
pub record IsLabel (name : Name) : Type 0 where
  pub name_of : IsName name
  pub present : is_empty name ≡ false

-- groups with distinct names, by what holds of their names and of their items
pub record AreGroups {X : Type 0} (IsGroupName : Name → Type 0) (AreItems : List X → Type 0) (groups : List (Group X)) : Type 0 where
  pub names : AllByRecursion IsGroupName (group_names groups)
  pub distinct : IsDistinct same (group_names groups)
  pub items : AllByRecursion (λ group. AreItems group.items) groups

pub record AreColumnEntries (rows : List (Row Name)) (entries : List (Entry Name)) : Type 0 where
  pub entries_lawful : AreLawfulEntries rows entries
  pub no_marker : AllByRecursion (λ entry. same marker entry.row ≡ false) entries
  pub plain : AllByRecursion (λ entry. has_combination rows entry.row ≡ false) entries

pub record AreRightHandSides (rows : List (Row Name)) (entries : List (Entry Name)) : Type 0 where
  pub entries_lawful : AreLawfulEntries rows entries
  pub filled : is_empty entries ≡ false

pub record AreRanges (rows : List (Row Name)) (entries : List (Entry Name)) : Type 0 where
  pub entries_lawful : AreLawfulEntries rows entries
  pub filled : is_empty entries ≡ false
  pub limited : AllByRecursion (λ entry. has_free_row rows entry.row ≡ false) entries

-- whether two bounds touch the same end of one column
abbrev pub clash_by_name : Bound Name → Bound Name → Bool
clash_by_name a b = same a.column b.column && meet a.kind b.kind

pub record AreLawfulBounds (columns : List (Group (Entry Name))) (bounds : List (Bound Name)) : Type 0 where
  pub on_columns : AllByRecursion (λ bound. has_group columns bound.column ≡ true) bounds
  pub apart : IsDistinct clash_by_name bounds
  pub valued : AllByRecursion (λ bound. is_some bound.value ≡ takes_value bound.kind) bounds
  pub values : AllByRecursion (λ bound. IfSome bound.value IsDecimal) bounds

pub record AreBoundSets (columns : List (Group (Entry Name))) (bounds : List (Bound Name)) : Type 0 where
  pub bounds_lawful : AreLawfulBounds columns bounds
  pub filled : is_empty bounds ≡ false

pub record IsLawful (problem : Problem Name) : Type 0 where
  pub row_labels : AllByRecursion IsLabel (row_names problem)
  pub parts : ArePartsAfter [] problem.rows
  pub rows_distinct : IsDistinct same (row_names problem)
  pub columns : AreGroups IsLabel (AreColumnEntries problem.rows) problem.columns
  pub rhs : AreGroups IsName (AreRightHandSides problem.rows) problem.rhs
  pub ranges : AreGroups IsName (AreRanges problem.rows) problem.ranges
  pub bounds : AreGroups IsName (AreBoundSets problem.columns) problem.bounds
  pub few_rows : length problem.rows ≤ MAX_ROWS
  pub few_columns : length problem.columns ≤ MAX_COLUMNS
  pub few_entries : entry_count problem ≤ MAX_ENTRIES

-- ---- from names to numbers

pub names-by : {X Y : Type 0} (h : X → Y) (groups : List (Group X)) → group_names (map (group_by h) groups) ≡ group_names groups
names-by h groups = map-map (λ group. group.name) (group_by h) groups

pub empty-map : {X Y : Type 0} (h : X → Y) (xs : List X) → is_empty xs ≡ false → is_empty (map h xs) ≡ false
empty-map h [] e = e
empty-map h (x ∷ xs) e = refl

labels : (names : List Name) → AllByRecursion IsLabel names → IsDistinct same names → AreLabels names
labels names each distinct = record {
  each = each-all IsName names (each-change IsLabel IsName (λ name label. label.name_of) names each);
  distinct = distinct;
  present = each-all (λ name. is_empty name ≡ false) names (each-change IsLabel (λ name. is_empty name ≡ false) (λ name label. label.present) names each);
}

-- what holds of the groups' items, once they are replaced
items-by : {X Y : Type 0} (h : X → Y) (P : List X → Type 0) (Q : List Y → Type 0) → ((items : List X) → P items → Q (map h items))
    → (groups : List (Group X)) → AllByRecursion (λ group. P group.items) groups → AllByRecursion (λ group. Q group.items) (map (group_by h) groups)
items-by h P Q change [] each = tt
items-by h P Q change (group ∷ groups) each = (change group.items each.0, items-by h P Q change groups each.1)

sets : {X Y : Type 0} (h : X → Y) (P : List X → Type 0) → ((items : List X) → P items → is_empty items ≡ false)
    → (groups : List (Group X)) → AreGroups IsName P groups → AreSets (map (group_by h) groups)
sets h P fill groups lawful = record {
  names = subst (λ names. All IsName names) (sym (names-by h groups)) (each-all IsName (group_names groups) lawful.names);
  distinct = subst (IsDistinct same) (sym (names-by h groups)) lawful.distinct;
  filled =
      each-all (λ set. is_empty set.items ≡ false) (map (group_by h) groups)
      (items-by h P (λ items. is_empty items ≡ false) (λ items p. empty-map h items (fill items p)) groups lawful.items);
}

module _ (rows : List (Row Name)) where
  abbrev row_name_list : List Name
  row_name_list = map (λ row. row.name) rows

  abbrev number : Name → ℕ
  number = number_in row_name_list

  there : (name : Name) → has_row rows name ≡ true → has_name row_name_list name ≡ true
  there name has = sym (row_is_named name rows) ∙ has

  entries-numbered : (entries : List (Entry Name)) → AreLawfulEntries rows entries → AreEntries (length rows) (map (entry_by number) entries)
  entries-numbered entries lawful = record {
    on_rows = each-all (λ entry. IsNumberOf (length rows) entry.row) (map (entry_by number) entries)
        (each-mapped (λ entry. IsNumberOf (length rows) entry.row) (entry_by number) entries
        (each-change (λ entry. has_row rows entry.row ≡ true) (λ entry. IsNumberOf (length rows) (number entry.row))
        (λ entry has. within entry.row has) entries lawful.on_rows));
    distinct = subst (IsDistinct nat_eq) (map-map number (λ entry. entry.row) entries ∙ sym (map-map (λ entry. entry.row) (entry_by number) entries))
        (distinct-mapped same nat_eq number (λ name. has_row rows name ≡ true)
        (λ a b has_a has_b apart. numbers_apart row_name_list a b (there a has_a) (there b has_b) apart)
        (map (λ entry. entry.row) entries) (each-mapped (λ name. has_row rows name ≡ true) (λ entry. entry.row) entries lawful.on_rows) lawful.distinct);
    values =
        each-all (λ entry. IsDecimal entry.value) (map (entry_by number) entries)
        (each-mapped (λ entry. IsDecimal entry.value) (entry_by number) entries lawful.values);
  }
    where
      within : (name : Name) → has_row rows name ≡ true → IsNumberOf (length rows) (number name)
      within name has = subst (λ n. IsNumberOf n (number name)) (length-map rows (λ row. row.name)) (number_in-within row_name_list name (there name has))

  markers-numbered : (entries : List (Entry Name)) → AreColumnEntries rows entries →
      All (λ entry. same marker (name_at row_name_list entry.row) ≡ false) (map (entry_by number) entries)
  markers-numbered entries lawful = each-all (λ entry. same marker (name_at row_name_list entry.row) ≡ false) (map (entry_by number) entries)
      (each-mapped (λ entry. same marker (name_at row_name_list entry.row) ≡ false) (entry_by number) entries
      (both entries lawful.entries_lawful.on_rows lawful.no_marker))
    where
      both : (entries : List (Entry Name)) → AllByRecursion (λ entry. has_row rows entry.row ≡ true) entries
          → AllByRecursion (λ entry. same marker entry.row ≡ false) entries
          → AllByRecursion (λ entry. same marker (name_at row_name_list (number entry.row)) ≡ false) entries
      both [] has apart = tt
      both (entry ∷ entries) has apart =
          (ap (same marker) (name_at-number_in row_name_list entry.row (there entry.row has.0)) ∙ apart.0, both entries has.1 apart.1)

  ranges-numbered : (entries : List (Entry Name)) → AreRanges rows entries → All (λ entry. is_free_row rows entry.row ≡ false) (map (entry_by number) entries)
  ranges-numbered entries lawful = each-all (λ entry. is_free_row rows entry.row ≡ false) (map (entry_by number) entries)
      (each-mapped (λ entry. is_free_row rows entry.row ≡ false) (entry_by number) entries (both entries lawful.entries_lawful.on_rows lawful.limited))
    where
      both : (entries : List (Entry Name)) → AllByRecursion (λ entry. has_row rows entry.row ≡ true) entries
          → AllByRecursion (λ entry. has_free_row rows entry.row ≡ false) entries
          → AllByRecursion (λ entry. is_free_row rows (number entry.row) ≡ false) entries
      both [] has apart = tt
      both (entry ∷ entries) has apart = (free_row-number rows entry.row has.0 apart.0, both entries has.1 apart.1)

  plain-numbered : (entries : List (Entry Name)) → AreColumnEntries rows entries →
      All (λ entry. is_combination rows entry.row ≡ false) (map (entry_by number) entries)
  plain-numbered entries lawful = each-all (λ entry. is_combination rows entry.row ≡ false) (map (entry_by number) entries)
      (each-mapped (λ entry. is_combination rows entry.row ≡ false) (entry_by number) entries (both entries lawful.entries_lawful.on_rows lawful.plain))
    where
      both : (entries : List (Entry Name)) → AllByRecursion (λ entry. has_row rows entry.row ≡ true) entries
          → AllByRecursion (λ entry. has_combination rows entry.row ≡ false) entries
          → AllByRecursion (λ entry. is_combination rows (number entry.row) ≡ false) entries
      both [] has plain = tt
      both (entry ∷ entries) has plain = (combination-number rows entry.row has.0 plain.0, both entries has.1 plain.1)

  -- numbers among these rows are numbers among more
  front-numbered : (more : List (Row Name)) (entries : List (Entry Name)) → AllByRecursion (λ (entry : Entry Name). has_row rows entry.row ≡ true) entries
      → map (entry_by (number_in (map (λ (row : Row Name). row.name) (rows ++ more)))) entries ≡ map (entry_by number) entries
  front-numbered more [] has = refl
  front-numbered more (entry ∷ entries) has =
      ap₂ (λ row rest. record { row = row; value = entry.value } ∷ rest)
      (ap (λ names. number_in names entry.row) (map-append (λ (row : Row Name). row.name) rows more)
      ∙ number_in-front row_name_list (map (λ (row : Row Name). row.name) more) entry.row (there entry.row has.0))
      (front-numbered more entries has.1)

-- the parts of each row, by the number of the rows before it
parts-numbered : (all before rows : List (Row Name)) → before ++ rows ≡ all → (count : ℕ) → length before ≡ count → ArePartsAfter before rows
    → AllByRecursion (λ (row : ℕ × Row ℕ). IfSome row.1.parts (AreEntries row.0))
    (enumerate_from count (map (row_by (number_in (map (λ (row : Row Name). row.name) all))) rows))
parts-numbered all before [] whole count counted are = tt
parts-numbered all before (row ∷ rows) whole count counted are = (
  numbered_parts row.parts are.0,
  parts-numbered all (before ++ row ∷ []) rows (append_assoc before (row ∷ []) rows ∙ whole) (count + 1)
      (length-append before (row ∷ []) ∙ ap (λ n. n + 1) counted) are.1,
)
  where
    numbered_parts : (parts : Option (List (Entry Name))) → IfSome parts (AreLawfulEntries before) →
        IfSome (option_map (map (entry_by (number_in (map (λ (row : Row Name). row.name) all)))) parts) (AreEntries count)
    numbered_parts None are = tt
    numbered_parts (Some parts) are =
        subst (AreEntries count)
        (sym (front-numbered before (row ∷ rows) parts are.on_rows)
        ∙ ap (λ (rows : List (Row Name)). map (entry_by (number_in (map (λ row. row.name) rows))) parts) whole)
        (subst (λ n. AreEntries n (map (entry_by (number before)) parts)) counted (entries-numbered before parts are))

bounds-numbered : (columns : List (Group (Entry Name))) (bounds : List (Bound Name)) → AreLawfulBounds columns bounds →
    AreBounds (length columns) (map (bound_by (number_in (group_names columns))) bounds)
bounds-numbered columns bounds lawful = record {
  on_columns = each-all (λ bound. IsNumberOf (length columns) bound.column) (map (bound_by number) bounds)
      (each-mapped (λ bound. IsNumberOf (length columns) bound.column) (bound_by number) bounds
      (each-change (λ bound. has_group columns bound.column ≡ true) (λ bound. IsNumberOf (length columns) (number bound.column))
      (λ bound has. within bound.column has) bounds lawful.on_columns));
  apart = distinct-mapped clash_by_name clash (bound_by number) (λ bound. has_group columns bound.column ≡ true) keeps bounds lawful.on_columns lawful.apart;
  valued =
      each-all (λ bound. is_some bound.value ≡ takes_value bound.kind) (map (bound_by number) bounds)
      (each-mapped (λ bound. is_some bound.value ≡ takes_value bound.kind) (bound_by number) bounds lawful.valued);
  values =
      each-all (λ bound. IfSome bound.value IsDecimal) (map (bound_by number) bounds)
      (each-mapped (λ bound. IfSome bound.value IsDecimal) (bound_by number) bounds lawful.values);
}
  where
    number : Name → ℕ
    number = number_in (group_names columns)

    there : (name : Name) → has_group columns name ≡ true → has_name (group_names columns) name ≡ true
    there name has = sym (has_group-names columns name) ∙ has

    within : (name : Name) → has_group columns name ≡ true → IsNumberOf (length columns) (number_in (group_names columns) name)
    within name has =
        subst (λ n. IsNumberOf n (number_in (group_names columns) name)) (length-map columns (λ group. group.name))
        (number_in-within (group_names columns) name (there name has))

    keeps : (a b : Bound Name) → has_group columns a.column ≡ true → has_group columns b.column ≡ true → clash_by_name a b ≡ false
        → (nat_eq (number_in (group_names columns) a.column) (number_in (group_names columns) b.column) && meet a.kind b.kind) ≡ false
    keeps a b has_a has_b apart =
        by (same a.column b.column) (meet a.kind b.kind) (nat_eq (number_in (group_names columns) a.column) (number_in (group_names columns) b.column)) apart
        (numbers_apart (group_names columns) a.column b.column (there a.column has_a) (there b.column has_b))
      where
        by : (s m n : Bool) → (s && m) ≡ false → (s ≡ false → n ≡ false) → (n && m) ≡ false
        by s m false e unlike = refl
        by s false true e unlike = refl
        by false true true e unlike = unlike refl
        by true true true e unlike = e

-- the number of entries stays
count-by : {X Y : Type 0} (h : X → Y) (total : ℕ) (groups : List (Group X)) →
    fold (λ sum group. sum + length group.items) total (map (group_by h) groups) ≡ fold (λ sum group. sum + length group.items) total groups
count-by h total [] = refl
count-by h total (group ∷ groups) =
    ap (λ n. fold (λ sum group. sum + length group.items) (total + n) (map (group_by h) groups)) (length-map group.items h)
    ∙ count-by h (total + length group.items) groups

-- What is lawful by names is a problem by numbers.
pub lawful-numbered : (problem : Problem Name) → IsName problem.name → IsLawful problem → IsProblem (numbered problem)
unfolding numbered
lawful-numbered problem name lawful = record {
  name = name;
  rows = subst AreLabels (sym names_kept) (labels (row_names problem) lawful.row_labels lawful.rows_distinct);
  parts =
      each-all (λ row. IfSome row.1.parts (AreEntries row.0)) (enumerate_from 0 rows) (parts-numbered problem.rows [] problem.rows refl 0 refl lawful.parts);
  columns = subst AreLabels (sym (names-by by_row problem.columns)) (labels (group_names problem.columns) lawful.columns.names lawful.columns.distinct);
  entries = subst (λ count. All (λ column. AreEntries count column.items) (map (group_by by_row) problem.columns)) (sym rows_kept)
      (each-all (λ column. AreEntries (length problem.rows) column.items) (map (group_by by_row) problem.columns)
      (items-by by_row (AreColumnEntries problem.rows) (AreEntries (length problem.rows))
      (λ items p. entries-numbered problem.rows items p.entries_lawful) problem.columns lawful.columns.items));
  plain_entries =
      subst (λ (combines : ℕ → Bool). All (λ column. All (λ entry. combines entry.row ≡ false) column.items) (map (group_by by_row) problem.columns))
      (sym (λ i n. is_combination-by number problem.rows n i))
      (each-all (λ column. All (λ entry. is_combination problem.rows entry.row ≡ false) column.items) (map (group_by by_row) problem.columns)
      (items-by by_row (AreColumnEntries problem.rows) (λ items. All (λ entry. is_combination problem.rows entry.row ≡ false) items)
      (plain-numbered problem.rows) problem.columns lawful.columns.items));
  no_marker =
      subst (λ names. All (λ column. All (λ entry. same marker (name_at names entry.row) ≡ false) column.items) (map (group_by by_row) problem.columns))
      (sym names_kept)
      (each-all (λ column. All (λ entry. same marker (name_at (row_names problem) entry.row) ≡ false) column.items) (map (group_by by_row) problem.columns)
      (items-by by_row (AreColumnEntries problem.rows) (λ items. All (λ entry. same marker (name_at (row_names problem) entry.row) ≡ false) items)
      (markers-numbered problem.rows) problem.columns lawful.columns.items));
  rhs = sets by_row (AreRightHandSides problem.rows) (λ items p. p.filled) problem.rhs lawful.rhs;
  rhs_items = subst (λ count. All (λ set. AreEntries count set.items) (map (group_by by_row) problem.rhs)) (sym rows_kept)
      (each-all (λ set. AreEntries (length problem.rows) set.items) (map (group_by by_row) problem.rhs)
      (items-by by_row (AreRightHandSides problem.rows) (AreEntries (length problem.rows))
      (λ items p. entries-numbered problem.rows items p.entries_lawful) problem.rhs lawful.rhs.items));
  ranges = sets by_row (AreRanges problem.rows) (λ items p. p.filled) problem.ranges lawful.ranges;
  range_items = subst (λ count. All (λ set. AreEntries count set.items) (map (group_by by_row) problem.ranges)) (sym rows_kept)
      (each-all (λ set. AreEntries (length problem.rows) set.items) (map (group_by by_row) problem.ranges)
      (items-by by_row (AreRanges problem.rows) (AreEntries (length problem.rows))
      (λ items p. entries-numbered problem.rows items p.entries_lawful) problem.ranges lawful.ranges.items));
  ranges_limited =
      subst (λ (is_free : ℕ → Bool). All (λ set. All (λ entry. is_free entry.row ≡ false) set.items) (map (group_by by_row) problem.ranges))
      (sym (λ i n. is_free_row-by number problem.rows n i))
      (each-all (λ set. All (λ entry. is_free_row problem.rows entry.row ≡ false) set.items) (map (group_by by_row) problem.ranges)
      (items-by by_row (AreRanges problem.rows) (λ items. All (λ entry. is_free_row problem.rows entry.row ≡ false) items)
      (ranges-numbered problem.rows) problem.ranges lawful.ranges.items));
  bounds = sets by_column (AreBoundSets problem.columns) (λ items p. p.filled) problem.bounds lawful.bounds;
  bound_items = each-all (λ set. AreBounds (length (map (group_by by_row) problem.columns)) set.items) (map (group_by by_column) problem.bounds)
      (items-by by_column (AreBoundSets problem.columns) (AreBounds (length (map (group_by by_row) problem.columns)))
      (λ items p. subst (λ n. AreBounds n (map by_column items)) (sym columns_kept)
      (bounds-numbered problem.columns items p.bounds_lawful)) problem.bounds lawful.bounds.items);
  few_rows = subst (λ n. n ≤ MAX_ROWS) (sym rows_kept) lawful.few_rows;
  few_columns = subst (λ n. n ≤ MAX_COLUMNS) (sym columns_kept) lawful.few_columns;
  few_entries = subst (λ n. n ≤ MAX_ENTRIES) (sym (count-by by_row 0 problem.columns)) lawful.few_entries;
}
  where
    number : Name → ℕ
    number = number_in (row_names problem)

    rows : List (Row ℕ)
    rows = map (row_by (number_in (row_names problem))) problem.rows

    names_kept : map (λ row. row.name) (map (row_by (number_in (row_names problem))) problem.rows) ≡ row_names problem
    names_kept = row_names-by (number_in (row_names problem)) problem.rows

    rows_kept : length (map (row_by (number_in (row_names problem))) problem.rows) ≡ length problem.rows
    rows_kept = row_count-by (number_in (row_names problem)) problem.rows

    by_row : Entry Name → Entry ℕ
    by_row = entry_by (number_in (row_names problem))

    by_column : Bound Name → Bound ℕ
    by_column = bound_by (number_in (group_names problem.columns))

    columns_kept : length (map (group_by (entry_by (number_in (row_names problem)))) problem.columns) ≡ length problem.columns
    columns_kept = length-map problem.columns (group_by (entry_by (number_in (row_names problem))))
