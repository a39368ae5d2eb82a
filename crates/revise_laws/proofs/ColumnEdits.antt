-- The edits of columns keep a problem lawful.
use Rattle.std.proofs.Common.{◌≡◌, ℕ, ◌+◌, ◌≤◌, Bool, true, false, cond, not, ◌&&◌, ◌||◌, List, [], ◌∷◌, ◌++◌, None, length, map, refl, sym, ◌∙◌, subst, arith}
use Rattle.std.proofs.Common.{is_some, nat_le}
use Rattle.std.specs.List.{AllByRecursion, IsDistinct, insert}
use Rattle.std.specs.Option.{IfSome}
use Rattle.std.proofs.lemmas.List.{length-append}
use Rattle.card_definitions.specs.Words.{is_empty, ◌⟹◌}
use Rattle.card_definitions.specs.Fields.{Reading}
use Rattle.card_definitions.proofs.FirstFaults.{passes, test_fails}
use Rattle.problem_definitions.specs.declared.TheConstants.{MAX_COLUMNS, MAX_ENTRIES}
use Rattle.problem_definitions.specs.Names.{Name, same, marker, different}
use Rattle.problem_definitions.specs.Kinds.{takes_value}
use Rattle.problem_definitions.specs.Problem.{Entry, Bound, Group, Problem, group_names, entry_count, has_row, has_combination, has_group}
use Rattle.problem_definitions.specs.Groups.{items_of, in_group, in_all, without_group}
use Rattle.problem_definitions.specs.Valid.{IsDecimal}
use Rattle.problem_definitions.proofs.Names.{same_eq, same_sym}
use Rattle.problem_definitions.proofs.Groups.{has_group-names}
use Rattle.problem_definitions.proofs.Each.{each-append, absent-apart}
use Rattle.problem_definitions.proofs.LawfulEntries.{AreLawfulEntries}
use Rattle.problem_definitions.proofs.Lawful.{IsLabel, AreColumnEntries, clash_by_name, AreLawfulBounds, AreBoundSets, IsLawful}
use Rattle.problem_definitions.proofs.OtherRows.{groups-same}
use Rattle.problem_definitions.proofs.Added.{items_of-each}
use Rattle.deck_definitions.specs.declared.DeckFaultKind.TheVariants.{ColumnSplit, EmptyName, TooManyColumns, Marker, ModifyMissing}
use Rattle.deck_definitions.specs.declared.Section.TheVariants.{Columns}
use Rattle.deck_definitions.specs.DataCards.{pairs_of, entries_of}
use Rattle.deck_definitions.specs.Tests.{kind_filled, marks, pairs_fault}
use Rattle.deck_definitions.proofs.CardTexts.{pairs-short}
use Rattle.deck_definitions.specs.Readings.{IsReading}
use Rattle.deck_definitions.proofs.Accepted.{pairs-lawful, pairs-few, pairs-plain, pairs-unmarked, not_full}
use Rattle.revise_definitions.specs.Actions.{Edit}
use Rattle.revise_definitions.specs.Edits.{place_of, goes_on, insert_column, delete_column, without_row, without_column, put_entries}
use Rattle.revise_definitions.specs.Tests.{puts_fault, modify_columns_fault, insert_columns_fault}
use Rattle.revise_definitions.proofs.Pairs.{put_entries-length}
use Rattle.revise_laws.proofs.Lists.{each-filter, each-passes, distinct-filter, distinct-mapped_filter, any-filter, length-filter, sum-filter, each-insert}
use Rattle.revise_laws.proofs.Lists.{distinct-insert, map-insert, any-inserted, length-inserted, sum-inserted, no_items, groups-changed, groups-without}
use Rattle.revise_laws.proofs.Lists.{groups-all, groups-filled, has_group-changed, length-changed, sum-changed}
use Rattle.revise_laws.proofs.Puts.{Fits, no-entries, puts-each, puts-lawful, puts-fit, puts-few}
use Rattle.revise_laws.proofs.RowEdits.{bound_sets-still}

-- fewer entries are lawful entries
pub entries-fewer : (p : Problem Name) (row : Name) (entries : List (Entry Name)) → AreLawfulEntries p.rows entries →
    AreLawfulEntries p.rows (without_row row entries)
entries-fewer p row entries c = record {
  on_rows = each-filter (λ (entry : Entry Name). has_row p.rows entry.row ≡ true) (λ entry. not (same row entry.row)) entries c.on_rows;
  distinct = distinct-mapped_filter same (λ entry. entry.row) (λ entry. not (same row entry.row)) entries c.distinct;
  values = each-filter (λ (entry : Entry Name). IsDecimal entry.value) (λ entry. not (same row entry.row)) entries c.values;
}

module _ (p : Problem Name) (lawful : IsLawful p) where
  -- the entries of a column
  column_entries : (name : Name) → AreColumnEntries p.rows (items_of name p.columns)
  column_entries name =
      items_of-each name (AreColumnEntries p.rows)
      (record { entries_lawful = no-entries p.rows; no_marker = tt; plain = tt }) p.columns lawful.columns.distinct lawful.columns.items

  -- a column with other entries
  column-changed : (name : Name) (f : List (Entry Name) → List (Entry Name)) → AreColumnEntries p.rows (f (items_of name p.columns))
      → entry_count (record p { columns = in_group name f p.columns }) ≤ MAX_ENTRIES → IsLawful (record p { columns = in_group name f p.columns })
  column-changed name f new few = record {
    row_labels = lawful.row_labels;
    rows_distinct = lawful.rows_distinct;
    parts = lawful.parts;
    columns = groups-changed name (AreColumnEntries p.rows) (AreColumnEntries p.rows) f p.columns lawful.columns (λ items c. c) new;
    rhs = lawful.rhs;
    ranges = lawful.ranges;
    bounds =
        groups-same (AreBoundSets p.columns) (AreBoundSets (in_group name f p.columns))
        (bound_sets-still p.columns (in_group name f p.columns) (has_group-changed name f p.columns)) p.bounds lawful.bounds;
    few_rows = lawful.few_rows;
    few_columns = subst (λ n. n ≤ MAX_COLUMNS) (sym (length-changed name f p.columns)) lawful.few_columns;
    few_entries = few;
  }

  -- ---- MODIFY

  fit-plain : (entries : List (Entry Name)) → AllByRecursion (Fits p Columns) entries →
      AllByRecursion (λ (entry : Entry Name). has_combination p.rows entry.row ≡ false) entries
  fit-plain [] fit = tt
  fit-plain (entry ∷ entries) fit = (fit.0.plain, fit-plain entries fit.1)

  pub column-modified : (card : Reading) → IsReading card → modify_columns_fault p card ≡ None →
      IsLawful (record p { columns = in_group card.name1 (put_entries (entries_of card)) p.columns })
  column-modified card reads fine =
      let t = passes (
      kind_filled card ∷
      marks card ∷
      (is_empty card.name1 ⟹ EmptyName) ∷
      (not (has_group p.columns card.name1) ⟹ ModifyMissing) ∷
      puts_fault p Columns (items_of card.name1 p.columns) (entry_count p) (pairs_of card) ∷ []) fine in
      let unmarked : (same marker card.name2 || same marker card.name3) ≡ false = test_fails (same marker card.name2 || same marker card.name3) Marker t.1.0 in
      let known = column_entries card.name1 in
      let total = sum-changed card.name1 (put_entries (entries_of card)) p.columns lawful.columns.distinct in
      let fit = puts-fit p Columns (items_of card.name1 p.columns) (entry_count p) (pairs_of card) (pairs-short card reads) t.1.1.1.1.0 in
      let few = puts-few p Columns (items_of card.name1 p.columns) (entry_count p) (pairs_of card) refl lawful.few_entries t.1.1.1.1.0 in
      column-changed card.name1 (put_entries (entries_of card)) (record {
        entries_lawful = puts-lawful p Columns (entries_of card) (items_of card.name1 p.columns) fit known.entries_lawful;
        no_marker =
            puts-each (λ (entry : Entry Name). same marker entry.row ≡ false) (entries_of card) (items_of card.name1 p.columns)
            (pairs-unmarked card unmarked) known.no_marker;
        plain =
            puts-each (λ (entry : Entry Name). has_combination p.rows entry.row ≡ false) (entries_of card) (items_of card.name1 p.columns)
            (fit-plain (entries_of card) fit) known.plain;
      }) (omega (arith, total, few, put_entries-length (entries_of card) (items_of card.name1 p.columns)))

  -- ---- DELETE

  pub entry-deleted : (name row : Name) → IsLawful (record p { columns = in_group name (without_row row) p.columns })
  entry-deleted name row =
      let known = column_entries name in
      let total = sum-changed name (without_row row) p.columns lawful.columns.distinct in
      let fewer = length-filter (λ (entry : Entry Name). not (same row entry.row)) (items_of name p.columns) in
      column-changed name (without_row row) (record {
        entries_lawful = entries-fewer p row (items_of name p.columns) known.entries_lawful;
        no_marker =
            each-filter (λ (entry : Entry Name). same marker entry.row ≡ false) (λ entry. not (same row entry.row)) (items_of name p.columns) known.no_marker;
        plain =
            each-filter (λ (entry : Entry Name). has_combination p.rows entry.row ≡ false) (λ entry. not (same row entry.row))
            (items_of name p.columns) known.plain;
      }) (omega (arith, total, fewer, lawful.few_entries))

  bounds-left : (name : Name) (bounds : List (Bound Name)) → AreLawfulBounds p.columns bounds →
      AreLawfulBounds (without_group name p.columns) (without_column name bounds)
  bounds-left name bounds c = record {
    on_columns =
        each-passes (λ (bound : Bound Name). has_group p.columns bound.column ≡ true) (λ bound. has_group (without_group name p.columns) bound.column ≡ true)
        (λ bound. not (same name bound.column))
        (λ bound there unlike. any-filter (λ group. same bound.column group.name) (λ group. not (same name group.name))
        (λ group e. subst (λ n. not (same name n) ≡ true) (same_eq bound.column group.name e) unlike) p.columns there) bounds c.on_columns;
    apart = distinct-filter clash_by_name (λ bound. not (same name bound.column)) bounds c.apart;
    valued = each-filter (λ (bound : Bound Name). is_some bound.value ≡ takes_value bound.kind) (λ bound. not (same name bound.column)) bounds c.valued;
    values = each-filter (λ (bound : Bound Name). IfSome bound.value IsDecimal) (λ bound. not (same name bound.column)) bounds c.values;
  }

  pub column-deleted : (name : Name) → IsLawful (delete_column name p)
  column-deleted name = record {
    row_labels = lawful.row_labels;
    rows_distinct = lawful.rows_distinct;
    parts = lawful.parts;
    columns = groups-without name (AreColumnEntries p.rows) (AreColumnEntries p.rows) (λ items c. c) p.columns lawful.columns;
    rhs = lawful.rhs;
    ranges = lawful.ranges;
    bounds =
        groups-filled (AreLawfulBounds (without_group name p.columns)) (AreBoundSets (without_group name p.columns))
        (λ items c e. record { bounds_lawful = c; filled = e }) (in_all (without_column name) p.bounds)
        (groups-all (AreBoundSets p.columns) (AreLawfulBounds (without_group name p.columns)) (without_column name)
        (λ items c. bounds-left name items c.bounds_lawful) p.bounds lawful.bounds);
    few_rows = lawful.few_rows;
    few_columns = let fewer = length-filter (λ (group : Group (Entry Name)). not (same name group.name)) p.columns in omega (arith, fewer, lawful.few_columns);
    few_entries =
        let fewer = sum-filter (λ (group : Group (Entry Name)). length group.items) (λ group. not (same name group.name)) p.columns in omega
        (arith, fewer, lawful.few_entries);
  }

  -- ---- BEFORE and AFTER

  column-placed : (place : ℕ) (name : Name) (entries : List (Entry Name)) → IsLabel name → has_group p.columns name ≡ false → AreColumnEntries p.rows entries
      → length p.columns + 1 ≤ MAX_COLUMNS → entry_count p + length entries ≤ MAX_ENTRIES
      → IsLawful (record p { columns = insert p.columns place (record { name = name; items = entries }) })
  column-placed place name entries label new are few few_entries = record {
    row_labels = lawful.row_labels;
    rows_distinct = lawful.rows_distinct;
    parts = lawful.parts;
    columns = record {
      names =
          subst (AllByRecursion IsLabel) (sym (map-insert (λ group. group.name) p.columns place column))
          (each-insert IsLabel (group_names p.columns) place name lawful.columns.names label);
      distinct = subst (IsDistinct same) (sym (map-insert (λ group. group.name) p.columns place column))
          (distinct-insert same same_sym (group_names p.columns) place name lawful.columns.distinct
          (absent-apart (group_names p.columns) name (sym (has_group-names p.columns name) ∙ new)));
      items = each-insert (λ group. AreColumnEntries p.rows group.items) p.columns place column lawful.columns.items are;
    };
    rhs = lawful.rhs;
    ranges = lawful.ranges;
    bounds = groups-same (AreBoundSets p.columns) (AreBoundSets (insert p.columns place column))
        (bound_sets-still p.columns (insert p.columns place column)
        (λ other there. any-inserted (λ group. same other group.name) p.columns place column there)) p.bounds lawful.bounds;
    few_rows = lawful.few_rows;
    few_columns = omega (arith, length-inserted p.columns place column, few);
    few_entries = omega (arith, sum-inserted (λ (group : Group (Entry Name)). length group.items) p.columns place column, few_entries);
  }
    where
      column : Group (Entry Name)
      column = record { name = name; items = entries }

  pub column-inserted : (edit : Edit) → IsReading edit.card → insert_columns_fault p edit.under edit.card ≡ None →
      IsLawful (record p { columns = insert_column edit p.columns })
  column-inserted edit reads fine = by (goes_on edit.under edit.card) split
    where
      t : AllByRecursion (λ test. test ≡ None) (
          kind_filled edit.card ∷
          marks edit.card ∷
          (is_empty edit.card.name1 ⟹ EmptyName) ∷
          (has_group p.columns edit.card.name1 && not (goes_on edit.under edit.card) ⟹ ColumnSplit) ∷
          (not (has_group p.columns edit.card.name1) && nat_le MAX_COLUMNS (length p.columns) ⟹ TooManyColumns) ∷
          pairs_fault p Columns (items_of edit.card.name1 p.columns) (entry_count p) (pairs_of edit.card) ∷ [])
      t = passes (
          kind_filled edit.card ∷
          marks edit.card ∷
          (is_empty edit.card.name1 ⟹ EmptyName) ∷
          (has_group p.columns edit.card.name1 && not (goes_on edit.under edit.card) ⟹ ColumnSplit) ∷
          (not (has_group p.columns edit.card.name1) && nat_le MAX_COLUMNS (length p.columns) ⟹ TooManyColumns) ∷
          pairs_fault p Columns (items_of edit.card.name1 p.columns) (entry_count p) (pairs_of edit.card) ∷ []) fine

      split : (has_group p.columns edit.card.name1 && not (goes_on edit.under edit.card)) ≡ false
      split = test_fails (has_group p.columns edit.card.name1 && not (goes_on edit.under edit.card)) ColumnSplit t.1.1.1.0

      label : IsLabel edit.card.name1
      label = record { name_of = reads.name1; present = test_fails (is_empty edit.card.name1) EmptyName t.1.1.0 }

      whole : AreColumnEntries p.rows (items_of edit.card.name1 p.columns ++ entries_of edit.card)
      whole = record {
        entries_lawful =
            pairs-lawful p Columns (items_of edit.card.name1 p.columns) (entry_count p) (pairs_of edit.card) (pairs-short edit.card reads)
            (column_entries edit.card.name1).entries_lawful t.1.1.1.1.1.0;
        no_marker =
            each-append (λ (entry : Entry Name). same marker entry.row ≡ false) (items_of edit.card.name1 p.columns) (entries_of edit.card)
            (column_entries edit.card.name1).no_marker
            (pairs-unmarked edit.card (test_fails (same marker edit.card.name2 || same marker edit.card.name3) Marker t.1.0));
        plain =
            each-append (λ (entry : Entry Name). has_combination p.rows entry.row ≡ false) (items_of edit.card.name1 p.columns) (entries_of edit.card)
            (column_entries edit.card.name1).plain
            (pairs-plain p Columns (items_of edit.card.name1 p.columns) (entry_count p) (pairs_of edit.card) refl t.1.1.1.1.1.0);
      }

      few : entry_count p + length (entries_of edit.card) ≤ MAX_ENTRIES
      few = pairs-few p Columns (items_of edit.card.name1 p.columns) (entry_count p) (pairs_of edit.card) refl lawful.few_entries t.1.1.1.1.1.0

      place : ℕ
      place = place_of edit.action edit.anchor (length (different (map (λ card. card.name1) edit.under))) (group_names p.columns)

      by : (b : Bool) → (has_group p.columns edit.card.name1 && not b) ≡ false
          → IsLawful (record p {
            columns = cond b (in_group edit.card.name1 (λ entries. entries ++ entries_of edit.card) p.columns)
                (insert p.columns place (record { name = edit.card.name1; items = entries_of edit.card }));
          })
      by true h =
          let total = sum-changed edit.card.name1 (λ entries. entries ++ entries_of edit.card) p.columns lawful.columns.distinct in
          column-changed edit.card.name1 (λ entries. entries ++ entries_of edit.card) whole
          (omega (arith, total, few, length-append (items_of edit.card.name1 p.columns) (entries_of edit.card)))
      by false h = new (has_group p.columns edit.card.name1) refl h
        where
          new : (b : Bool) → has_group p.columns edit.card.name1 ≡ b → (b && true) ≡ false →
              IsLawful (record p { columns = insert p.columns place (record { name = edit.card.name1; items = entries_of edit.card }) })
          new true e h' = absurd (cc h')
          new false absent h' =
              column-placed place edit.card.name1 (entries_of edit.card) label absent
              (subst (λ items. AreColumnEntries p.rows (items ++ entries_of edit.card)) (no_items edit.card.name1 p.columns absent) whole)
              (not_full MAX_COLUMNS (length p.columns)
              (subst (λ b. (not b && nat_le MAX_COLUMNS (length p.columns)) ≡ false) absent
              (test_fails (not (has_group p.columns edit.card.name1) && nat_le MAX_COLUMNS (length p.columns)) TooManyColumns t.1.1.1.1.0))) few
