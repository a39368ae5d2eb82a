-- The edits of rows keep a problem lawful.
use Rattle.std.proofs.Common.{◌≡◌, ℕ, ◌+◌, ◌≤◌, Bool, true, false, cond, not, ◌&&◌, ◌||◌, List, [], ◌∷◌, ◌++◌, Option, Some, None, length, map, take, refl, ap}
use Rattle.std.proofs.Common.{ap₂, sym, ◌∙◌, subst, arith, is_none, is_some, nat_le, unwrap_or}
use Rattle.std.specs.List.{AllByRecursion, IsDistinct, filter, insert, last_or}
use Rattle.std.specs.Option.{option_map, option_or, option_and_then, IfSome}
use Rattle.std.proofs.lemmas.List.{length-map}
use Rattle.card_definitions.specs.Words.{is_empty, named, ◌⟹◌}
use Rattle.card_definitions.specs.Fields.{Reading}
use Rattle.card_definitions.proofs.FirstFaults.{passes, test_fails}
use Rattle.problem_definitions.specs.declared.TheConstants.{MAX_ROWS, MAX_COLUMNS}
use Rattle.problem_definitions.specs.declared.RowKind.{RowKind}
use Rattle.problem_definitions.specs.declared.RowKind.TheVariants.{N, G, L, E}
use Rattle.problem_definitions.specs.Names.{Name, same, has_name, marker}
use Rattle.problem_definitions.specs.Kinds.{is_free_kind}
use Rattle.problem_definitions.specs.Problem.{Row, plain_row, combination, Entry, Bound, Group, Problem, row_names, has_row, has_free_row, has_combination}
use Rattle.problem_definitions.specs.Problem.{has_group, has_entry}
use Rattle.problem_definitions.specs.Parts.{parts_of, with_parts, in_row, rows_before}
use Rattle.problem_definitions.specs.Groups.{in_all}
use Rattle.problem_definitions.specs.Valid.{IsDecimal}
use Rattle.problem_definitions.proofs.Names.{same_eq, same_sym, row_is_named}
use Rattle.problem_definitions.proofs.Groups.{map-map}
use Rattle.problem_definitions.proofs.Each.{each-change, absent-apart}
use Rattle.problem_definitions.proofs.LawfulEntries.{AreLawfulEntries}
use Rattle.problem_definitions.proofs.Parts.{ArePartsAfter, AreNamed, AreLeft, entries-wider, parts-mapped, parts-changed, parts-insert, parts-left}
use Rattle.problem_definitions.proofs.Parts.{parts_of-new, parts_of-lawful, in_row-names, in_row-length}
use Rattle.problem_definitions.proofs.Lawful.{IsLabel, AreColumnEntries, AreRightHandSides, AreRanges, AreLawfulBounds, AreBoundSets, IsLawful}
use Rattle.problem_definitions.proofs.OtherRows.{AreStill, groups-same, rows-changed, in_row-still}
use Rattle.deck_definitions.specs.declared.DeckFaultKind.{DeckFaultKind}
use Rattle.deck_definitions.specs.declared.DeckFaultKind.TheVariants.{BadRowType, DuplicateRow, EmptyName, TooManyRows, ModifyMissing, RangeOnFree}
use Rattle.deck_definitions.specs.declared.Section.TheVariants.{Rows}
use Rattle.deck_definitions.specs.DataCards.{row_kinds, combination_kinds, combination_text, is_card_of, part_pairs_of, parts_on, kind_on, row_of}
use Rattle.deck_definitions.specs.Tests.{filled_from_3, pairs_fault, row_fields_fault, rows_fault}
use Rattle.deck_definitions.proofs.CardTexts.{part_pairs-short}
use Rattle.deck_definitions.specs.Readings.{IsReading}
use Rattle.deck_definitions.proofs.Accepted.{pairs-lawful, not_full}
use Rattle.revise_definitions.specs.Actions.{Edit}
use Rattle.revise_definitions.specs.Edits.{row_place, goes_on_row, earlier_rows, insert_row, retyped, modify_row, delete_row, put_entries, without_row}
use Rattle.revise_definitions.specs.Tests.{has_range, frees, has_type_for, puts_fault, modified_fields_fault, modify_rows_fault}
use Rattle.revise_laws.proofs.Lists.{each-filter, each-passes, distinct-mapped_filter, each-mapped_filter, any-filter, none-filter, length-filter, each-insert}
use Rattle.revise_laws.proofs.Lists.{distinct-insert, map-insert, any-inserted, none-inserted, length-inserted, groups-all, groups-filled, sum-all}
use Rattle.revise_laws.proofs.Lists.{has_group-all}
use Rattle.revise_laws.proofs.Puts.{no-entries, puts-lawful, puts-fit}

-- bounds on columns that are still there
pub bounds-still : (columns others : List (Group (Entry Name))) → ((name : Name) → has_group columns name ≡ true → has_group others name ≡ true) →
    (bounds : List (Bound Name)) → AreLawfulBounds columns bounds → AreLawfulBounds others bounds
bounds-still columns others still bounds lawful = record {
  on_columns =
      each-change (λ (bound : Bound Name). has_group columns bound.column ≡ true) (λ bound. has_group others bound.column ≡ true)
      (λ bound there. still bound.column there) bounds lawful.on_columns;
  apart = lawful.apart;
  valued = lawful.valued;
  values = lawful.values;
}

pub bound_sets-still : (columns others : List (Group (Entry Name))) → ((name : Name) → has_group columns name ≡ true → has_group others name ≡ true) →
    (bounds : List (Bound Name)) → AreBoundSets columns bounds → AreBoundSets others bounds
bound_sets-still columns others still bounds c = record { bounds_lawful = bounds-still columns others still bounds c.bounds_lawful; filled = c.filled }

or_first : (a b : Bool) → (a || b) ≡ false → a ≡ false
or_first true b e = e
or_first false b e = refl

or_second : (a b : Bool) → (a || b) ≡ false → b ≡ false
or_second true b e = absurd (cc e)
or_second false b e = e

-- ---- MODIFY

module _ (card : Reading) where
  retyped-name : (row : Row Name) → (cond (same card.name1 row.name) (retyped card row) row).name ≡ row.name
  retyped-name row = by (same card.name1 row.name)
    where
      by : (b : Bool) → (cond b (retyped card row) row).name ≡ row.name
      by true = refl
      by false = refl

  retyped-names : (rows : List (Row Name)) → map (λ row. row.name) (modify_row card rows) ≡ map (λ row. row.name) rows
  retyped-names [] = refl
  retyped-names (row ∷ rows) = ap₂ (λ name names. name ∷ names) (retyped-name row) (retyped-names rows)

  retyped-there : (rows : List (Row Name)) → AreNamed rows (modify_row card rows)
  retyped-there rows name there =
      row_is_named name (modify_row card rows) ∙ ap (λ names. has_name names name) (retyped-names rows) ∙ sym (row_is_named name rows) ∙ there

  retyped-combination : (rows : List (Row Name)) (name : Name) → has_combination (modify_row card rows) name ≡ has_combination rows name
  retyped-combination [] name = refl
  retyped-combination (row ∷ rows) name = by (same card.name1 row.name) (retyped-combination rows name)
    where
      kept : (parts : Option (List (Entry Name))) → is_some (option_map (put_entries (parts_on card)) parts) ≡ is_some parts
      kept None = refl
      kept (Some parts) = refl

      by : (b : Bool) → has_combination (modify_row card rows) name ≡ has_combination rows name →
          has_combination (cond b (retyped card row) row ∷ modify_row card rows) name ≡ has_combination (row ∷ rows) name
      by true rest = ap₂ (λ b c. same name row.name && b || c) (kept row.parts) rest
      by false rest = ap (λ b. same name row.name && is_some row.parts || b) rest

  -- a row with another type alone
  abbrev rekinded : Row Name → Row Name
  rekinded row = record { kind = cond (same card.name1 row.name) (unwrap_or (kind_on card) row.kind) row.kind; name = row.name; parts = row.parts }

  retyped-parts : (rows : List (Row Name)) → map rekinded (in_row card.name1 (put_entries (parts_on card)) rows) ≡ modify_row card rows
  retyped-parts [] = refl
  retyped-parts (row ∷ rows) = ap₂ (λ first rest. first ∷ rest) (by (same card.name1 row.name) refl) (retyped-parts rows)
    where
      by : (b : Bool) → same card.name1 row.name ≡ b → rekinded (cond b (with_parts (put_entries (parts_on card)) row) row) ≡ cond b (retyped card row) row
      by true e = rw e refl
      by false e = rw e refl

  -- a row that isn't free stays so, unless it is the one that becomes free
  retyped-limited : (name : Name) → (frees card && same card.name1 name) ≡ false → (rows : List (Row Name)) → has_free_row rows name ≡ false →
      has_free_row (modify_row card rows) name ≡ false
  retyped-limited name other [] limited = refl
  retyped-limited name other (row ∷ rows) limited =
      let first = or_first (same name row.name && is_free_kind row.kind) (has_free_row rows name) limited in
      let rest = retyped-limited name other rows (or_second (same name row.name && is_free_kind row.kind) (has_free_row rows name) limited) in
      rw (rest, at (same card.name1 row.name) refl first) refl
    where
      becomes : (o : Option RowKind) → same card.name1 row.name ≡ true → (unwrap_or (option_map is_free_kind o) false && same card.name1 name) ≡ false
          → (same name row.name && is_free_kind row.kind) ≡ false
          → (same name row.name && is_free_kind (unwrap_or o row.kind)) ≡ false
      becomes None e h first = first
      becomes (Some kind) e h first = by (is_free_kind kind) (same name row.name) refl h
        where
          by : (f s : Bool) → same name row.name ≡ s → (f && same card.name1 name) ≡ false → (s && f) ≡ false
          by true true k h' =
              let equal : name ≡ row.name = same_eq name row.name k in
              let found : same card.name1 name ≡ true = subst (λ n. same card.name1 n ≡ true) (sym equal) e in
              absurd (cc (found, h'))
          by false true k h' = refl
          by f false k h' = refl

      at : (b : Bool) → same card.name1 row.name ≡ b → (same name row.name && is_free_kind row.kind) ≡ false
          → (same name (cond b (retyped card row) row).name && is_free_kind (cond b (retyped card row) row).kind) ≡ false
      at true e first = becomes (kind_on card) e other first
      at false e first = first

  module _ (p : Problem Name) (lawful : IsLawful p) where
    limited_items : (frees card && has_range p card.name1) ≡ false → (sets : List (Group (Entry Name)))
        → ((b : Bool) → frees card ≡ b → b ≡ true → AllByRecursion (λ (set : Group (Entry Name)). has_entry set.items card.name1 ≡ false) sets)
        → AllByRecursion (λ (set : Group (Entry Name)). AreRanges p.rows set.items) sets
        → AllByRecursion (λ (set : Group (Entry Name)). AreRanges (modify_row card p.rows) set.items) sets
    limited_items h [] none each = tt
    limited_items h (set ∷ sets) none each = (
      record {
        entries_lawful = entries-wider p.rows (modify_row card p.rows) (retyped-there p.rows) set.items each.0.entries_lawful;
        filled = each.0.filled;
        limited = items set.items (λ b e t. (none b e t).0) each.0.limited;
      },
      limited_items h sets (λ b e t. (none b e t).1) each.1,
    )
      where
        items : (entries : List (Entry Name)) → ((b : Bool) → frees card ≡ b → b ≡ true → has_entry entries card.name1 ≡ false)
            → AllByRecursion (λ (entry : Entry Name). has_free_row p.rows entry.row ≡ false) entries
            → AllByRecursion (λ (entry : Entry Name). has_free_row (modify_row card p.rows) entry.row ≡ false) entries
        items [] none' each' = tt
        items (entry ∷ entries) none' each' = (
          retyped-limited entry.row (by (frees card) refl) p.rows each'.0,
          items entries
              (λ b e t. or_second (same card.name1 entry.row) (has_entry entries card.name1) (none' b e t)) each'.1,
        )
          where
            by : (b : Bool) → frees card ≡ b → (b && same card.name1 entry.row) ≡ false
            by true e = or_first (same card.name1 entry.row) (has_entry entries card.name1) (none' true e refl)
            by false e = refl

    no_ranges : (frees card && has_range p card.name1) ≡ false → (b : Bool) → frees card ≡ b → b ≡ true →
        AllByRecursion (λ (set : Group (Entry Name)). has_entry set.items card.name1 ≡ false) p.ranges
    no_ranges h false e t = absurd (cc t)
    no_ranges h true e t = each p.ranges (subst (λ b. (b && has_range p card.name1) ≡ false) e h)
      where
        each : (sets : List (Group (Entry Name))) → has_range (record p { ranges = sets }) card.name1 ≡ false →
            AllByRecursion (λ (set : Group (Entry Name)). has_entry set.items card.name1 ≡ false) sets
        each [] h' = tt
        each (set ∷ sets) h' = (
          or_first (has_entry set.items card.name1) (has_range (record p { ranges = sets }) card.name1) h',
          each sets
              (or_second (has_entry set.items card.name1) (has_range (record p { ranges = sets }) card.name1) h'),
        )

    -- each part is put in the place of that on its row, or at the end
    parts-modified : IsReading card → modified_fields_fault p card ≡ None → ArePartsAfter [] (modify_row card p.rows)
    parts-modified reads fine = subst (ArePartsAfter []) (retyped-parts p.rows)
        (parts-mapped rekinded (λ row. refl) (λ row. refl) [] [] (in_row card.name1 (put_entries (parts_on card)) p.rows) (λ name there. there)
        (parts-changed card.name1 (put_entries (parts_on card)) p.rows lawful.rows_distinct lawful.parts put))
      where
        earlier : Problem Name
        earlier = record p { rows = rows_before card.name1 p.rows }

        put : has_combination p.rows card.name1 ≡ true →
            AreLawfulEntries (rows_before card.name1 p.rows) (put_entries (parts_on card) (parts_of card.name1 p.rows))
        put combines =
            let parts_fine : puts_fault earlier Rows [] 0 (part_pairs_of card) ≡ None =
            subst (λ b. cond b (puts_fault earlier Rows [] 0 (part_pairs_of card)) (filled_from_3 card) ≡ None) combines fine in
            puts-lawful earlier Rows (parts_on card) (parts_of card.name1 p.rows)
            (puts-fit earlier Rows [] 0 (part_pairs_of card) (part_pairs-short card reads) parts_fine)
            (parts_of-lawful card.name1 [] p.rows lawful.rows_distinct lawful.parts)

    pub row-modified : IsReading card → modify_rows_fault p card ≡ None → IsLawful (record p { rows = modify_row card p.rows })
    row-modified reads fine =
        let t = passes (
        (is_empty card.name1 ⟹ EmptyName) ∷
        (not (has_row p.rows card.name1) ⟹ ModifyMissing) ∷
        (not (has_type_for (has_combination p.rows card.name1) card) ⟹ BadRowType) ∷
        (frees card && has_range p card.name1 ⟹ RangeOnFree) ∷
        modified_fields_fault p card ∷ []) fine in
        let unranged : (frees card && has_range p card.name1) ≡ false = test_fails (frees card && has_range p card.name1) RangeOnFree t.1.1.1.0 in
        record {
          row_labels = subst (AllByRecursion IsLabel) (sym (retyped-names p.rows)) lawful.row_labels;
          rows_distinct = subst (IsDistinct same) (sym (retyped-names p.rows)) lawful.rows_distinct;
          parts = parts-modified reads t.1.1.1.1.0;
          columns = groups-same (AreColumnEntries p.rows) (AreColumnEntries (modify_row card p.rows))
              (λ items c. record {
                entries_lawful = entries-wider p.rows (modify_row card p.rows) (retyped-there p.rows) items c.entries_lawful;
                no_marker = c.no_marker;
                plain =
                    each-change (λ (entry : Entry Name). has_combination p.rows entry.row ≡ false)
                    (λ entry. has_combination (modify_row card p.rows) entry.row ≡ false)
                    (λ entry plain. retyped-combination p.rows entry.row ∙ plain) items c.plain;
              }) p.columns lawful.columns;
          rhs = groups-same (AreRightHandSides p.rows) (AreRightHandSides (modify_row card p.rows))
              (λ items c. record {
                entries_lawful = entries-wider p.rows (modify_row card p.rows)
                    (retyped-there p.rows) items c.entries_lawful;
                filled = c.filled;
              }) p.rhs lawful.rhs;
          ranges =
              record {
                names = lawful.ranges.names;
                distinct = lawful.ranges.distinct;
                items = limited_items unranged p.ranges
                    (no_ranges unranged) lawful.ranges.items;
              };
          bounds = lawful.bounds;
          few_rows = subst (λ n. n ≤ MAX_ROWS) (sym (length-map p.rows (λ row. cond (same card.name1 row.name) (retyped card row) row))) lawful.few_rows;
          few_columns = lawful.few_columns;
          few_entries = lawful.few_entries;
        }

-- ---- DELETE

-- entries without those on a row, where the other rows are left
entries-left : (name : Name) (rows others : List (Row Name)) → AreLeft name rows others → (entries : List (Entry Name)) → AreLawfulEntries rows entries →
    AreLawfulEntries others (without_row name entries)
entries-left name rows others left entries c = record {
  on_rows =
      each-passes (λ (entry : Entry Name). has_row rows entry.row ≡ true) (λ entry. has_row others entry.row ≡ true) (λ entry. not (same name entry.row))
      (λ entry there unlike. left entry.row unlike there) entries c.on_rows;
  distinct = distinct-mapped_filter same (λ entry. entry.row) (λ entry. not (same name entry.row)) entries c.distinct;
  values = each-filter (λ entry. IsDecimal entry.value) (λ entry. not (same name entry.row)) entries c.values;
}

-- rows with other parts have the same names and types, and the same are combinations
module _ (change : List (Entry Name) → List (Entry Name)) where
  row-changed : (rows : List (Row Name)) (name : Name) → has_row (map (with_parts change) rows) name ≡ has_row rows name
  row-changed [] name = refl
  row-changed (row ∷ rows) name = ap (λ b. same name row.name || b) (row-changed rows name)

  free-changed : (rows : List (Row Name)) (name : Name) → has_free_row (map (with_parts change) rows) name ≡ has_free_row rows name
  free-changed [] name = refl
  free-changed (row ∷ rows) name = ap (λ b. same name row.name && is_free_kind row.kind || b) (free-changed rows name)

  combination-changed : (rows : List (Row Name)) (name : Name) → has_combination (map (with_parts change) rows) name ≡ has_combination rows name
  combination-changed [] name = refl
  combination-changed (row ∷ rows) name = ap₂ (λ b c. same name row.name && b || c) (kept row.parts) (combination-changed rows name)
    where
      kept : (parts : Option (List (Entry Name))) → is_some (option_map change parts) ≡ is_some parts
      kept None = refl
      kept (Some parts) = refl

module _ (name : Name) (p : Problem Name) (lawful : IsLawful p) where
  abbrev other_rows : List (Row Name)
  other_rows = filter (λ row. not (same name row.name)) p.rows

  abbrev rows_left : List (Row Name)
  rows_left = map (with_parts (without_row name)) other_rows

  row-left : AreLeft name p.rows rows_left
  row-left other unlike there =
      row-changed (without_row name) other_rows other
      ∙ any-filter (λ row. same other row.name) (λ row. not (same name row.name))
      (λ row e. subst (λ n. not (same name n) ≡ true) (same_eq other row.name e) unlike) p.rows there

  names_left : map (λ row. row.name) rows_left ≡ map (λ row. row.name) other_rows
  names_left = map-map (λ row. row.name) (with_parts (without_row name)) other_rows

  -- what is left of the entries of a column, which stood on no combination, and of the items of a range set, which stood on no free row
  plain-left : (entries : List (Entry Name)) → AllByRecursion (λ (entry : Entry Name). has_combination p.rows entry.row ≡ false) entries →
      AllByRecursion (λ (entry : Entry Name). has_combination rows_left entry.row ≡ false) (without_row name entries)
  plain-left entries each =
      each-passes (λ (entry : Entry Name). has_combination p.rows entry.row ≡ false) (λ entry. has_combination rows_left entry.row ≡ false)
      (λ entry. not (same name entry.row))
      (λ entry plain unlike. combination-changed (without_row name) other_rows entry.row
      ∙ none-filter (λ row. same entry.row row.name && is_some row.parts) (λ row. not (same name row.name)) p.rows plain) entries each

  limited-left : (entries : List (Entry Name)) → AllByRecursion (λ (entry : Entry Name). has_free_row p.rows entry.row ≡ false) entries →
      AllByRecursion (λ (entry : Entry Name). has_free_row rows_left entry.row ≡ false) (without_row name entries)
  limited-left entries each =
      each-passes (λ (entry : Entry Name). has_free_row p.rows entry.row ≡ false) (λ entry. has_free_row rows_left entry.row ≡ false)
      (λ entry. not (same name entry.row))
      (λ entry limited unlike. free-changed (without_row name) other_rows entry.row
      ∙ none-filter (λ row. same entry.row row.name && is_free_kind row.kind) (λ row. not (same name row.name)) p.rows limited) entries each

  -- the items of a range set that are left
  record AreRangesLeft (entries : List (Entry Name)) : Type 0 where
    entries_lawful : AreLawfulEntries rows_left entries
    limited : AllByRecursion (λ (entry : Entry Name). has_free_row rows_left entry.row ≡ false) entries

  pub row-deleted : IsLawful (delete_row name p)
  row-deleted = record {
    row_labels =
        subst (AllByRecursion IsLabel) (sym names_left)
        (each-mapped_filter IsLabel (λ row. row.name) (λ row. not (same name row.name)) p.rows lawful.row_labels);
    rows_distinct =
        subst (IsDistinct same) (sym names_left) (distinct-mapped_filter same (λ row. row.name) (λ row. not (same name row.name)) p.rows lawful.rows_distinct);
    parts = parts-left name [] [] p.rows (λ other unlike there. there) (entries-left name) lawful.parts;
    columns = groups-all (AreColumnEntries p.rows) (AreColumnEntries rows_left) (without_row name)
        (λ items c. record {
          entries_lawful = entries-left name p.rows rows_left row-left items c.entries_lawful;
          no_marker = each-filter (λ (entry : Entry Name). same marker entry.row ≡ false) (λ entry. not (same name entry.row)) items c.no_marker;
          plain = plain-left items c.plain;
        }) p.columns lawful.columns;
    rhs =
        groups-filled (AreLawfulEntries rows_left) (AreRightHandSides rows_left) (λ items c e. record { entries_lawful = c; filled = e })
        (in_all (without_row name) p.rhs)
        (groups-all (AreRightHandSides p.rows) (AreLawfulEntries rows_left) (without_row name)
        (λ items c. entries-left name p.rows rows_left row-left items c.entries_lawful) p.rhs lawful.rhs);
    ranges =
        groups-filled AreRangesLeft (AreRanges rows_left) (λ items c e. record { entries_lawful = c.entries_lawful; filled = e; limited = c.limited })
        (in_all (without_row name) p.ranges)
        (groups-all (AreRanges p.rows) AreRangesLeft (without_row name)
        (λ items c. record { entries_lawful = entries-left name p.rows rows_left row-left items c.entries_lawful; limited = limited-left items c.limited })
        p.ranges lawful.ranges);
    bounds =
        groups-same (AreBoundSets p.columns) (AreBoundSets (in_all (without_row name) p.columns))
        (bound_sets-still p.columns (in_all (without_row name) p.columns) (has_group-all (without_row name) p.columns)) p.bounds lawful.bounds;
    few_rows =
        let fewer = length-filter (λ (row : Row Name). not (same name row.name)) p.rows in omega
        (arith, fewer, length-map other_rows (with_parts (without_row name)), lawful.few_rows);
    few_columns =
        subst (λ n. n ≤ MAX_COLUMNS)
        (sym (length-map p.columns (λ column. record { name = column.name; items = without_row name column.items }))) lawful.few_columns;
    few_entries =
        let fewer = sum-all (without_row name) (λ items. length-filter (λ (entry : Entry Name). not (same name entry.row)) items) p.columns in omega
        (arith, fewer, lawful.few_entries);
  }

-- ---- BEFORE and AFTER

-- a card that goes on has the type of a combination
pub goes_on_row-combines : (under : List Reading) (card : Reading) → goes_on_row under card ≡ true → is_some (named combination_kinds card.kind) ≡ true
goes_on_row-combines under card goes = last (last_or None under) goes
  where
    reported : (kind : RowKind) → is_some (named combination_kinds (combination_text kind)) ≡ true
    reported N = refl
    reported G = refl
    reported L = refl
    reported E = refl

    typed : (kind : RowKind) (name : Name) (b : Bool) → same (combination_text kind) card.kind ≡ b → (b && same name card.name1) ≡ true →
        is_some (named combination_kinds card.kind) ≡ true
    typed kind name true e h = subst (λ word. is_some (named combination_kinds word) ≡ true) (same_eq (combination_text kind) card.kind e) (reported kind)
    typed kind name false e h = absurd (cc h)

    by : (before : Reading) (o : Option RowKind) → unwrap_or (option_map (λ kind. is_card_of kind before.name1 card) o) false ≡ true →
        is_some (named combination_kinds card.kind) ≡ true
    by before None h = absurd (cc h)
    by before (Some kind) h = typed kind before.name1 (same (combination_text kind) card.kind) refl h

    last : (o : Option Reading) →
        unwrap_or (option_and_then (λ before. option_map (λ kind. is_card_of kind before.name1 card) (named combination_kinds before.kind)) o) false ≡ true →
        is_some (named combination_kinds card.kind) ≡ true
    last None h = absurd (cc h)
    last (Some before) h = by before (named combination_kinds before.kind) h

-- with a row of a new name more at a place, the others are still there
inserted-still : (rows : List (Row Name)) (place : ℕ) (row : Row Name) → has_row rows row.name ≡ false → AreStill rows (insert rows place row)
inserted-still rows place row new = record {
  named = λ name there. any-inserted (λ other. same name other.name) rows place row there;
  limited =
      λ name there limited. none-inserted (λ other. same name other.name && is_free_kind other.kind) rows place row limited
      (unlike name there (same name row.name) (is_free_kind row.kind) refl);
  plain =
      λ name there plain. none-inserted (λ other. same name other.name && is_some other.parts) rows place row plain
      (unlike name there (same name row.name) (is_some row.parts) refl);
}
  where
    unlike : (name : Name) → has_row rows name ≡ true → (b passes : Bool) → same name row.name ≡ b → (b && passes) ≡ false
    unlike name there true passes e = absurd (cc (subst (λ n. has_row rows n ≡ true) (same_eq name row.name e) there, new))
    unlike name there false passes e = refl

module _ (p : Problem Name) (lawful : IsLawful p) where
  row-placed : (place : ℕ) (row : Row Name) → IfSome row.parts (AreLawfulEntries (take place p.rows)) → IsLabel row.name → has_row p.rows row.name ≡ false →
      length p.rows + 1 ≤ MAX_ROWS → IsLawful (record p { rows = insert p.rows place row })
  row-placed place row parts label new few = rows-changed p (insert p.rows place row) lawful (inserted-still p.rows place row new)
      (subst (AllByRecursion IsLabel) (sym (map-insert (λ row. row.name) p.rows place row))
      (each-insert IsLabel (row_names p) place row.name lawful.row_labels label))
      (subst (IsDistinct same) (sym (map-insert (λ row. row.name) p.rows place row))
      (distinct-insert same same_sym (row_names p) place row.name lawful.rows_distinct
      (absent-apart (row_names p) row.name (sym (row_is_named row.name p.rows) ∙ new))))
      (parts-insert p.rows row place lawful.parts parts) (omega (arith, length-inserted p.rows place row, few))

  -- the combination that a card goes on with, with the card's parts at its end
  parts-added : (card : Reading) → IsReading card → is_some (named combination_kinds card.kind) ≡ true →
      row_fields_fault p (rows_before card.name1 p.rows) card ≡ None → IsLawful (record p { rows = in_row card.name1 (λ parts. parts ++ parts_on card) p.rows })
  parts-added card reads combines fine = rows-changed p (in_row card.name1 more p.rows) lawful (in_row-still card.name1 more p.rows)
      (subst (AllByRecursion IsLabel) (sym (in_row-names card.name1 more p.rows)) lawful.row_labels)
      (subst (IsDistinct same) (sym (in_row-names card.name1 more p.rows)) lawful.rows_distinct)
      (parts-changed card.name1 more p.rows lawful.rows_distinct lawful.parts
      (λ is. pairs-lawful earlier Rows (parts_of card.name1 p.rows) 0 (part_pairs_of card) (part_pairs-short card reads)
      (parts_of-lawful card.name1 [] p.rows lawful.rows_distinct lawful.parts) parts_fine))
      (subst (λ n. n ≤ MAX_ROWS) (sym (in_row-length card.name1 more p.rows)) lawful.few_rows)
    where
      more : List (Entry Name) → List (Entry Name)
      more parts = parts ++ parts_on card

      earlier : Problem Name
      earlier = record p { rows = rows_before card.name1 p.rows }

      parts_fine : pairs_fault earlier Rows (parts_of card.name1 p.rows) 0 (part_pairs_of card) ≡ None
      parts_fine = subst (λ b. cond b (pairs_fault earlier Rows (parts_of card.name1 p.rows) 0 (part_pairs_of card)) (filled_from_3 card) ≡ None) combines fine

  -- the row that a card begins, at a place
  row-begun : (place : ℕ) (card : Reading) → IsReading card → row_fields_fault p (take place p.rows) card ≡ None → IsLabel card.name1
      → has_row p.rows card.name1 ≡ false → length p.rows + 1 ≤ MAX_ROWS
      → IsLawful (record p { rows = unwrap_or (option_map (insert p.rows place) (row_of card)) p.rows })
  row-begun place card reads fine label new few = by (named row_kinds card.kind) (named combination_kinds card.kind) fine
    where
      earlier : Problem Name
      earlier = record p { rows = take place p.rows }

      by : (o c : Option RowKind) → cond (is_some c) (pairs_fault earlier Rows (parts_of card.name1 p.rows) 0 (part_pairs_of card)) (filled_from_3 card) ≡ None
          → IsLawful (record p {
            rows = unwrap_or
                (option_map (insert p.rows place)
                (option_or (option_map (λ kind. plain_row kind card.name1) o) (option_map (λ kind. combination kind card.name1 (parts_on card)) c))) p.rows;
          })
      by (Some kind) c h = row-placed place (plain_row kind card.name1) tt label new few
      by None (Some kind) h = row-placed place (combination kind card.name1 (parts_on card))
          (pairs-lawful earlier Rows [] 0 (part_pairs_of card) (part_pairs-short card reads) (no-entries (take place p.rows))
          (subst (λ parts. pairs_fault earlier Rows parts 0 (part_pairs_of card) ≡ None) (parts_of-new card.name1 p.rows new) h)) label new few
      by None None h = lawful

  pub row-inserted : (edit : Edit) → IsReading edit.card →
      rows_fault p (goes_on_row edit.under edit.card) (earlier_rows edit.action edit.anchor edit.under edit.card p.rows) edit.card ≡ None →
      IsLawful (record p { rows = insert_row edit p.rows })
  row-inserted edit reads fine = by (goes_on_row edit.under edit.card) refl fine
    where
      place : ℕ
      place = row_place edit.action edit.anchor edit.under p.rows

      tests : (b : Bool) (earlier : List (Row Name)) → List (Option DeckFaultKind)
      tests b earlier =
          (is_none (kind_on edit.card) ⟹ BadRowType) ∷
          (is_empty edit.card.name1 ⟹ EmptyName) ∷
          (not b && has_row p.rows edit.card.name1 ⟹ DuplicateRow) ∷
          (not b && nat_le MAX_ROWS (length p.rows) ⟹ TooManyRows) ∷
          row_fields_fault p earlier edit.card ∷ []

      by : (b : Bool) → goes_on_row edit.under edit.card ≡ b → rows_fault p b (cond b (rows_before edit.card.name1 p.rows) (take place p.rows)) edit.card ≡ None
          → IsLawful (record p {
            rows = cond b (in_row edit.card.name1 (λ parts. parts ++ parts_on edit.card) p.rows)
                (unwrap_or (option_map (insert p.rows place) (row_of edit.card)) p.rows);
          })
      by true goes h =
          let t = passes (tests true (rows_before edit.card.name1 p.rows)) h in
          parts-added edit.card reads (goes_on_row-combines edit.under edit.card goes) t.1.1.1.1.0
      by false goes h =
          let t = passes (tests false (take place p.rows)) h in
          row-begun place edit.card reads t.1.1.1.1.0 (record { name_of = reads.name1; present = test_fails (is_empty edit.card.name1) EmptyName t.1.0 })
          (test_fails (has_row p.rows edit.card.name1) DuplicateRow t.1.1.0)
          (not_full MAX_ROWS (length p.rows) (test_fails (nat_le MAX_ROWS (length p.rows)) TooManyRows t.1.1.1.0))
