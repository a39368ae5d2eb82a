-- The problem of a deck in which no fault was found is a problem.
use Rattle.std.proofs.Common.{◌≡◌, ℕ, ◌+◌, ◌≤◌, Bool, true, false, cond, not, ◌&&◌, ◌||◌, List, [], ◌∷◌, ◌++◌, Option, Some, None, length, map, refl, ap₂, sym}
use Rattle.std.proofs.Common.{◌∙◌, subst, arith, is_none, is_some, nat_le, unwrap_or, bytes_eq, if◌then◌else◌}
use Rattle.std.specs.List.{AllByRecursion, IsDistinct, last_or}
use Rattle.std.specs.Option.{option_map, option_or, option_to_list, IfSome}
use Rattle.std.proofs.lemmas.List.{map-append, length-append}
use Rattle.std.proofs.lemmas.Bool.{not-false}
use Rattle.card_definitions.specs.Words.{is_empty, named, ◌⟹◌}
use Rattle.card_definitions.specs.Fields.{Reading}
use Rattle.card_definitions.specs.Numbers.{decimal_of}
use Rattle.card_definitions.proofs.FirstFaults.{passes, test_fails}
use Rattle.problem_definitions.specs.declared.TheConstants.{MAX_ROWS, MAX_COLUMNS, MAX_ENTRIES}
use Rattle.problem_definitions.specs.declared.RowKind.{RowKind}
use Rattle.problem_definitions.specs.declared.RowKind.TheVariants.{N, G, L, E}
use Rattle.problem_definitions.specs.declared.BoundKind.{BoundKind}
use Rattle.problem_definitions.specs.Names.{Name, same, marker}
use Rattle.problem_definitions.specs.Kinds.{takes_value, touches_upper, touches_lower, meet}
use Rattle.problem_definitions.specs.Problem.{Row, plain_row, combination, Entry, Bound, Group, Problem, row_names, entry_count, has_row, has_free_row}
use Rattle.problem_definitions.specs.Problem.{has_combination, has_group}
use Rattle.problem_definitions.specs.Parts.{parts_of, in_row, rows_before}
use Rattle.problem_definitions.specs.Groups.{items_of, in_set}
use Rattle.problem_definitions.specs.Valid.{IsName, IsDecimal}
use Rattle.problem_definitions.proofs.Names.{same_eq, same_sym, row_is_named}
use Rattle.problem_definitions.proofs.Each.{each-push, each-append, each-change, distinct-push, absent-apart}
use Rattle.problem_definitions.proofs.LawfulEntries.{AreLawfulEntries}
use Rattle.problem_definitions.proofs.Parts.{parts-push, parts-changed, parts_of-new, parts_of-lawful, rows_before-new, in_row-names, in_row-length}
use Rattle.problem_definitions.proofs.Lawful.{IsLabel, AreGroups, AreColumnEntries, AreRightHandSides, AreRanges, clash_by_name, AreLawfulBounds, AreBoundSets}
use Rattle.problem_definitions.proofs.Lawful.{IsLawful}
use Rattle.problem_definitions.proofs.OtherRows.{groups-same, rows-changed, in_row-still, pushed-still}
use Rattle.problem_definitions.proofs.Added.{groups-added, count-added, items-added, items_of-each, has_group-added}
use Rattle.deck_definitions.specs.declared.DeckFaultKind.TheVariants.{BadRowType, DuplicateRow, ColumnSplit, UnknownColumn, BoundTwice, EmptyName, TooManyRows}
use Rattle.deck_definitions.specs.declared.DeckFaultKind.TheVariants.{TooManyColumns, Marker, BadBoundType}
use Rattle.deck_definitions.specs.declared.Section.{Section}
use Rattle.deck_definitions.specs.declared.Section.TheVariants.{Header, Rows, Columns, Rhs, Ranges, Bounds, Endata}
use Rattle.deck_definitions.specs.DataCards.{pairs_of, part_pairs_of, entries_of, parts_on, row_kinds, combination_kinds, combination_text, kind_on, is_card_of}
use Rattle.deck_definitions.specs.DataCards.{goes_on_last, with_row, bound_kinds, row_of, bound_of, bound_group}
use Rattle.deck_definitions.specs.Tests.{kind_filled, filled_from_3, filled_from_5, marks, all_but_last, pairs_fault, row_fields_fault, row_fault}
use Rattle.deck_definitions.specs.Tests.{columns_fault, set_fault, bounds_fault, bound_fault, value_fault, bound_value_fault, is_bound_already}
use Rattle.deck_definitions.specs.Conversion.{section_fault}
use Rattle.deck_definitions.specs.Steps.{with_card, with_group}
use Rattle.deck_definitions.proofs.CardTexts.{pairs-short, part_pairs-short, text_is_decimal}
use Rattle.deck_definitions.specs.Readings.{IsReading}
use Rattle.deck_definitions.proofs.Accepted.{pairs-lawful, pairs-limited, pairs-plain, pairs-few, pairs-unmarked, added_some, not_full, no_value_fault}

-- ---- ROWS

-- a card that goes on with a combination has the type of one
goes-on-combines : (rows : List (Row Name)) (card : Reading) → goes_on_last rows card ≡ true → is_some (named combination_kinds card.kind) ≡ true
goes-on-combines rows card goes = last (last_or None rows) goes
  where
    typed : (kind : RowKind) → bytes_eq (combination_text kind) card.kind ≡ true → is_some (named combination_kinds (combination_text kind)) ≡ true →
        is_some (named combination_kinds card.kind) ≡ true
    typed kind e there = subst (λ word. is_some (named combination_kinds word) ≡ true) (same_eq (combination_text kind) card.kind e) there

    known : (kind : RowKind) → is_some (named combination_kinds (combination_text kind)) ≡ true
    known N = refl
    known G = refl
    known L = refl
    known E = refl

    first : (a b c : Bool) → (a && (b && c)) ≡ true → b ≡ true
    first true true c h = refl
    first true false c h = h
    first false b c h = absurd (cc h)

    last : (o : Option (Row Name)) → unwrap_or (option_map (λ (row : Row Name). is_some row.parts && is_card_of row.kind row.name card) o) false ≡ true →
        is_some (named combination_kinds card.kind) ≡ true
    last None h = absurd (cc h)
    last (Some row) h =
        typed row.kind (first (is_some row.parts) (bytes_eq (combination_text row.kind) card.kind) (same row.name card.name1) h) (known row.kind)

module _ (p : Problem Name) (lawful : IsLawful p) where
  row-added : (row : Row Name) → IfSome row.parts (AreLawfulEntries p.rows) → IsLabel row.name → has_row p.rows row.name ≡ false →
      length p.rows + 1 ≤ MAX_ROWS → IsLawful (record p { rows = p.rows ++ row ∷ [] })
  row-added row parts label new few = rows-changed p (p.rows ++ row ∷ []) lawful (pushed-still p.rows row new)
      (subst (AllByRecursion IsLabel) named_rows (each-push IsLabel (row_names p) row.name lawful.row_labels label))
      (subst (IsDistinct same) named_rows
      (distinct-push same (row_names p) row.name lawful.rows_distinct (absent-apart (row_names p) row.name (sym (row_is_named row.name p.rows) ∙ new))))
      (parts-push [] p.rows row lawful.parts parts)
      (let long : length (p.rows ++ row ∷ []) ≡ length p.rows + 1 = length-append p.rows (row ∷ []) in omega (arith, long, few))
    where
      named_rows : row_names p ++ row.name ∷ [] ≡ map (λ row. row.name) (p.rows ++ row ∷ [])
      named_rows = sym (map-append (λ row. row.name) p.rows (row ∷ []))

  -- a combination with more parts, lawful after those that it has
  parts-added : (name : Name) (more : List (Entry Name)) → AreLawfulEntries (rows_before name p.rows) (parts_of name p.rows ++ more) →
      IsLawful (record p { rows = in_row name (λ parts. parts ++ more) p.rows })
  parts-added name more new = rows-changed p (in_row name (λ parts. parts ++ more) p.rows) lawful (in_row-still name (λ parts. parts ++ more) p.rows)
      (subst (AllByRecursion IsLabel) (sym (in_row-names name (λ parts. parts ++ more) p.rows)) lawful.row_labels)
      (subst (IsDistinct same) (sym (in_row-names name (λ parts. parts ++ more) p.rows)) lawful.rows_distinct)
      (parts-changed name (λ parts. parts ++ more) p.rows lawful.rows_distinct lawful.parts (λ there. new))
      (subst (λ n. n ≤ MAX_ROWS) (sym (in_row-length name (λ parts. parts ++ more) p.rows)) lawful.few_rows)

  module _ (card : Reading) (reads : IsReading card) where
    -- the parts of the card's row, with those on the card
    more_parts : pairs_fault (record p { rows = rows_before card.name1 p.rows }) Rows (parts_of card.name1 p.rows) 0 (part_pairs_of card) ≡ None
        → AreLawfulEntries (rows_before card.name1 p.rows) (parts_of card.name1 p.rows ++ parts_on card)
    more_parts fine =
        pairs-lawful (record p { rows = rows_before card.name1 p.rows }) Rows (parts_of card.name1 p.rows) 0 (part_pairs_of card) (part_pairs-short card reads)
        (parts_of-lawful card.name1 [] p.rows lawful.rows_distinct lawful.parts) fine

    rows-step : row_fault p card ≡ None → IsLawful (record p { rows = with_row p.rows card })
    rows-step fine =
        let t = passes (
        (is_none (kind_on card) ⟹ BadRowType) ∷
        (is_empty card.name1 ⟹ EmptyName) ∷
        (not (goes_on_last p.rows card) && has_row p.rows card.name1 ⟹ DuplicateRow) ∷
        (not (goes_on_last p.rows card) && nat_le MAX_ROWS (length p.rows) ⟹ TooManyRows) ∷
        row_fields_fault p (rows_before card.name1 p.rows) card ∷ []) fine in
        on (goes_on_last p.rows card) refl (test_fails (is_none (kind_on card)) BadRowType t.0) (test_fails (is_empty card.name1) EmptyName t.1.0)
        (test_fails (not (goes_on_last p.rows card) && has_row p.rows card.name1) DuplicateRow t.1.1.0)
        (test_fails (not (goes_on_last p.rows card) && nat_le MAX_ROWS (length p.rows)) TooManyRows t.1.1.1.0) t.1.1.1.1.0
      where
        label : is_empty card.name1 ≡ false → IsLabel card.name1
        label empty = record { name_of = reads.name1; present = empty }

        -- the row that a card begins, by its type
        begun : (plain combines : Option RowKind) → is_none (option_or plain combines) ≡ false → is_empty card.name1 ≡ false → has_row p.rows card.name1 ≡ false
            → length p.rows + 1 ≤ MAX_ROWS
            → (if is_some combines then pairs_fault (record p { rows = rows_before card.name1 p.rows }) Rows (parts_of card.name1 p.rows) 0
            (part_pairs_of card) else filled_from_3 card) ≡ None
            → IsLawful (record p {
              rows = p.rows ++ option_to_list
                  (option_or (option_map (λ kind. plain_row kind card.name1) plain)
                  (option_map (λ kind. combination kind card.name1 (parts_on card)) combines));
            })
        begun None None none empty new few fields = absurd (cc none)
        begun (Some kind) combines none empty new few fields = row-added (plain_row kind card.name1) tt (label empty) new few
        begun None (Some kind) none empty new few fields = row-added (combination kind card.name1 (parts_on card))
            (subst (λ old. AreLawfulEntries p.rows (old ++ parts_on card)) (parts_of-new card.name1 p.rows new)
            (subst (λ earlier. AreLawfulEntries earlier (parts_of card.name1 p.rows ++ parts_on card)) (rows_before-new card.name1 p.rows new)
            (more_parts fields)))
            (label empty) new few

        on : (b : Bool) → goes_on_last p.rows card ≡ b → is_none (kind_on card) ≡ false → is_empty card.name1 ≡ false
            → (not b && has_row p.rows card.name1) ≡ false
            → (not b && nat_le MAX_ROWS (length p.rows)) ≡ false → row_fields_fault p (rows_before card.name1 p.rows) card ≡ None
            → IsLawful (record p { rows = if b then in_row card.name1 (λ parts. parts ++ parts_on card) p.rows else p.rows ++ option_to_list (row_of card) })
        on true goes none empty new few fields = parts-added card.name1 (parts_on card) (more_parts (subst
            (λ b. (if b then pairs_fault (record p { rows = rows_before card.name1 p.rows }) Rows (parts_of card.name1 p.rows) 0
            (part_pairs_of card) else filled_from_3 card) ≡ None)
            (goes-on-combines p.rows card goes) fields))
        on false goes none empty new few fields =
            begun (named row_kinds card.kind) (named combination_kinds card.kind) none empty new (not_full MAX_ROWS (length p.rows) few) fields

    -- no entries are lawful entries
    no_entries : AreLawfulEntries p.rows []
    unfolding IsDistinct
    no_entries = record { on_rows = tt; distinct = tt; values = tt }

    -- the entries of a name, with those of the card
    more_entries : {P : List (Entry Name) → Type 0} {N : Name → Type 0} (section : Section) (count : ℕ) (groups : List (Group (Entry Name)))
        → AreGroups N P groups → ((items : List (Entry Name)) → P items → AreLawfulEntries p.rows items)
        → pairs_fault p section (items_of card.name1 groups) count (pairs_of card) ≡ None
        → AreLawfulEntries p.rows (items_of card.name1 groups ++ entries_of card)
    more_entries {P} section count groups known part fine = pairs-lawful p section (items_of card.name1 groups) count (pairs_of card) (pairs-short card reads)
        (items_of-each card.name1 (AreLawfulEntries p.rows) no_entries groups known.distinct
        (each-change (λ (group : Group (Entry Name)). P group.items) (λ group. AreLawfulEntries p.rows group.items)
        (λ group c. part group.items c) groups known.items)) fine

    -- ---- COLUMNS

    columns-step : columns_fault p card ≡ None → IsLawful (record p { columns = in_set card.name1 (λ items. items ++ entries_of card) p.columns })
    columns-step fine =
        let t = passes (
        kind_filled card ∷
        marks card ∷
        (is_empty card.name1 ⟹ EmptyName) ∷
        (has_group (all_but_last p.columns) card.name1 ⟹ ColumnSplit) ∷
        (not (has_group p.columns card.name1) && nat_le MAX_COLUMNS (length p.columns) ⟹ TooManyColumns) ∷
        pairs_fault p Columns (items_of card.name1 p.columns) (entry_count p) (pairs_of card) ∷ []) fine in
        let unmarked : (same marker card.name2 || same marker card.name3) ≡ false =
        test_fails (same marker card.name2 || same marker card.name3) Marker t.1.0 in
        let label : IsLabel card.name1 = record { name_of = reads.name1; present = test_fails (is_empty card.name1) EmptyName t.1.1.0 } in
        let new : AreColumnEntries p.rows (items_of card.name1 p.columns ++ entries_of card) = record {
          entries_lawful =
              more_entries {P = AreColumnEntries p.rows} Columns (entry_count p) p.columns lawful.columns (λ items c. c.entries_lawful) t.1.1.1.1.1.0;
          no_marker = each-append (λ (entry : Entry Name). same marker entry.row ≡ false) (items_of card.name1 p.columns) (entries_of card)
              (items_of-each card.name1 (AllByRecursion (λ (entry : Entry Name). same marker entry.row ≡ false)) tt p.columns lawful.columns.distinct
              (each-change (λ (group : Group (Entry Name)). AreColumnEntries p.rows group.items)
              (λ group. AllByRecursion (λ (entry : Entry Name). same marker entry.row ≡ false) group.items)
              (λ group c. c.no_marker) p.columns lawful.columns.items))
              (pairs-unmarked card unmarked);
          plain = each-append (λ (entry : Entry Name). has_combination p.rows entry.row ≡ false) (items_of card.name1 p.columns) (entries_of card)
              (items_of-each card.name1 (AllByRecursion (λ (entry : Entry Name). has_combination p.rows entry.row ≡ false)) tt p.columns lawful.columns.distinct
              (each-change (λ (group : Group (Entry Name)). AreColumnEntries p.rows group.items)
              (λ group. AllByRecursion (λ (entry : Entry Name). has_combination p.rows entry.row ≡ false) group.items)
              (λ group c. c.plain) p.columns lawful.columns.items))
              (pairs-plain p Columns (items_of card.name1 p.columns) (entry_count p) (pairs_of card) refl t.1.1.1.1.1.0);
        } in
        let total = items-added card.name1 (entries_of card) p.columns lawful.columns.distinct in
        let few : entry_count p + length (entries_of card) ≤ MAX_ENTRIES =
        pairs-few p Columns (items_of card.name1 p.columns) (entry_count p) (pairs_of card) refl lawful.few_entries t.1.1.1.1.1.0 in
        record {
          row_labels = lawful.row_labels;
          rows_distinct = lawful.rows_distinct;
          parts = lawful.parts;
          columns = groups-added card.name1 IsLabel (AreColumnEntries p.rows) (entries_of card) p.columns lawful.columns label new;
          rhs = lawful.rhs;
          ranges = lawful.ranges;
          bounds =
              groups-same (AreBoundSets p.columns)
              (AreBoundSets (in_set card.name1 (λ items. items ++ entries_of card) p.columns)) bounds-kept p.bounds lawful.bounds;
          few_rows = lawful.few_rows;
          few_columns = subst (λ n. n ≤ MAX_COLUMNS) (sym (count-added card.name1 (λ items. items ++ entries_of card) p.columns))
              (few_names (has_group p.columns card.name1)
              (test_fails (not (has_group p.columns card.name1) && nat_le MAX_COLUMNS (length p.columns)) TooManyColumns t.1.1.1.1.0));
          few_entries = subst (λ n. n ≤ MAX_ENTRIES) (sym total) few;
        }
      where
        few_names : (b : Bool) → (not b && nat_le MAX_COLUMNS (length p.columns)) ≡ false → cond b (length p.columns) (length p.columns + 1) ≤ MAX_COLUMNS
        few_names true h = lawful.few_columns
        few_names false h = not_full MAX_COLUMNS (length p.columns) h

        bounds-kept : (bounds : List (Bound Name)) → AreBoundSets p.columns bounds →
            AreBoundSets (in_set card.name1 (λ items. items ++ entries_of card) p.columns) bounds
        bounds-kept bounds c = record {
          bounds_lawful = record {
            on_columns =
                each-change (λ (bound : Bound Name). has_group p.columns bound.column ≡ true)
                (λ bound. has_group (in_set card.name1 (λ items. items ++ entries_of card) p.columns) bound.column ≡ true)
                (λ bound there. has_group-added card.name1 (λ items. items ++ entries_of card) p.columns bound.column there) bounds c.bounds_lawful.on_columns;
            apart = c.bounds_lawful.apart;
            valued = c.bounds_lawful.valued;
            values = c.bounds_lawful.values;
          };
          filled = c.filled;
        }

    -- ---- RHS and RANGES

    rhs-step : set_fault p Rhs p.rhs card ≡ None → IsLawful (record p { rhs = in_set card.name1 (λ items. items ++ entries_of card) p.rhs })
    rhs-step fine =
        let t = passes (kind_filled card ∷ pairs_fault p Rhs (items_of card.name1 p.rhs) 0 (pairs_of card) ∷ []) fine in
        record {
          row_labels = lawful.row_labels;
          rows_distinct = lawful.rows_distinct;
          parts = lawful.parts;
          columns = lawful.columns;
          rhs = groups-added card.name1 IsName (AreRightHandSides p.rows) (entries_of card) p.rhs lawful.rhs reads.name1 (record {
            entries_lawful = more_entries {P = AreRightHandSides p.rows} Rhs 0 p.rhs lawful.rhs (λ items c. c.entries_lawful) t.1.0;
            filled = added_some (items_of card.name1 p.rhs) card;
          });
          ranges = lawful.ranges;
          bounds = lawful.bounds;
          few_rows = lawful.few_rows;
          few_columns = lawful.few_columns;
          few_entries = lawful.few_entries;
        }

    ranges-step : set_fault p Ranges p.ranges card ≡ None → IsLawful (record p { ranges = in_set card.name1 (λ items. items ++ entries_of card) p.ranges })
    ranges-step fine =
        let t = passes (kind_filled card ∷ pairs_fault p Ranges (items_of card.name1 p.ranges) 0 (pairs_of card) ∷ []) fine in
        record {
          row_labels = lawful.row_labels;
          rows_distinct = lawful.rows_distinct;
          parts = lawful.parts;
          columns = lawful.columns;
          rhs = lawful.rhs;
          ranges = groups-added card.name1 IsName (AreRanges p.rows) (entries_of card) p.ranges lawful.ranges reads.name1 (record {
            entries_lawful = more_entries {P = AreRanges p.rows} Ranges 0 p.ranges lawful.ranges (λ items c. c.entries_lawful) t.1.0;
            filled = added_some (items_of card.name1 p.ranges) card;
            limited = each-append (λ (entry : Entry Name). has_free_row p.rows entry.row ≡ false) (items_of card.name1 p.ranges) (entries_of card)
                (items_of-each card.name1 (AllByRecursion (λ (entry : Entry Name). has_free_row p.rows entry.row ≡ false)) tt p.ranges lawful.ranges.distinct
                (each-change (λ (group : Group (Entry Name)). AreRanges p.rows group.items)
                (λ group. AllByRecursion (λ (entry : Entry Name). has_free_row p.rows entry.row ≡ false) group.items)
                (λ group c. c.limited) p.ranges lawful.ranges.items))
                (pairs-limited p Ranges (items_of card.name1 p.ranges) 0 (pairs_of card) refl t.1.0);
          });
          bounds = lawful.bounds;
          few_rows = lawful.few_rows;
          few_columns = lawful.few_columns;
          few_entries = lawful.few_entries;
        }

    -- ---- BOUNDS

    no_bounds : AreLawfulBounds p.columns []
    unfolding IsDistinct
    no_bounds = record { on_columns = tt; apart = tt; valued = tt; values = tt }

    -- the bounds of a name, with that of the card
    more_bounds : (kind : BoundKind) → bound_fault p card kind ≡ None → AreBoundSets p.columns (items_of card.name1 p.bounds ++ bound_of card kind ∷ [])
    more_bounds kind fine =
        let t = passes (
        (is_empty card.name2 ⟹ EmptyName) ∷
        (not (has_group p.columns card.name2) ⟹ UnknownColumn) ∷
        (is_bound_already (items_of card.name1 p.bounds) card.name2 kind ⟹ BoundTwice) ∷
        bound_value_fault card kind ∷
        filled_from_5 card ∷ []) fine in
        let known : AreLawfulBounds p.columns (items_of card.name1 p.bounds)
        = items_of-each card.name1 (AreLawfulBounds p.columns) no_bounds p.bounds lawful.bounds.distinct
        (each-change (λ (group : Group (Bound Name)). AreBoundSets p.columns group.items) (λ group. AreLawfulBounds p.columns group.items)
        (λ group c. c.bounds_lawful) p.bounds lawful.bounds.items) in
        let value = valued (takes_value kind) t.1.1.1.0 in
        record {
          bounds_lawful = record {
            on_columns =
                each-push (λ (bound : Bound Name). has_group p.columns bound.column ≡ true) (items_of card.name1 p.bounds) (bound_of card kind) known.on_columns
                (not-false (has_group p.columns card.name2) (test_fails (not (has_group p.columns card.name2)) UnknownColumn t.1.0));
            apart = distinct-push clash_by_name (items_of card.name1 p.bounds) (bound_of card kind) known.apart
                (apart_from (items_of card.name1 p.bounds) (test_fails (is_bound_already (items_of card.name1 p.bounds) card.name2 kind) BoundTwice t.1.1.0));
            valued =
                each-push (λ (bound : Bound Name). is_some bound.value ≡ takes_value bound.kind) (items_of card.name1 p.bounds)
                (bound_of card kind) known.valued value.0;
            values = each-push (λ (bound : Bound Name). IfSome bound.value IsDecimal) (items_of card.name1 p.bounds) (bound_of card kind) known.values value.1;
          };
          filled = some (items_of card.name1 p.bounds);
        }
      where
        some : (items : List (Bound Name)) → is_empty (items ++ bound_of card kind ∷ []) ≡ false
        some [] = refl
        some (item ∷ items) = refl

        and_sym : (x y : Bool) → (x && y) ≡ (y && x)
        and_sym true true = refl
        and_sym true false = refl
        and_sym false true = refl
        and_sym false false = refl

        meet_sym : (a b : BoundKind) → meet a b ≡ meet b a
        meet_sym a b = ap₂ (λ x y. x || y) (and_sym (touches_upper a) (touches_upper b)) (and_sym (touches_lower a) (touches_lower b))

        apart_from : (items : List (Bound Name)) → is_bound_already items card.name2 kind ≡ false →
            AllByRecursion (λ (bound : Bound Name). clash_by_name bound (bound_of card kind) ≡ false) items
        apart_from [] h = tt
        apart_from (bound ∷ items) h = by (same card.name2 bound.column && meet kind bound.kind) refl h (apart_from items)
          where
            by : (b : Bool) → (same card.name2 bound.column && meet kind bound.kind) ≡ b → (b || is_bound_already items card.name2 kind) ≡ false
                → (is_bound_already items card.name2 kind ≡ false
                → AllByRecursion (λ (bound : Bound Name). clash_by_name bound (bound_of card kind) ≡ false) items)
                → ((same bound.column card.name2 && meet bound.kind kind) ≡ false) × AllByRecursion
                (λ (bound : Bound Name). clash_by_name bound (bound_of card kind) ≡ false) items
            by true e h rest = absurd (cc h)
            by false e h rest = (ap₂ (λ x y. x && y) (same_sym bound.column card.name2) (meet_sym bound.kind kind) ∙ e, rest h)

        valued : (b : Bool) → cond b (value_fault card.value1_column card.value1) None ≡ None
            → (is_some (cond b (Some (decimal_of card.value1)) None) ≡ b) × IfSome (cond b (Some (decimal_of card.value1)) None) IsDecimal
        valued true h = (refl, text_is_decimal card.value1 reads.value1 (no_value_fault card.value1_column card.value1 h))
        valued false h = (refl, tt)

    bounds-step : bounds_fault p card ≡ None → IsLawful (record p { bounds = with_group (bound_group card) p.bounds })
    bounds-step fine = by (named bound_kinds card.kind) refl
      where
        by : (o : Option BoundKind) → named bound_kinds card.kind ≡ o
            → IsLawful (record p { bounds = with_group (option_map (λ kind. record { name = card.name1; items = bound_of card kind ∷ [] }) o) p.bounds })
        by None e =
            let refused : bounds_fault p card ≡ Some BadBoundType = rw e refl in
            absurd (cc (refused, fine))
        by (Some kind) e =
            let tested : bounds_fault p card ≡ bound_fault p card kind = rw e refl in
            record {
              row_labels = lawful.row_labels;
              rows_distinct = lawful.rows_distinct;
              parts = lawful.parts;
              columns = lawful.columns;
              rhs = lawful.rhs;
              ranges = lawful.ranges;
              bounds =
                  groups-added card.name1 IsName (AreBoundSets p.columns) (bound_of card kind ∷ []) p.bounds lawful.bounds reads.name1
                  (more_bounds kind (sym tested ∙ fine));
              few_rows = lawful.few_rows;
              few_columns = lawful.few_columns;
              few_entries = lawful.few_entries;
            }

    -- An accepted data card keeps what holds of the problem.
    pub card-step : (place : Section) → section_fault p place card ≡ None → IsLawful (with_card place card p)
    card-step Header fine = absurd (cc fine)
    card-step Rows fine = rows-step fine
    card-step Columns fine = columns-step fine
    card-step Rhs fine = rhs-step fine
    card-step Ranges fine = ranges-step fine
    card-step Bounds fine = bounds-step fine
    card-step Endata fine = absurd (cc fine)
