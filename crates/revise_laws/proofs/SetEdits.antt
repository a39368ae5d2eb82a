-- The edits of sets of right-hand sides, ranges and bounds keep a problem lawful.
use Rattle.std.proofs.Common.{◌≡◌, Bool, true, false, cond, not, ◌&&◌, ◌||◌, List, [], ◌∷◌, ◌++◌, Option, Some, None, map, refl, ap₂, sym, ◌∙◌, is_some}
use Rattle.std.proofs.Common.{unwrap_or}
use Rattle.std.specs.List.{AllByRecursion, IsDistinct, filter}
use Rattle.std.specs.Option.{option_map, IfSome}
use Rattle.std.proofs.lemmas.Bool.{not-false}
use Rattle.card_definitions.specs.Words.{is_empty, named, ◌⟹◌}
use Rattle.card_definitions.specs.Fields.{Reading}
use Rattle.card_definitions.specs.Numbers.{decimal_of}
use Rattle.card_definitions.proofs.FirstFaults.{passes, test_fails}
use Rattle.problem_definitions.specs.declared.BoundKind.{BoundKind}
use Rattle.problem_definitions.specs.Names.{Name, same}
use Rattle.problem_definitions.specs.Kinds.{takes_value, touches_upper, touches_lower, meet}
use Rattle.problem_definitions.specs.Problem.{Entry, Bound, Group, Problem, has_free_row, has_group}
use Rattle.problem_definitions.specs.Groups.{items_of, in_group, in_set, without_group, filled}
use Rattle.problem_definitions.specs.Valid.{IsName, IsDecimal}
use Rattle.problem_definitions.proofs.Names.{same_sym}
use Rattle.problem_definitions.proofs.Each.{each-push, each-change, distinct-push}
use Rattle.problem_definitions.proofs.LawfulEntries.{AreLawfulEntries}
use Rattle.problem_definitions.proofs.Lawful.{AreGroups, AreRightHandSides, AreRanges, clash_by_name, AreLawfulBounds, AreBoundSets, IsLawful}
use Rattle.problem_definitions.proofs.OtherRows.{groups-same}
use Rattle.problem_definitions.proofs.Added.{items_of-each}
use Rattle.deck_definitions.specs.declared.DeckFaultKind.TheVariants.{UnknownColumn, EmptyName}
use Rattle.deck_definitions.specs.declared.Section.TheVariants.{Rhs, Ranges}
use Rattle.deck_definitions.specs.DataCards.{entry_of, pairs_of, entries_of, bound_kinds, bound_of}
use Rattle.deck_definitions.specs.Tests.{kind_filled, filled_from_5, value_fault, bound_value_fault, of_bound_type}
use Rattle.deck_definitions.proofs.CardTexts.{pairs-short, text_is_decimal}
use Rattle.deck_definitions.specs.Readings.{IsReading}
use Rattle.deck_definitions.proofs.Accepted.{no_value_fault}
use Rattle.revise_definitions.specs.Edits.{put_entries, put_bound, without_row, without_column, delete_items}
use Rattle.revise_definitions.specs.Tests.{puts_fault, modify_sets_fault, modify_bound_fault}
use Rattle.revise_laws.proofs.Lists.{each-filter, each-passes, distinct-filter, groups-changed, groups-set, groups-without, groups-filled}
use Rattle.revise_laws.proofs.Puts.{Fits, no-entries, puts-each, puts-lawful, puts-fit, puts-filled}
use Rattle.revise_laws.proofs.ColumnEdits.{entries-fewer}

-- the sets of a section without one, or without some of its items
sets-deleted : {X : Type 0} {N : Name → Type 0} (I J : List X → Type 0) (without : Name → List X → List X) → ((items : List X) → I items → J items)
    → ((name : Name) (items : List X) → J items → J (without name items)) → J []
    → ((items : List X) → J items → is_empty items ≡ false → I items) → (card : Reading) (sets : List (Group X)) → AreGroups N I sets
    → AreGroups N I (delete_items without card sets)
sets-deleted {X} {N} I J without part fewer none fill card sets lawful = by (is_empty card.name2)
  where
    weaker : AreGroups N J sets
    weaker = groups-same I J part sets lawful

    by : (b : Bool) → AreGroups N I (cond b (without_group card.name1 sets) (filled (in_group card.name1 (without card.name2) sets)))
    by true = groups-without card.name1 I I (λ items i. i) sets lawful
    by false = groups-filled J I fill (in_group card.name1 (without card.name2) sets)
        (groups-changed card.name1 J J (without card.name2) sets weaker (λ items j. j)
        (fewer card.name2 (items_of card.name1 sets) (items_of-each card.name1 J none sets weaker.distinct weaker.items)))

module _ (p : Problem Name) (lawful : IsLawful p) where
  with_rhs : (sets : List (Group (Entry Name))) → AreGroups IsName (AreRightHandSides p.rows) sets → IsLawful (record p { rhs = sets })
  with_rhs sets are = record {
    row_labels = lawful.row_labels;
    rows_distinct = lawful.rows_distinct;
    parts = lawful.parts;
    columns = lawful.columns;
    rhs = are;
    ranges = lawful.ranges;
    bounds = lawful.bounds;
    few_rows = lawful.few_rows;
    few_columns = lawful.few_columns;
    few_entries = lawful.few_entries;
  }

  with_ranges : (sets : List (Group (Entry Name))) → AreGroups IsName (AreRanges p.rows) sets → IsLawful (record p { ranges = sets })
  with_ranges sets are = record {
    row_labels = lawful.row_labels;
    rows_distinct = lawful.rows_distinct;
    parts = lawful.parts;
    columns = lawful.columns;
    rhs = lawful.rhs;
    ranges = are;
    bounds = lawful.bounds;
    few_rows = lawful.few_rows;
    few_columns = lawful.few_columns;
    few_entries = lawful.few_entries;
  }

  with_bounds : (sets : List (Group (Bound Name))) → AreGroups IsName (AreBoundSets p.columns) sets → IsLawful (record p { bounds = sets })
  with_bounds sets are = record {
    row_labels = lawful.row_labels;
    rows_distinct = lawful.rows_distinct;
    parts = lawful.parts;
    columns = lawful.columns;
    rhs = lawful.rhs;
    ranges = lawful.ranges;
    bounds = are;
    few_rows = lawful.few_rows;
    few_columns = lawful.few_columns;
    few_entries = lawful.few_entries;
  }

  -- entries on rows that aren't free
  record AreLimited (entries : List (Entry Name)) : Type 0 where
    entries_lawful : AreLawfulEntries p.rows entries
    limited : AllByRecursion (λ (entry : Entry Name). has_free_row p.rows entry.row ≡ false) entries

  fit-limited : (entries : List (Entry Name)) → AllByRecursion (Fits p Ranges) entries →
      AllByRecursion (λ (entry : Entry Name). has_free_row p.rows entry.row ≡ false) entries
  fit-limited [] fit = tt
  fit-limited (entry ∷ entries) fit = (fit.0.unfree, fit-limited entries fit.1)

  module _ (card : Reading) where
    -- a card has a pair, so what it is put into isn't empty
    card-fills : (entries : List (Entry Name)) → is_empty (put_entries (entries_of card) entries) ≡ false
    card-fills entries = puts-filled (record { row = card.name2; value = decimal_of card.value1 })
        (map entry_of
        (cond (is_empty card.name3 && is_empty card.value2) []
        (record { row = card.name3; value = card.value2; column = card.value2_column } ∷ []))) entries

    -- ---- RHS and RANGES

    pub rhs-modified : IsReading card → modify_sets_fault p Rhs card ≡ None →
        IsLawful (record p { rhs = in_set card.name1 (put_entries (entries_of card)) p.rhs })
    rhs-modified reads fine =
        let t = passes (kind_filled card ∷ puts_fault p Rhs [] 0 (pairs_of card) ∷ []) fine in
        let known : AreLawfulEntries p.rows (items_of card.name1 p.rhs) =
        items_of-each card.name1 (AreLawfulEntries p.rows) (no-entries p.rows) p.rhs lawful.rhs.distinct
        (each-change (λ (set : Group (Entry Name)). AreRightHandSides p.rows set.items) (λ set. AreLawfulEntries p.rows set.items)
        (λ set c. c.entries_lawful) p.rhs lawful.rhs.items) in
        with_rhs _ (groups-set card.name1 (AreRightHandSides p.rows) (put_entries (entries_of card)) p.rhs lawful.rhs reads.name1 (record {
          entries_lawful =
              puts-lawful p Rhs (entries_of card) (items_of card.name1 p.rhs) (puts-fit p Rhs [] 0 (pairs_of card) (pairs-short card reads) t.1.0) known;
          filled = card-fills (items_of card.name1 p.rhs);
        }))

    pub rhs-deleted : IsLawful (record p { rhs = delete_items without_row card p.rhs })
    rhs-deleted =
        with_rhs _ (sets-deleted (AreRightHandSides p.rows) (AreLawfulEntries p.rows) without_row (λ items c. c.entries_lawful) (entries-fewer p)
        (no-entries p.rows) (λ items c e. record { entries_lawful = c; filled = e }) card p.rhs lawful.rhs)

    pub ranges-modified : IsReading card → modify_sets_fault p Ranges card ≡ None →
        IsLawful (record p { ranges = in_set card.name1 (put_entries (entries_of card)) p.ranges })
    ranges-modified reads fine =
        let t = passes (kind_filled card ∷ puts_fault p Ranges [] 0 (pairs_of card) ∷ []) fine in
        let fit = puts-fit p Ranges [] 0 (pairs_of card) (pairs-short card reads) t.1.0 in
        let known : AreLimited (items_of card.name1 p.ranges) =
        items_of-each card.name1 AreLimited (record { entries_lawful = no-entries p.rows; limited = tt }) p.ranges lawful.ranges.distinct
        (each-change (λ (set : Group (Entry Name)). AreRanges p.rows set.items) (λ set. AreLimited set.items)
        (λ set c. record { entries_lawful = c.entries_lawful; limited = c.limited }) p.ranges lawful.ranges.items) in
        with_ranges _ (groups-set card.name1 (AreRanges p.rows) (put_entries (entries_of card)) p.ranges lawful.ranges reads.name1 (record {
          entries_lawful = puts-lawful p Ranges (entries_of card) (items_of card.name1 p.ranges) fit known.entries_lawful;
          filled = card-fills (items_of card.name1 p.ranges);
          limited =
              puts-each (λ (entry : Entry Name). has_free_row p.rows entry.row ≡ false) (entries_of card) (items_of card.name1 p.ranges)
              (fit-limited (entries_of card) fit) known.limited;
        }))

    pub ranges-deleted : IsLawful (record p { ranges = delete_items without_row card p.ranges })
    ranges-deleted =
        with_ranges _ (sets-deleted (AreRanges p.rows) AreLimited without_row (λ items c. record { entries_lawful = c.entries_lawful; limited = c.limited })
        (λ name items c. record {
          entries_lawful = entries-fewer p name items c.entries_lawful;
          limited = each-filter
              (λ (entry : Entry Name). has_free_row p.rows entry.row ≡ false) (λ entry. not (same name entry.row)) items c.limited;
        })
        (record { entries_lawful = no-entries p.rows; limited = tt })
        (λ items c e. record { entries_lawful = c.entries_lawful; filled = e; limited = c.limited }) card p.ranges lawful.ranges)

    -- ---- BOUNDS

    no_bounds : AreLawfulBounds p.columns []
    unfolding IsDistinct
    no_bounds = record { on_columns = tt; apart = tt; valued = tt; values = tt }

    bounds-fewer : (test : Bound Name → Bool) (bounds : List (Bound Name)) → AreLawfulBounds p.columns bounds → AreLawfulBounds p.columns (filter test bounds)
    bounds-fewer test bounds c = record {
      on_columns = each-filter (λ (bound : Bound Name). has_group p.columns bound.column ≡ true) test bounds c.on_columns;
      apart = distinct-filter clash_by_name test bounds c.apart;
      valued = each-filter (λ (bound : Bound Name). is_some bound.value ≡ takes_value bound.kind) test bounds c.valued;
      values = each-filter (λ (bound : Bound Name). IfSome bound.value IsDecimal) test bounds c.values;
    }

    -- a bound at the end of those that touch none of its ends
    bound-put : (kind : BoundKind) (bounds : List (Bound Name)) → IsReading card → modify_bound_fault p card kind ≡ None → AreLawfulBounds p.columns bounds →
        AreBoundSets p.columns (put_bound (bound_of card kind) bounds)
    bound-put kind bounds reads fine c =
        let t = passes (
        (is_empty card.name2 ⟹ EmptyName) ∷
        (not (has_group p.columns card.name2) ⟹ UnknownColumn) ∷
        bound_value_fault card kind ∷
        filled_from_5 card ∷ []) fine in
        let left = bounds-fewer (λ other. not (same card.name2 other.column && meet kind other.kind)) bounds c in
        let value = valued (takes_value kind) t.1.1.0 in
        record {
          bounds_lawful = record {
            on_columns =
                each-push (λ (bound : Bound Name). has_group p.columns bound.column ≡ true) kept (bound_of card kind) left.on_columns
                (not-false (has_group p.columns card.name2) (test_fails (not (has_group p.columns card.name2)) UnknownColumn t.1.0));
            apart = distinct-push clash_by_name kept (bound_of card kind) left.apart
                (each-passes (λ bound. Unit {0}) (λ (bound : Bound Name). clash_by_name bound (bound_of card kind) ≡ false)
                (λ other. not (same card.name2 other.column && meet kind other.kind)) (λ bound u e. turned bound e) bounds (nothing bounds));
            valued = each-push (λ (bound : Bound Name). is_some bound.value ≡ takes_value bound.kind) kept (bound_of card kind) left.valued value.0;
            values = each-push (λ (bound : Bound Name). IfSome bound.value IsDecimal) kept (bound_of card kind) left.values value.1;
          };
          filled = some kept;
        }
      where
        kept : List (Bound Name)
        kept = filter (λ other. not (same card.name2 other.column && meet kind other.kind)) bounds

        nothing : (list : List (Bound Name)) → AllByRecursion (λ (bound : Bound Name). Unit {0}) list
        nothing [] = tt
        nothing (bound ∷ list) = (tt, nothing list)

        some : (items : List (Bound Name)) → is_empty (items ++ bound_of card kind ∷ []) ≡ false
        some [] = refl
        some (item ∷ items) = refl

        and_sym : (x y : Bool) → (x && y) ≡ (y && x)
        and_sym true true = refl
        and_sym true false = refl
        and_sym false true = refl
        and_sym false false = refl

        meet_sym : (a b : BoundKind) → meet a b ≡ meet b a
        meet_sym a b = ap₂ (λ x y. x || y) (and_sym (touches_upper a) (touches_upper b)) (and_sym (touches_lower a) (touches_lower b))

        is_false : (b : Bool) → not b ≡ true → b ≡ false
        is_false true e = absurd (cc e)
        is_false false e = refl

        turned : (bound : Bound Name) → not (same card.name2 bound.column && meet kind bound.kind) ≡ true →
            (same bound.column card.name2 && meet bound.kind kind) ≡ false
        turned bound e =
            ap₂ (λ x y. x && y) (same_sym bound.column card.name2) (meet_sym bound.kind kind)
            ∙ is_false (same card.name2 bound.column && meet kind bound.kind) e

        valued : (b : Bool) → cond b (value_fault card.value1_column card.value1) None ≡ None
            → (is_some (cond b (Some (decimal_of card.value1)) None) ≡ b) × IfSome (cond b (Some (decimal_of card.value1)) None) IsDecimal
        valued true h = (refl, text_is_decimal card.value1 reads.value1 (no_value_fault card.value1_column card.value1 h))
        valued false h = (refl, tt)

    pub bounds-modified : IsReading card → of_bound_type card (modify_bound_fault p card) ≡ None
        → IsLawful (record p {
          bounds = unwrap_or
              (option_map (λ kind. in_set card.name1 (put_bound (bound_of card kind)) p.bounds) (named bound_kinds card.kind)) p.bounds;
        })
    bounds-modified reads fine = by (named bound_kinds card.kind) refl
      where
        by : (o : Option BoundKind) → named bound_kinds card.kind ≡ o →
            IsLawful (record p { bounds = unwrap_or (option_map (λ kind. in_set card.name1 (put_bound (bound_of card kind)) p.bounds) o) p.bounds })
        by None e = lawful
        by (Some kind) e =
            let tested : of_bound_type card (modify_bound_fault p card) ≡ modify_bound_fault p card kind = rw e refl in
            let known : AreLawfulBounds p.columns (items_of card.name1 p.bounds) =
            items_of-each card.name1 (AreLawfulBounds p.columns) no_bounds p.bounds lawful.bounds.distinct
            (each-change (λ (set : Group (Bound Name)). AreBoundSets p.columns set.items) (λ set. AreLawfulBounds p.columns set.items)
            (λ set c. c.bounds_lawful) p.bounds lawful.bounds.items) in
            with_bounds _
            (groups-set card.name1 (AreBoundSets p.columns) (put_bound (bound_of card kind)) p.bounds lawful.bounds reads.name1
            (bound-put kind (items_of card.name1 p.bounds) reads (sym tested ∙ fine) known))

    pub bounds-deleted : IsLawful (record p { bounds = delete_items without_column card p.bounds })
    bounds-deleted =
        with_bounds _
        (sets-deleted (AreBoundSets p.columns) (AreLawfulBounds p.columns) without_column (λ items c. c.bounds_lawful)
        (λ name. bounds-fewer (λ bound. not (same name bound.column))) no_bounds
        (λ items c e. record { bounds_lawful = c; filled = e }) card p.bounds lawful.bounds)
