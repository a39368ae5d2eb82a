-- The cards of the columns, the right-hand sides and the ranges are accepted, and add their entries.
use Rattle.std.proofs.Common.{◌≡◌, ℕ, zero, suc, ◌+◌, ◌-◌, ◌≤◌, Bool, true, false, not, ◌&&◌, ◌||◌, List, [], ◌∷◌, ◌++◌, Some, None, length, map, take, nat_le}
use Rattle.std.proofs.Common.{refl, ap, sym, ◌∙◌, subst, arith}
use Rattle.std.specs.List.{AllByRecursion, IsDistinct, flat_map, sum_by}
use Rattle.std.proofs.lemmas.List.{append-nil, length-append}
use Rattle.std.proofs.lemmas.List.Sums.{sum_by-append, sum_by-cons}
use Rattle.card_definitions.specs.Words.{is_empty, ◌⟹◌}
use Rattle.card_definitions.specs.Fields.{Reading}
use Rattle.card_definitions.specs.Numbers.{decimal_of}
use Rattle.problem_definitions.specs.declared.TheConstants.{MAX_COLUMNS, MAX_ENTRIES}
use Rattle.problem_definitions.specs.Names.{Name, same, marker}
use Rattle.problem_definitions.specs.Problem.{Row, Entry, Group, Problem, group_names, entry_count, has_free_row, has_combination, has_group}
use Rattle.problem_definitions.specs.Groups.{items_of, in_set}
use Rattle.problem_definitions.specs.Valid.{IsName, IsDecimal}
use Rattle.problem_definitions.proofs.Lawful.{IsLabel, AreGroups, AreLawfulEntries, AreColumnEntries, AreRightHandSides, AreRanges}
use Rattle.deck_definitions.specs.declared.DeckFaultKind.TheVariants.{ColumnSplit, Marker, EmptyName, TooManyColumns}
use Rattle.deck_definitions.specs.declared.Section.TheVariants.{Columns, Rhs, Ranges}
use Rattle.deck_definitions.specs.DataCards.{pairs_of}
use Rattle.deck_definitions.specs.Tests.{kind_filled, marks, all_but_last, columns_fault, pairs_fault}
use Rattle.deck_definitions.specs.Written.{data_card}
use Rattle.basis_deck_laws.proofs.Cards.{IsWritten, fields, written-card}
use Rattle.basis_deck_laws.proofs.Accepts.{Accepts, accepts-data}
use Rattle.basis_deck_laws.proofs.Facts.{none_found, not_found, below, all-at, from-map, fits-name, reads-as, fits-number}
use Rattle.basis_deck_laws.proofs.AddedPairs.{MayAdd, may-add, pair-fine}
use Rattle.basis_deck_laws.proofs.Sets.{groups_at, has-last, items-taken, new-group, EachAdds, groups-accepted}

abbrev pub entry_card : Name → Entry Name → List ℕ
entry_card name entry = data_card [] name entry.row entry.value.text

abbrev entry_fields : Name → Entry Name → Reading
entry_fields name entry = fields [] name entry.row entry.value.text

written-entry : (name : Name) (entry : Entry Name) → IsName name → IsLabel entry.row → IsDecimal entry.value →
    IsWritten (entry_card name entry) (entry_fields name entry)
written-entry name entry is label value =
    written-card [] name entry.row entry.value.text (record { short = omega arith; trimmed = refl }) refl (fits-name name is)
    (fits-name entry.row label.name_of) (fits-number entry.value value) (some (is_empty name) (is_empty entry.row) label.present)
  where
    some : (a b : Bool) → b ≡ false → (a && b) ≡ false
    some true b h = h
    some false b h = refl

-- what a card of an entry adds to its column or set
adds-entry : (put : List (Group (Entry Name)) → Problem Name) (groups : List (Group (Entry Name))) (name : Name) (entry : Entry Name) → IsDecimal entry.value
    → put (in_set name (λ items. items ++ record { row = entry.row; value = decimal_of entry.value.text } ∷ []) groups) ≡ put
    (in_set name (λ items. items ++ entry ∷ []) groups)
adds-entry put groups name entry value =
    ap (λ v. put (in_set name (λ items. items ++ record { row = entry.row; value = v } ∷ []) groups)) ((reads-as entry.value value).again)

-- a group of some groups, by what holds of each
group-at : (P : Group (Entry Name) → Type 0) (done : List (Group (Entry Name))) (group : Group (Entry Name)) (after whole : List (Group (Entry Name))) →
    done ++ group ∷ after ≡ whole → AllByRecursion P whole → P group
group-at P done group after whole e each = all-at P done group after (subst (AllByRecursion P) (sym e) each)

module _ (rows : List (Row Name)) (labels : AllByRecursion IsLabel (map (λ row. row.name) rows)) where
  -- ---- columns

  module _ (whole : List (Group (Entry Name))) where
    abbrev pub with_columns : List (Group (Entry Name)) → Problem Name
    with_columns columns = record { name = []; rows = rows; columns = columns; rhs = []; ranges = []; bounds = [] }

    absent-take : (n : Name) (k : ℕ) (done more : List (Group (Entry Name))) → k ≤ length done → has_group done n ≡ false →
        has_group (take k (done ++ more)) n ≡ false
    absent-take n zero done more short absent = refl
    absent-take n (suc k) [] more short absent = absurd (omega (arith, short))
    absent-take n (suc k) (group ∷ done) more short absent = by (same n group.name) absent (absent-take n k done more (omega (arith, short)))
      where
        by : (b : Bool) → (b || has_group done n) ≡ false → (has_group done n ≡ false → has_group (take k (done ++ more)) n ≡ false) →
            (b || has_group (take k (done ++ more)) n) ≡ false
        by true h rest = absurd (cc h)
        by false h rest = rest h

    -- the cards of a column stand together
    together : (done : List (Group (Entry Name))) (name : Name) (taken : List (Entry Name)) → has_group done name ≡ false →
        has_group (all_but_last (groups_at done name taken)) name ≡ false
    together done name [] absent =
        subst (λ groups. has_group (take (length done - 1) groups) name ≡ false) (append-nil done)
        (absent-take name (length done - 1) done [] (omega arith) absent)
    together done name (first ∷ taken) absent =
        let last : List (Group (Entry Name)) = record { name = name; items = first ∷ taken } ∷ [] in
        absent-take name (length (done ++ last) - 1) done last (omega (arith, length-append done last)) absent

    not-many : (done : List (Group (Entry Name))) (name : Name) (taken : List (Entry Name)) → has_group done name ≡ false → length done + 1 ≤ MAX_COLUMNS
        → (not (has_group (groups_at done name taken) name) && nat_le MAX_COLUMNS (length (groups_at done name taken))) ≡ false
    not-many done name [] absent few = ap (λ b. not b && nat_le MAX_COLUMNS (length done)) absent ∙ below MAX_COLUMNS (length done) few
    not-many done name (first ∷ taken) absent few =
        let group : Group (Entry Name) = record { name = name; items = first ∷ taken } in
        ap (λ b. not b && nat_le MAX_COLUMNS (length (done ++ group ∷ []))) (has-last done group)

    abbrev size : List (Group (Entry Name)) → ℕ
    size groups = sum_by (λ (g : Group (Entry Name)). length g.items) groups

    size-at : (done : List (Group (Entry Name))) (name : Name) (taken : List (Entry Name)) → size (groups_at done name taken) ≡ size done + length taken
    size-at done name [] = omega arith
    size-at done name (first ∷ taken) =
        let group : Group (Entry Name) = record { name = name; items = first ∷ taken } in
        let split = sum_by-append (λ (g : Group (Entry Name)). length g.items) done (group ∷ []) in
        let one = sum_by-cons (λ (g : Group (Entry Name)). length g.items) group [] in
        omega (arith, split, one)

    size-whole : (done : List (Group (Entry Name))) (group : Group (Entry Name)) (after : List (Group (Entry Name))) → done ++ group ∷ after ≡ whole
        → (taken : List (Entry Name)) (item : Entry Name) (items : List (Entry Name)) → taken ++ item ∷ items ≡ group.items
        → size whole ≤ MAX_ENTRIES → size (groups_at done group.name taken) + 1 ≤ MAX_ENTRIES
    size-whole done group after e taken item items h few =
        let here = size-at done group.name taken in
        let all = ap size (sym e) ∙ sum_by-append (λ (g : Group (Entry Name)). length g.items) done (group ∷ after) in
        let next = sum_by-cons (λ (g : Group (Entry Name)). length g.items) group after in
        let long : length taken + length (item ∷ items) ≡ length group.items = sym (length-append taken (item ∷ items)) ∙ ap length h in
        omega (arith, here, all, next, long, few)

    columns-add : AreGroups IsLabel (AreColumnEntries rows) whole → length whole ≤ MAX_COLUMNS → size whole ≤ MAX_ENTRIES →
        EachAdds Columns with_columns entry_card whole
    columns-add lawful few few_entries done group after e taken item items h =
        let absent = new-group done group after (subst (λ all. IsDistinct same (group_names all)) (sym e) lawful.distinct) in
        let label : IsLabel group.name =
        group-at (λ (g : Group (Entry Name)). IsLabel g.name) done group after whole e
        (from-map IsLabel (λ (g : Group (Entry Name)). g.name) whole lawful.names) in
        let entries : AreColumnEntries rows group.items =
        group-at (λ (g : Group (Entry Name)). AreColumnEntries rows g.items) done group after whole e lawful.items in
        let may = may-add rows labels taken item items (subst (AreLawfulEntries rows) (sym h) entries.entries_lawful) in
        let unmarked : same marker item.row ≡ false =
        all-at (λ (entry : Entry Name). same marker entry.row ≡ false) taken item items
        (subst (AllByRecursion (λ (entry : Entry Name). same marker entry.row ≡ false)) (sym h) entries.no_marker) in
        let plain : has_combination rows item.row ≡ false =
        all-at (λ (entry : Entry Name). has_combination rows entry.row ≡ false) taken item items
        (subst (AllByRecursion (λ (entry : Entry Name). has_combination rows entry.row ≡ false)) (sym h) entries.plain) in
        let room : length done + 1 ≤ MAX_COLUMNS = omega (arith, few, ap length (sym e), length-append done (group ∷ after)) in
        let now = groups_at done group.name taken in
        subst (λ p. Accepts (Some Columns) (with_columns now) (entry_card group.name item ∷ []) (Some Columns) p)
        (adds-entry with_columns now group.name item may.value)
        (accepts-data Columns (with_columns now) (entry_card group.name item) (entry_fields group.name item)
        (written-entry group.name item label.name_of may.label may.value)
        (fine done group.name taken item may unmarked plain label.present absent room (size-whole done group after e taken item items h few_entries)))
      where
        fine : (done : List (Group (Entry Name))) (name : Name) (taken : List (Entry Name)) (item : Entry Name) → MayAdd rows taken item
            → same marker item.row ≡ false → has_combination rows item.row ≡ false → is_empty name ≡ false → has_group done name ≡ false
            → length done + 1 ≤ MAX_COLUMNS → size (groups_at done name taken) + 1 ≤ MAX_ENTRIES
            → columns_fault (with_columns (groups_at done name taken)) (entry_fields name item) ≡ None
        fine done name taken item may unmarked plain present absent room entry_room =
            let now = groups_at done name taken in
            let seen = with_columns now in
            none_found (
            kind_filled (entry_fields name item) ∷
            marks (entry_fields name item) ∷
            (is_empty name ⟹ EmptyName) ∷
            (has_group (all_but_last now) name ⟹ ColumnSplit) ∷
            (not (has_group now name) && nat_le MAX_COLUMNS (length now) ⟹ TooManyColumns) ∷
            pairs_fault seen Columns (items_of name now) (entry_count seen) (pairs_of (entry_fields name item)) ∷ []) (
              refl,
              (
                not_found (same marker item.row || same marker []) Marker (ap (λ b. b || same marker []) unmarked),
                (
                  not_found (is_empty name) EmptyName present,
                  (
                    not_found (has_group (all_but_last now) name) ColumnSplit (together done name taken absent),
                    (
                      not_found (not (has_group now name) && nat_le MAX_COLUMNS (length now)) TooManyColumns (not-many done name taken absent room),
                      (
                        ap (λ list. pairs_fault seen Columns list (entry_count seen) (pairs_of (entry_fields name item))) (items-taken done name taken absent)
                            ∙ pair-fine seen Columns taken (entry_count seen) item may plain refl (below MAX_ENTRIES (entry_count seen) entry_room),
                        tt,
                      ),
                    ),
                  ),
                ),
              ),
            )

    -- The cards of columns that each have an entry.
    pub columns-accepted : AreGroups IsLabel (AreColumnEntries rows) whole
        → AllByRecursion (λ (column : Group (Entry Name)). is_empty column.items ≡ false) whole → length whole ≤ MAX_COLUMNS → size whole ≤ MAX_ENTRIES
        → Accepts (Some Columns) (with_columns []) (flat_map (λ (column : Group (Entry Name)). map (entry_card column.name) column.items) whole) (Some Columns)
        (with_columns whole)
    columns-accepted lawful some few few_entries =
        groups-accepted Columns with_columns entry_card whole (columns-add lawful few few_entries) lawful.distinct [] whole refl some

  -- ---- right-hand sides

  module _ (columns whole : List (Group (Entry Name))) where
    abbrev pub with_rhs : List (Group (Entry Name)) → Problem Name
    with_rhs rhs = record { name = []; rows = rows; columns = columns; rhs = rhs; ranges = []; bounds = [] }

    rhs-add : AreGroups IsName (AreRightHandSides rows) whole → EachAdds Rhs with_rhs entry_card whole
    rhs-add lawful done group after e taken item items h =
        let absent = new-group done group after (subst (λ all. IsDistinct same (group_names all)) (sym e) lawful.distinct) in
        let is : IsName group.name =
        group-at (λ (g : Group (Entry Name)). IsName g.name) done group after whole e
        (from-map IsName (λ (g : Group (Entry Name)). g.name) whole lawful.names) in
        let entries : AreRightHandSides rows group.items =
        group-at (λ (g : Group (Entry Name)). AreRightHandSides rows g.items) done group after whole e lawful.items in
        let may = may-add rows labels taken item items (subst (AreLawfulEntries rows) (sym h) entries.entries_lawful) in
        let now = groups_at done group.name taken in
        subst (λ p. Accepts (Some Rhs) (with_rhs now) (entry_card group.name item ∷ []) (Some Rhs) p) (adds-entry with_rhs now group.name item may.value)
        (accepts-data Rhs (with_rhs now) (entry_card group.name item) (entry_fields group.name item) (written-entry group.name item is may.label may.value)
        (none_found (kind_filled (entry_fields group.name item) ∷ pairs_fault (with_rhs now) Rhs (items_of group.name now) 0
        (pairs_of (entry_fields group.name item)) ∷ []) (
          refl,
          (
            ap (λ list. pairs_fault (with_rhs now) Rhs list 0 (pairs_of (entry_fields group.name item))) (items-taken done group.name taken absent)
                ∙ pair-fine (with_rhs now) Rhs taken 0 item may refl refl refl,
            tt,
          ),
        )))

    pub rhs-accepted : AreGroups IsName (AreRightHandSides rows) whole →
        Accepts (Some Rhs) (with_rhs []) (flat_map (λ (set : Group (Entry Name)). map (entry_card set.name) set.items) whole) (Some Rhs) (with_rhs whole)
    rhs-accepted lawful = groups-accepted Rhs with_rhs entry_card whole (rhs-add lawful) lawful.distinct [] whole refl (filled whole lawful.items)
      where
        filled : (groups : List (Group (Entry Name))) → AllByRecursion (λ (group : Group (Entry Name)). AreRightHandSides rows group.items) groups →
            AllByRecursion (λ (group : Group (Entry Name)). is_empty group.items ≡ false) groups
        filled [] each = tt
        filled (group ∷ groups) each = (each.0.filled, filled groups each.1)

  -- ---- ranges

  module _ (columns rhs whole : List (Group (Entry Name))) where
    abbrev pub with_ranges : List (Group (Entry Name)) → Problem Name
    with_ranges ranges = record { name = []; rows = rows; columns = columns; rhs = rhs; ranges = ranges; bounds = [] }

    ranges-add : AreGroups IsName (AreRanges rows) whole → EachAdds Ranges with_ranges entry_card whole
    ranges-add lawful done group after e taken item items h =
        let absent = new-group done group after (subst (λ all. IsDistinct same (group_names all)) (sym e) lawful.distinct) in
        let is : IsName group.name =
        group-at (λ (g : Group (Entry Name)). IsName g.name) done group after whole e
        (from-map IsName (λ (g : Group (Entry Name)). g.name) whole lawful.names) in
        let entries : AreRanges rows group.items = group-at (λ (g : Group (Entry Name)). AreRanges rows g.items) done group after whole e lawful.items in
        let may = may-add rows labels taken item items (subst (AreLawfulEntries rows) (sym h) entries.entries_lawful) in
        let limited : has_free_row rows item.row ≡ false =
        all-at (λ (entry : Entry Name). has_free_row rows entry.row ≡ false) taken item items
        (subst (AllByRecursion (λ (entry : Entry Name). has_free_row rows entry.row ≡ false)) (sym h) entries.limited) in
        let now = groups_at done group.name taken in
        subst (λ p. Accepts (Some Ranges) (with_ranges now) (entry_card group.name item ∷ []) (Some Ranges) p)
        (adds-entry with_ranges now group.name item may.value)
        (accepts-data Ranges (with_ranges now) (entry_card group.name item) (entry_fields group.name item)
        (written-entry group.name item is may.label may.value)
        (none_found (kind_filled (entry_fields group.name item) ∷ pairs_fault (with_ranges now) Ranges (items_of group.name now) 0
        (pairs_of (entry_fields group.name item)) ∷ []) (
          refl,
          (
            ap (λ list. pairs_fault (with_ranges now) Ranges list 0 (pairs_of (entry_fields group.name item))) (items-taken done group.name taken absent)
                ∙ pair-fine (with_ranges now) Ranges taken 0 item may refl limited refl,
            tt,
          ),
        )))

    pub ranges-accepted : AreGroups IsName (AreRanges rows) whole →
        Accepts (Some Ranges) (with_ranges []) (flat_map (λ (set : Group (Entry Name)). map (entry_card set.name) set.items) whole) (Some Ranges)
        (with_ranges whole)
    ranges-accepted lawful = groups-accepted Ranges with_ranges entry_card whole (ranges-add lawful) lawful.distinct [] whole refl (filled whole lawful.items)
      where
        filled : (groups : List (Group (Entry Name))) → AllByRecursion (λ (group : Group (Entry Name)). AreRanges rows group.items) groups →
            AllByRecursion (λ (group : Group (Entry Name)). is_empty group.items ≡ false) groups
        filled [] each = tt
        filled (group ∷ groups) each = (each.0.filled, filled groups each.1)
