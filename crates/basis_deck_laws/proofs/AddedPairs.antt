-- Entries that may be added after others: the pair of each has no fault.
use Rattle.std.proofs.Common.{◌≡◌, ℕ, true, false, not, ◌&&◌, ◌||◌, List, [], ◌∷◌, ◌++◌, None, map, nat_le, refl, ap, sym, ◌∙◌, subst}
use Rattle.std.specs.List.{AllByRecursion, IsDistinct}
use Rattle.std.specs.Option.{option_or, option_map}
use Rattle.std.proofs.lemmas.List.{map-append}
use Rattle.card_definitions.specs.Words.{is_empty, ◌⟹◌}
use Rattle.problem_definitions.specs.declared.TheConstants.{MAX_ENTRIES}
use Rattle.problem_definitions.specs.Names.{Name, same, has_name}
use Rattle.problem_definitions.specs.Problem.{Row, Entry, Problem, has_row, has_free_row, has_combination, has_entry}
use Rattle.problem_definitions.specs.Valid.{IsDecimal}
use Rattle.problem_definitions.proofs.Names.{row_is_named}
use Rattle.problem_definitions.proofs.Lawful.{IsLabel, AreLawfulEntries}
use Rattle.deck_definitions.specs.declared.DeckFaultKind.TheVariants.{UnknownRow, DuplicateEntry, EntryOnCombination, RangeOnFree, EmptyName, TooManyEntries}
use Rattle.deck_definitions.specs.declared.Section.{Section}
use Rattle.deck_definitions.specs.declared.Section.TheVariants.{Columns, Ranges}
use Rattle.deck_definitions.specs.Sections.{is_section}
use Rattle.deck_definitions.specs.DataCards.{Pair}
use Rattle.deck_definitions.specs.Tests.{pair_row_fault, pairs_fault, value_fault, number_fault_from}
use Rattle.deck_definitions.proofs.Pairs.{pairs_fault-cons}
use Rattle.basis_deck_laws.proofs.Facts.{none_found, not_found, all-at, apart-before, absent-before, label-of, reads-as}

-- an entry that may be added to these
pub record MayAdd (rows : List (Row Name)) (taken : List (Entry Name)) (entry : Entry Name) : Type 0 where
  pub label : IsLabel entry.row
  pub there : has_row rows entry.row ≡ true
  pub new : has_entry taken entry.row ≡ false
  pub value : IsDecimal entry.value

names_of : (entries : List (Entry Name)) (row : Name) → has_entry entries row ≡ has_name (map (λ entry. entry.row) entries) row
names_of [] row = refl
names_of (entry ∷ entries) row = ap (λ b. same row entry.row || b) (names_of entries row)

pub may-add : (rows : List (Row Name)) → AllByRecursion IsLabel (map (λ row. row.name) rows) →
    (taken : List (Entry Name)) (entry : Entry Name) (items : List (Entry Name)) → AreLawfulEntries rows (taken ++ entry ∷ items) → MayAdd rows taken entry
may-add rows labels taken entry items lawful =
    let there : has_row rows entry.row ≡ true = all-at (λ (e : Entry Name). has_row rows e.row ≡ true) taken entry items lawful.on_rows in
    let apart =
    apart-before same (map (λ (e : Entry Name). e.row) taken) entry.row (map (λ (e : Entry Name). e.row) items)
    (subst (IsDistinct same) (map-append (λ (e : Entry Name). e.row) taken (entry ∷ items)) lawful.distinct) in
    record {
      label = label-of (map (λ row. row.name) rows) entry.row labels (sym (row_is_named entry.row rows) ∙ there);
      there = there;
      new = names_of taken entry.row ∙ absent-before (map (λ (e : Entry Name). e.row) taken) entry.row apart;
      value = all-at (λ (e : Entry Name). IsDecimal e.value) taken entry items lawful.values;
    }

-- an entry as a pair of the fields 3 and 4 of a card
abbrev pub pair_of : Entry Name → Pair
pair_of entry = record { row = entry.row; value = entry.value.text; column = 25 }

-- the pair of a card of which the entry may be added
pub pair-fine : (seen : Problem Name) (section : Section) (taken : List (Entry Name)) (count : ℕ) (entry : Entry Name) → MayAdd seen.rows taken entry
    → (is_section Columns section && has_combination seen.rows entry.row) ≡ false → (is_section Ranges section && has_free_row seen.rows entry.row) ≡ false
    → (is_section Columns section && nat_le MAX_ENTRIES count) ≡ false
    → pairs_fault seen section taken count (pair_of entry ∷ []) ≡ None
pair-fine seen section taken count entry may plain limited few =
    pairs_fault-cons seen section taken count (pair_of entry) [] ∙ ap (λ o. option_or o None) (none_found (
    pair_row_fault seen section entry.row ∷
    (has_entry taken entry.row ⟹ DuplicateEntry) ∷
    value_fault 25 entry.value.text ∷
    (is_section Columns section && nat_le MAX_ENTRIES count ⟹ TooManyEntries) ∷ []) (
      none_found (
          (is_empty entry.row ⟹ EmptyName) ∷
          (not (has_row seen.rows entry.row) ⟹ UnknownRow) ∷
          (is_section Columns section && has_combination seen.rows entry.row ⟹ EntryOnCombination) ∷
          (is_section Ranges section && has_free_row seen.rows entry.row ⟹ RangeOnFree) ∷ []) (
            not_found (is_empty entry.row) EmptyName may.label.present,
            (
              not_found (not (has_row seen.rows entry.row)) UnknownRow (ap not may.there),
              (
                not_found (is_section Columns section && has_combination seen.rows entry.row) EntryOnCombination plain,
                (not_found (is_section Ranges section && has_free_row seen.rows entry.row) RangeOnFree limited, tt),
              ),
            ),
          ),
      (
        not_found (has_entry taken entry.row) DuplicateEntry may.new,
        (
          ap (option_map (number_fault_from 25)) ((reads-as entry.value may.value).fine),
          (not_found (is_section Columns section && nat_le MAX_ENTRIES count) TooManyEntries few, tt),
        ),
      ),
    ))
