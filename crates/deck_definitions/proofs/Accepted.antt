-- A data card in which no fault was found keeps what holds of a problem.
use Rattle.std.proofs.Common.{◌≡◌, ℕ, ◌+◌, ◌≤◌, Bool, true, false, cond, not, ◌&&◌, ◌||◌, List, [], ◌∷◌, ◌++◌, Option, Some, None, length, map, refl, ap, sym}
use Rattle.std.proofs.Common.{◌∙◌, subst, arith, nat_le}
use Rattle.std.specs.List.{AllByRecursion, IsDistinct}
use Rattle.std.specs.Option.{option_or, option_map}
use Rattle.std.proofs.lemmas.Bool.{leb-false, not-false}
use Rattle.std.proofs.lemmas.List.{append_assoc, append-nil, map-append}
use Rattle.card_definitions.specs.Words.{is_empty, ◌⟹◌}
use Rattle.card_definitions.specs.Fields.{Reading}
use Rattle.card_definitions.specs.Numbers.{number_fault}
use Rattle.card_definitions.proofs.FirstFaults.{no_first, no_second, passes, test_fails}
use Rattle.problem_definitions.specs.declared.TheConstants.{MAX_ENTRIES}
use Rattle.problem_definitions.specs.Names.{Name, same, has_name, marker}
use Rattle.problem_definitions.specs.Problem.{Entry, Problem, has_row, has_free_row, has_combination, has_entry}
use Rattle.problem_definitions.specs.Valid.{IsDecimal}
use Rattle.problem_definitions.proofs.Each.{each-push, distinct-push, absent-apart}
use Rattle.problem_definitions.proofs.Lawful.{AreLawfulEntries}
use Rattle.deck_definitions.specs.declared.DeckFaultKind.TheVariants.{UnknownRow, DuplicateEntry, RangeOnFree, EmptyName, TooManyEntries, EntryOnCombination}
use Rattle.deck_definitions.specs.declared.Section.{Section}
use Rattle.deck_definitions.specs.declared.Section.TheVariants.{Columns, Ranges}
use Rattle.deck_definitions.specs.Sections.{is_section}
use Rattle.deck_definitions.specs.DataCards.{Pair, pairs_of, entry_of}
use Rattle.deck_definitions.specs.Tests.{pair_row_fault, pair_fault, pairs_fault, value_fault, number_fault_from}
use Rattle.deck_definitions.proofs.Pairs.{pairs_fault-cons}
use Rattle.deck_definitions.proofs.CardTexts.{text_is_decimal}

-- a count that a limit doesn't stop
pub not_full : (limit count : ℕ) → nat_le limit count ≡ false → count + 1 ≤ limit
not_full limit count h = omega (arith, leb-false limit count h)

pub no_value_fault : (column : ℕ) (field : List ℕ) → value_fault column field ≡ None → number_fault field ≡ None
no_value_fault column field h = by (number_fault field) h
  where
    by : (o : Option _) → option_map (number_fault_from column) o ≡ None → o ≡ None
    by None h = refl
    by (Some fault) h = absurd (cc h)

-- ---- pairs

module _ (seen : Problem Name) (section : Section) where
  -- an entry at the end, on a row that is there and that has none yet
  entry-added : (taken : List (Entry Name)) (entry : Entry Name) → AreLawfulEntries seen.rows taken → has_row seen.rows entry.row ≡ true
      → has_entry taken entry.row ≡ false → IsDecimal entry.value
      → AreLawfulEntries seen.rows (taken ++ entry ∷ [])
  entry-added taken entry lawful there new value = record {
    on_rows = each-push (λ e. has_row seen.rows e.row ≡ true) taken entry lawful.on_rows there;
    distinct =
        subst (IsDistinct same) (sym (map-append (λ e. e.row) taken (entry ∷ [])))
        (distinct-push same (map (λ e. e.row) taken) entry.row lawful.distinct
        (absent-apart (map (λ e. e.row) taken) entry.row (sym (rows_of taken) ∙ new)));
    values = each-push (λ e. IsDecimal e.value) taken entry lawful.values value;
  }
    where
      rows_of : (entries : List (Entry Name)) → has_entry entries entry.row ≡ has_name (map (λ e. e.row) entries) entry.row
      rows_of [] = refl
      rows_of (e ∷ entries) = ap (λ b. same entry.row e.row || b) (rows_of entries)

  -- what the tests of a pair say where they find no fault
  record PairPasses (taken : List (Entry Name)) (count : ℕ) (pair : Pair) : Type 0 where
    there : has_row seen.rows pair.row ≡ true
    uncombined : (is_section Columns section && has_combination seen.rows pair.row) ≡ false
    unfree : (is_section Ranges section && has_free_row seen.rows pair.row) ≡ false
    new : has_entry taken pair.row ≡ false
    value : number_fault pair.value ≡ None
    few : (is_section Columns section && nat_le MAX_ENTRIES count) ≡ false

  pair-passes : (taken : List (Entry Name)) (count : ℕ) (pair : Pair) → pair_fault seen section taken count pair ≡ None → PairPasses taken count pair
  pair-passes taken count pair fine =
      let t = passes (
      pair_row_fault seen section pair.row ∷
      (has_entry taken pair.row ⟹ DuplicateEntry) ∷
      value_fault pair.column pair.value ∷
      (is_section Columns section && nat_le MAX_ENTRIES count ⟹ TooManyEntries) ∷ []) fine in
      let r = passes (
      (is_empty pair.row ⟹ EmptyName) ∷
      (not (has_row seen.rows pair.row) ⟹ UnknownRow) ∷
      (is_section Columns section && has_combination seen.rows pair.row ⟹ EntryOnCombination) ∷
      (is_section Ranges section && has_free_row seen.rows pair.row ⟹ RangeOnFree) ∷ []) t.0 in
      record {
        there = not-false (has_row seen.rows pair.row) (test_fails (not (has_row seen.rows pair.row)) UnknownRow r.1.0);
        uncombined = test_fails (is_section Columns section && has_combination seen.rows pair.row) EntryOnCombination r.1.1.0;
        unfree = test_fails (is_section Ranges section && has_free_row seen.rows pair.row) RangeOnFree r.1.1.1.0;
        new = test_fails (has_entry taken pair.row) DuplicateEntry t.1.0;
        value = no_value_fault pair.column pair.value t.1.1.0;
        few = test_fails (is_section Columns section && nat_le MAX_ENTRIES count) TooManyEntries t.1.1.1.0;
      }

  -- what the tests of a pair and those of the pairs after it say
  record PairsPass (taken : List (Entry Name)) (count : ℕ) (pair : Pair) (pairs : List Pair) : Type 0 where
    first : PairPasses taken count pair
    others : pairs_fault seen section (taken ++ entry_of pair ∷ []) (count + 1) pairs ≡ None

  pairs-pass : (taken : List (Entry Name)) (count : ℕ) (pair : Pair) (pairs : List Pair) → pairs_fault seen section taken count (pair ∷ pairs) ≡ None →
      PairsPass taken count pair pairs
  pairs-pass taken count pair pairs fine =
      let both : option_or (pair_fault seen section taken count pair) (pairs_fault seen section (taken ++ entry_of pair ∷ []) (count + 1) pairs) ≡ None =
      sym (pairs_fault-cons seen section taken count pair pairs) ∙ fine in
      record {
        first =
            pair-passes taken count pair
            (no_first (pair_fault seen section taken count pair) (pairs_fault seen section (taken ++ entry_of pair ∷ []) (count + 1) pairs) both);
        others = no_second (pair_fault seen section taken count pair) (pairs_fault seen section (taken ++ entry_of pair ∷ []) (count + 1) pairs) both;
      }

  pub pairs-lawful : (taken : List (Entry Name)) (count : ℕ) (pairs : List Pair) → AllByRecursion (λ (pair : Pair). length pair.value ≤ 12) pairs
      → AreLawfulEntries seen.rows taken
      → pairs_fault seen section taken count pairs ≡ None → AreLawfulEntries seen.rows (taken ++ map entry_of pairs)
  pairs-lawful taken count [] short lawful fine = subst (AreLawfulEntries seen.rows) (sym (append-nil taken)) lawful
  pairs-lawful taken count (pair ∷ pairs) short lawful fine =
      let pass = pairs-pass taken count pair pairs fine in
      subst (AreLawfulEntries seen.rows) (append_assoc taken (entry_of pair ∷ []) (map entry_of pairs))
      (pairs-lawful (taken ++ entry_of pair ∷ []) (count + 1) pairs short.1
      (entry-added taken (entry_of pair) lawful pass.first.there pass.first.new (text_is_decimal pair.value short.0 pass.first.value))
      pass.others)

  -- no range stands on a free row
  pub pairs-limited : (taken : List (Entry Name)) (count : ℕ) (pairs : List Pair) → is_section Ranges section ≡ true
      → pairs_fault seen section taken count pairs ≡ None
      → AllByRecursion (λ (entry : Entry Name). has_free_row seen.rows entry.row ≡ false) (map entry_of pairs)
  pairs-limited taken count [] ranges fine = tt
  pairs-limited taken count (pair ∷ pairs) ranges fine =
      let pass = pairs-pass taken count pair pairs fine in (
        subst (λ b. (b && has_free_row seen.rows pair.row) ≡ false) ranges pass.first.unfree,
        pairs-limited (taken ++ entry_of pair ∷ [])
            (count + 1) pairs ranges pass.others,
      )

  -- no entry of a column stands on a combination
  pub pairs-plain : (taken : List (Entry Name)) (count : ℕ) (pairs : List Pair) → is_section Columns section ≡ true
      → pairs_fault seen section taken count pairs ≡ None
      → AllByRecursion (λ (entry : Entry Name). has_combination seen.rows entry.row ≡ false) (map entry_of pairs)
  pairs-plain taken count [] columns fine = tt
  pairs-plain taken count (pair ∷ pairs) columns fine =
      let pass = pairs-pass taken count pair pairs fine in (
        subst (λ b. (b && has_combination seen.rows pair.row) ≡ false) columns pass.first.uncombined,
        pairs-plain (taken ++ entry_of pair ∷ [])
            (count + 1) pairs columns pass.others,
      )

  -- the entries of all columns are no more than the limit allows
  pub pairs-few : (taken : List (Entry Name)) (count : ℕ) (pairs : List Pair) → is_section Columns section ≡ true → count ≤ MAX_ENTRIES
      → pairs_fault seen section taken count pairs ≡ None
      → count + length (map entry_of pairs) ≤ MAX_ENTRIES
  pairs-few taken count [] columns few fine = omega (arith, few)
  pairs-few taken count (pair ∷ pairs) columns few fine =
      let pass = pairs-pass taken count pair pairs fine in
      let below : count + 1 ≤ MAX_ENTRIES = not_full MAX_ENTRIES count (subst (λ b. (b && nat_le MAX_ENTRIES count) ≡ false) columns pass.first.few) in
      let rest : count + 1 + length (map entry_of pairs) ≤ MAX_ENTRIES = pairs-few (taken ++ entry_of pair ∷ []) (count + 1) pairs columns below pass.others in
      omega (arith, rest)

-- what an accepted card adds isn't empty
pub added_some : (items : List (Entry Name)) (card : Reading) → is_empty (items ++ map entry_of (pairs_of card)) ≡ false
added_some [] card = refl
added_some (item ∷ items) card = refl

-- no pair of a card that isn't a marker is on a row of its name
pub pairs-unmarked : (card : Reading) → (same marker card.name2 || same marker card.name3) ≡ false →
    AllByRecursion (λ (entry : Entry Name). same marker entry.row ≡ false) (map entry_of (pairs_of card))
pairs-unmarked card h = (first (same marker card.name2) h, by (is_empty card.name3 && is_empty card.value2))
  where
    first : (a : Bool) → (a || same marker card.name3) ≡ false → a ≡ false
    first true e = e
    first false e = refl

    second : (a : Bool) → (a || same marker card.name3) ≡ false → same marker card.name3 ≡ false
    second true e = absurd (cc e)
    second false e = e

    by : (b : Bool) →
        AllByRecursion (λ (entry : Entry Name). same marker entry.row ≡ false)
        (map entry_of (cond b [] (record { row = card.name3; value = card.value2; column = card.value2_column } ∷ [])))
    by true = tt
    by false = (second (same marker card.name2) h, tt)
