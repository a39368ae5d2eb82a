-- Entries that are put into others keep what holds of them.
use Rattle.std.proofs.Common.{◌≡◌, ℕ, ◌+◌, ◌-◌, ◌≤◌, Bool, true, false, cond, not, ◌&&◌, ◌||◌, List, [], ◌∷◌, ◌++◌, None, length, map, refl, ap, ap₂, sym, ◌∙◌}
use Rattle.std.proofs.Common.{subst, arith, nat_le}
use Rattle.std.specs.List.{AllByRecursion, IsDistinct}
use Rattle.std.specs.Option.{option_or}
use Rattle.std.proofs.lemmas.List.{map-append, length-append, length-map}
use Rattle.std.proofs.lemmas.Bool.{not-false}
use Rattle.card_definitions.specs.Words.{is_empty, ◌⟹◌}
use Rattle.card_definitions.proofs.FirstFaults.{no_first, no_second, passes, test_fails}
use Rattle.problem_definitions.specs.declared.TheConstants.{MAX_ENTRIES}
use Rattle.problem_definitions.specs.Names.{Name, same, has_name}
use Rattle.problem_definitions.specs.Problem.{Row, Entry, Problem, has_row, has_free_row, has_combination, has_entry}
use Rattle.problem_definitions.specs.Valid.{IsDecimal}
use Rattle.problem_definitions.proofs.Names.{same_eq}
use Rattle.problem_definitions.proofs.Each.{each-push, distinct-push, absent-apart}
use Rattle.problem_definitions.proofs.LawfulEntries.{AreLawfulEntries}
use Rattle.deck_definitions.specs.declared.DeckFaultKind.TheVariants.{UnknownRow, RangeOnFree, EmptyName, TooManyEntries, EntryOnCombination}
use Rattle.deck_definitions.specs.declared.Section.{Section}
use Rattle.deck_definitions.specs.declared.Section.TheVariants.{Columns, Ranges}
use Rattle.deck_definitions.specs.Sections.{is_section}
use Rattle.deck_definitions.specs.DataCards.{Pair, entry_of}
use Rattle.deck_definitions.specs.Tests.{pair_row_fault, value_fault}
use Rattle.deck_definitions.proofs.CardTexts.{text_is_decimal}
use Rattle.deck_definitions.proofs.Accepted.{not_full, no_value_fault}
use Rattle.revise_definitions.specs.Edits.{put_entry, put_entries}
use Rattle.revise_definitions.specs.Tests.{put_fault, puts_fault}
use Rattle.revise_definitions.proofs.Pairs.{puts_fault-cons, put_entries-length, put_entry-length}

-- no entries are lawful entries
pub no-entries : (rows : List (Row Name)) → AreLawfulEntries rows []
unfolding IsDistinct
no-entries rows = record { on_rows = tt; distinct = tt; values = tt }

-- ---- one entry

put-each : (P : Entry Name → Type 0) (entries : List (Entry Name)) (entry : Entry Name) → AllByRecursion P entries → P entry →
    AllByRecursion P (put_entry entries entry)
put-each P entries entry each new = by (has_entry entries entry.row)
  where
    replaced : (list : List (Entry Name)) → AllByRecursion P list → AllByRecursion P (map (λ other. cond (same entry.row other.row) entry other) list)
    replaced [] each' = tt
    replaced (other ∷ list) each' = (one (same entry.row other.row), replaced list each'.1)
      where
        one : (b : Bool) → P (cond b entry other)
        one true = new
        one false = each'.0

    by : (b : Bool) → AllByRecursion P (cond b (map (λ other. cond (same entry.row other.row) entry other) entries) (entries ++ entry ∷ []))
    by true = replaced entries each
    by false = each-push P entries entry each new

put-distinct : (entries : List (Entry Name)) (entry : Entry Name) → IsDistinct same (map (λ e. e.row) entries) →
    IsDistinct same (map (λ e. e.row) (put_entry entries entry))
put-distinct entries entry distinct = by (has_entry entries entry.row) refl
  where
    rows_kept : (list : List (Entry Name)) →
        map (λ (e : Entry Name). e.row) (map (λ other. cond (same entry.row other.row) entry other) list) ≡ map (λ e. e.row) list
    rows_kept [] = refl
    rows_kept (other ∷ list) = ap₂ (λ row rows. row ∷ rows) (one (same entry.row other.row) refl) (rows_kept list)
      where
        one : (b : Bool) → same entry.row other.row ≡ b → (cond b entry other).row ≡ other.row
        one true e = same_eq entry.row other.row e
        one false e = refl

    names_of : (list : List (Entry Name)) → has_entry list entry.row ≡ has_name (map (λ e. e.row) list) entry.row
    names_of [] = refl
    names_of (e ∷ list) = ap (λ b. same entry.row e.row || b) (names_of list)

    by : (b : Bool) → has_entry entries entry.row ≡ b →
        IsDistinct same (map (λ e. e.row) (cond b (map (λ other. cond (same entry.row other.row) entry other) entries) (entries ++ entry ∷ [])))
    by true there = subst (IsDistinct same) (sym (rows_kept entries)) distinct
    by false absent = subst (IsDistinct same) (sym (map-append (λ e. e.row) entries (entry ∷ [])))
        (distinct-push same (map (λ e. e.row) entries) entry.row distinct (absent-apart (map (λ e. e.row) entries) entry.row (sym (names_of entries) ∙ absent)))

put-filled : (entries : List (Entry Name)) (entry : Entry Name) → is_empty (put_entry entries entry) ≡ false
put-filled [] entry = refl
put-filled (first ∷ entries) entry = by (has_entry (first ∷ entries) entry.row)
  where
    by : (b : Bool) → is_empty (cond b (map (λ other. cond (same entry.row other.row) entry other) (first ∷ entries)) ((first ∷ entries) ++ entry ∷ [])) ≡ false
    by true = refl
    by false = refl

put-grows : (entries : List (Entry Name)) (entry : Entry Name) → length (put_entry entries entry) ≡ length entries + cond (has_entry entries entry.row) 0 1
put-grows entries entry = by (has_entry entries entry.row)
  where
    by : (b : Bool) → length (cond b (map (λ other. cond (same entry.row other.row) entry other) entries) (entries ++ entry ∷ [])) ≡ length entries + cond b 0 1
    by true = omega (arith, length-map entries (λ other. cond (same entry.row other.row) entry other))
    by false = length-append entries (entry ∷ [])

-- ---- one after another

pub puts-each : (P : Entry Name → Type 0) (new entries : List (Entry Name)) → AllByRecursion P new → AllByRecursion P entries →
    AllByRecursion P (put_entries new entries)
puts-each P [] entries also each = each
puts-each P (entry ∷ new) entries also each = puts-each P new (put_entry entries entry) also.1 (put-each P entries entry each also.0)

pub puts-distinct : (new entries : List (Entry Name)) → IsDistinct same (map (λ e. e.row) entries) →
    IsDistinct same (map (λ e. e.row) (put_entries new entries))
puts-distinct [] entries distinct = distinct
puts-distinct (entry ∷ new) entries distinct = puts-distinct new (put_entry entries entry) (put-distinct entries entry distinct)

still-filled : (new entries : List (Entry Name)) → is_empty entries ≡ false → is_empty (put_entries new entries) ≡ false
still-filled [] entries e = e
still-filled (entry ∷ new) entries e = still-filled new (put_entry entries entry) (put-filled entries entry)

pub puts-filled : (entry : Entry Name) (new entries : List (Entry Name)) → is_empty (put_entries (entry ∷ new) entries) ≡ false
puts-filled entry new entries = still-filled new (put_entry entries entry) (put-filled entries entry)

-- an entry that may be put: on a row that is there, for a range on no free one, and for a column on no combination
pub record Fits (seen : Problem Name) (section : Section) (entry : Entry Name) : Type 0 where
  pub there : has_row seen.rows entry.row ≡ true
  pub unfree : (is_section Ranges section && has_free_row seen.rows entry.row) ≡ false
  pub plain : (is_section Columns section && has_combination seen.rows entry.row) ≡ false
  pub value : IsDecimal entry.value

pub puts-lawful : (seen : Problem Name) (section : Section) (new entries : List (Entry Name)) → AllByRecursion (Fits seen section) new →
    AreLawfulEntries seen.rows entries → AreLawfulEntries seen.rows (put_entries new entries)
puts-lawful seen section new entries fit lawful = record {
  on_rows = puts-each (λ (e : Entry Name). has_row seen.rows e.row ≡ true) new entries (rows_there new fit) lawful.on_rows;
  distinct = puts-distinct new entries lawful.distinct;
  values = puts-each (λ (e : Entry Name). IsDecimal e.value) new entries (decimals new fit) lawful.values;
}
  where
    rows_there : (list : List (Entry Name)) → AllByRecursion (Fits seen section) list → AllByRecursion (λ (e : Entry Name). has_row seen.rows e.row ≡ true) list
    rows_there [] fit' = tt
    rows_there (e ∷ list) fit' = (fit'.0.there, rows_there list fit'.1)

    decimals : (list : List (Entry Name)) → AllByRecursion (Fits seen section) list → AllByRecursion (λ (e : Entry Name). IsDecimal e.value) list
    decimals [] fit' = tt
    decimals (e ∷ list) fit' = (fit'.0.value, decimals list fit'.1)

module _ (seen : Problem Name) (section : Section) where
  -- what the tests of a pair say where they find no fault
  record PutPasses (present : List (Entry Name)) (count : ℕ) (pair : Pair) : Type 0 where
    there : has_row seen.rows pair.row ≡ true
    unfree : (is_section Ranges section && has_free_row seen.rows pair.row) ≡ false
    plain : (is_section Columns section && has_combination seen.rows pair.row) ≡ false
    few : (is_section Columns section && not (has_entry present pair.row) && nat_le MAX_ENTRIES count) ≡ false
    fine : value_fault pair.column pair.value ≡ None

  put-passes : (present : List (Entry Name)) (count : ℕ) (pair : Pair) → put_fault seen section present count pair ≡ None → PutPasses present count pair
  put-passes present count pair fine =
      let t = passes (
      pair_row_fault seen section pair.row ∷
      value_fault pair.column pair.value ∷
      (is_section Columns section && not (has_entry present pair.row) && nat_le MAX_ENTRIES count ⟹ TooManyEntries) ∷ []) fine in
      let r = passes (
      (is_empty pair.row ⟹ EmptyName) ∷
      (not (has_row seen.rows pair.row) ⟹ UnknownRow) ∷
      (is_section Columns section && has_combination seen.rows pair.row ⟹ EntryOnCombination) ∷
      (is_section Ranges section && has_free_row seen.rows pair.row ⟹ RangeOnFree) ∷ []) t.0 in
      record {
        there = not-false (has_row seen.rows pair.row) (test_fails (not (has_row seen.rows pair.row)) UnknownRow r.1.0);
        unfree = test_fails (is_section Ranges section && has_free_row seen.rows pair.row) RangeOnFree r.1.1.1.0;
        plain = test_fails (is_section Columns section && has_combination seen.rows pair.row) EntryOnCombination r.1.1.0;
        few = test_fails (is_section Columns section && not (has_entry present pair.row) && nat_le MAX_ENTRIES count) TooManyEntries t.1.1.0;
        fine = t.1.0;
      }

  -- what the tests of a pair and those of the pairs after it say
  record PutsPass (items : List (Entry Name)) (count : ℕ) (pair : Pair) (pairs : List Pair) : Type 0 where
    first : PutPasses items count pair
    others : puts_fault seen section (put_entry items (entry_of pair)) (count + (length (put_entry items (entry_of pair)) - length items)) pairs ≡ None

  puts-pass : (items : List (Entry Name)) (count : ℕ) (pair : Pair) (pairs : List Pair) → puts_fault seen section items count (pair ∷ pairs) ≡ None →
      PutsPass items count pair pairs
  puts-pass items count pair pairs fine =
      let later = puts_fault seen section (put_entry items (entry_of pair)) (count + (length (put_entry items (entry_of pair)) - length items)) pairs in
      let both : option_or (put_fault seen section items count pair) later ≡ None = sym (puts_fault-cons seen section items count pair pairs) ∙ fine in
      record {
        first = put-passes items count pair (no_first (put_fault seen section items count pair) later both);
        others = no_second (put_fault seen section items count pair) later both;
      }

  pub puts-fit : (items : List (Entry Name)) (count : ℕ) (pairs : List Pair) → AllByRecursion (λ (pair : Pair). length pair.value ≤ 12) pairs
      → puts_fault seen section items count pairs ≡ None
      → AllByRecursion (Fits seen section) (map entry_of pairs)
  puts-fit items count [] short fine = tt
  puts-fit items count (pair ∷ pairs) short fine =
      let pass = puts-pass items count pair pairs fine in (
        record {
          there = pass.first.there;
          unfree = pass.first.unfree;
          plain = pass.first.plain;
          value = text_is_decimal pair.value short.0
              (no_value_fault pair.column pair.value pass.first.fine);
        },
        puts-fit (put_entry items (entry_of pair)) (count + (length (put_entry items (entry_of pair)) - length items)) pairs short.1 pass.others,
      )

  -- the entries of all columns are no more than the limit allows
  pub puts-few : (items : List (Entry Name)) (count : ℕ) (pairs : List Pair) → is_section Columns section ≡ true → count ≤ MAX_ENTRIES
      → puts_fault seen section items count pairs ≡ None
      → count + (length (put_entries (map entry_of pairs) items) - length items) ≤ MAX_ENTRIES
  puts-few items count [] columns few fine = omega (arith, few)
  puts-few items count (pair ∷ pairs) columns few fine =
      let pass = puts-pass items count pair pairs fine in
      let next = put_entry items (entry_of pair) in
      let grown : length next - length items ≡ cond (has_entry items pair.row) 0 1 = omega (arith, put-grows items (entry_of pair)) in
      let open_test : (not (has_entry items pair.row) && nat_le MAX_ENTRIES count) ≡ false =
      subst (λ b. (b && not (has_entry items pair.row) && nat_le MAX_ENTRIES count) ≡ false) columns pass.first.few in
      let room : count + cond (has_entry items pair.row) 0 1 ≤ MAX_ENTRIES = by (has_entry items pair.row) open_test in
      let below : count + (length next - length items) ≤ MAX_ENTRIES = omega (arith, grown, room) in
      let rest : count + (length next - length items) + (length (put_entries (map entry_of pairs) next) - length next) ≤ MAX_ENTRIES =
      puts-few next (count + (length next - length items)) pairs columns below pass.others in
      omega (arith, rest, put_entry-length items (entry_of pair), put_entries-length (map entry_of pairs) next)
    where
      by : (b : Bool) → (not b && nat_le MAX_ENTRIES count) ≡ false → count + cond b 0 1 ≤ MAX_ENTRIES
      by true h = omega (arith, few)
      by false h = not_full MAX_ENTRIES count h
