-- The tests of a card's pairs that replace items or add them, one after another.
use Rattle.std.proofs.Common.{◌≡◌, ℕ, ◌+◌, ◌-◌, ◌≤◌, Bool, true, false, cond, List, [], ◌∷◌, ◌++◌, Option, length, map, ap, ap₂, ◌∙◌, arith}
use Rattle.std.specs.Option.{option_or}
use Rattle.std.proofs.lemmas.List.{length-append, length-map}
use Rattle.card_definitions.specs.Words.{first_fault}
use Rattle.card_definitions.proofs.FirstFaults.{each_after-same, each_after-shift}
use Rattle.problem_definitions.specs.Names.{Name, same}
use Rattle.problem_definitions.specs.Problem.{Problem, Entry, has_entry}
use Rattle.deck_definitions.specs.declared.DeckFaultKind.{DeckFaultKind}
use Rattle.deck_definitions.specs.declared.Section.{Section}
use Rattle.deck_definitions.specs.DataCards.{Pair, entry_of}
use Rattle.revise_definitions.specs.Edits.{put_entry, put_entries}
use Rattle.revise_definitions.specs.Tests.{put_fault, puts_fault}

-- an entry put takes none away
pub put_entry-length : (entries : List (Entry Name)) (entry : Entry Name) → length entries ≤ length (put_entry entries entry)
put_entry-length entries entry = by (has_entry entries entry.row)
  where
    replaced : length (map (λ other. cond (same entry.row other.row) entry other) entries) ≡ length entries
    replaced = length-map entries (λ other. cond (same entry.row other.row) entry other)

    by : (b : Bool) → length entries ≤ length (cond b (map (λ other. cond (same entry.row other.row) entry other) entries) (entries ++ entry ∷ []))
    by true = omega (arith, replaced)
    by false = omega (arith, length-append entries (entry ∷ []))

pub put_entries-length : (new entries : List (Entry Name)) → length entries ≤ length (put_entries new entries)
put_entries-length [] entries = omega arith
put_entries-length (entry ∷ new) entries = omega (arith, put_entry-length entries entry, put_entries-length new (put_entry entries entry))

module _ (seen : Problem Name) (section : Section) where
  -- the test of a pair after others
  abbrev after : List (Entry Name) → ℕ → List Pair → Pair → Option DeckFaultKind
  after items count before pair =
      put_fault seen section (put_entries (map entry_of before) items) (count + (length (put_entries (map entry_of before) items) - length items)) pair

  -- the first pair is tested against the items that are there, and the others against what it leaves
  pub puts_fault-cons : (items : List (Entry Name)) (count : ℕ) (pair : Pair) (pairs : List Pair)
      → puts_fault seen section items count (pair ∷ pairs)
      ≡ option_or (put_fault seen section items count pair)
      (puts_fault seen section (put_entry items (entry_of pair)) (count + (length (put_entry items (entry_of pair)) - length items)) pairs)
  puts_fault-cons items count pair pairs =
      ap₂ option_or first
      (ap first_fault
      (each_after-shift (after items count) (pair ∷ []) [] pairs
      ∙ each_after-same (λ before. after items count (pair ∷ before)) (after next (count + (length next - length items))) same_later [] pairs))
    where
      next : List (Entry Name)
      next = put_entry items (entry_of pair)

      first : after items count [] pair ≡ put_fault seen section items count pair
      first = let none : count + (length items - length items) ≡ count = omega arith in ap (λ n. put_fault seen section items n pair) none

      same_later : (before : List Pair) (other : Pair) →
          after items count (pair ∷ before) other ≡ after next (count + (length next - length items)) before other
      same_later before other =
          let more : count + (length (put_entries (map entry_of before) next) - length items) ≡ count + (length next - length items) +
          (length (put_entries (map entry_of before) next) - length next)
          = omega (arith, put_entry-length items (entry_of pair), put_entries-length (map entry_of before) next) in
          ap (λ n. put_fault seen section (put_entries (map entry_of before) next) n other) more
