-- The tests of a card's pairs, one after another.
use Rattle.std.proofs.Common.{◌≡◌, ℕ, ◌+◌, List, [], ◌∷◌, ◌++◌, Option, length, map, refl, ap, ap₂, sym, ◌∙◌, arith}
use Rattle.std.specs.Option.{option_or}
use Rattle.std.proofs.lemmas.List.{append_assoc, append-nil}
use Rattle.card_definitions.specs.Words.{first_fault}
use Rattle.card_definitions.proofs.FirstFaults.{each_after-same, each_after-shift}
use Rattle.problem_definitions.specs.Names.{Name}
use Rattle.problem_definitions.specs.Problem.{Problem, Entry}
use Rattle.deck_definitions.specs.declared.DeckFaultKind.{DeckFaultKind}
use Rattle.deck_definitions.specs.declared.Section.{Section}
use Rattle.deck_definitions.specs.DataCards.{Pair, entry_of}
use Rattle.deck_definitions.specs.Tests.{pair_fault, pairs_fault}

module _ (seen : Problem Name) (section : Section) (taken : List (Entry Name)) (count : ℕ) where
  -- the test of a pair after others
  abbrev after : List Pair → Pair → Option DeckFaultKind
  after before pair = pair_fault seen section (taken ++ map entry_of before) (count + length before) pair

  -- the first pair is tested against what is there, and the others as if its entry were there too
  pub pairs_fault-cons : (pair : Pair) (pairs : List Pair)
      → pairs_fault seen section taken count (pair ∷ pairs) ≡ option_or (pair_fault seen section taken count pair)
      (pairs_fault seen section (taken ++ entry_of pair ∷ []) (count + 1) pairs)
  pairs_fault-cons pair pairs =
      ap₂ option_or first
      (ap first_fault (each_after-shift after (pair ∷ []) [] pairs ∙ each_after-same (λ before. after (pair ∷ before)) later same_later [] pairs))
    where
      later : List Pair → Pair → Option DeckFaultKind
      later before next = pair_fault seen section ((taken ++ entry_of pair ∷ []) ++ map entry_of before) (count + 1 + length before) next

      first : after [] pair ≡ pair_fault seen section taken count pair
      first = let none : count + 0 ≡ count = omega arith in rw (append-nil taken, none) refl

      same_later : (before : List Pair) (next : Pair) → after (pair ∷ before) next ≡ later before next
      same_later before next =
          let more : count + length (pair ∷ before) ≡ count + 1 + length before = omega arith in
          ap₂ (λ entries n. pair_fault seen section entries n next) (sym (append_assoc taken (entry_of pair ∷ []) (map entry_of before))) more
