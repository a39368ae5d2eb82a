-- The decks of a job whose cards have no fault hold printable cards, and so does each deck that is taken.
use Rattle.std.proofs.Common.{◌≡◌, ℕ, zero, suc, ◌-◌, Bool, true, false, cond, not, List, [], ◌∷◌, Option, Some, None, length, map, ltb, drop, filter, subst}
use Rattle.std.specs.List.{AllByRecursion, list_all, onto_first, prefix_len}
use Rattle.std.proofs.lemmas.Option.{same_Some}
use Rattle.std.proofs.lemmas.Bool.{not-false}
use Rattle.card_definitions.specs.declared.CardFault.TheVariants.{TooLong, NotPrintable, CardTooLong}
use Rattle.card_definitions.specs.declared.TheConstants.{CARD_COLUMNS}
use Rattle.card_definitions.specs.Words.{◌⟹◌, is_empty, without_leading}
use Rattle.card_definitions.specs.Cards.{Card, cards_of, numbered_cards, is_skipped, is_printable, card_fault, is_too_long, job_fault}
use Rattle.card_definitions.proofs.FirstFaults.{passes, test_fails}
use Rattle.problem_definitions.specs.Names.{Name}
use Rattle.deck_definitions.specs.declared.Section.TheVariants.{Endata}
use Rattle.deck_definitions.specs.Sections.{begins}
use Rattle.deck_definitions.specs.Decks.{parts_ended_by, decks_of, is_wanted, first_and_rest, deck_taken}
use Rattle.deck_definitions.specs.Readings.{ArePrintableCards}
use Rattle.control_definitions.specs.Program.{Program}
use Rattle.run_definitions.specs.Answer.{job_decks}

-- ---- the cards of a job

printable_card : (card : Card) → card_fault card ≡ None → list_all is_printable card.bytes ≡ true
printable_card card none =
    not-false (list_all is_printable card.bytes) (test_fails (not (list_all is_printable card.bytes)) (NotPrintable card.number) (passes (
    (not (list_all is_printable card.bytes) ⟹ NotPrintable card.number) ∷ (ltb CARD_COLUMNS (length card.bytes) ⟹ CardTooLong card.number) ∷ []) none).0)

printable_cards : (cards : List Card) → AllByRecursion (λ test. test ≡ None) (map card_fault cards) → ArePrintableCards cards
printable_cards [] none = tt
printable_cards (card ∷ cards) none = (printable_card card none.0, printable_cards cards none.1)

printable_job : (bytes : List ℕ) → job_fault bytes ≡ None → ArePrintableCards (numbered_cards (cards_of bytes))
unfolding job_fault
printable_job bytes none =
    printable_cards (numbered_cards (cards_of bytes)) (passes ((is_too_long bytes ⟹ TooLong) ∷ map card_fault (numbered_cards (cards_of bytes))) none).1

-- ---- what holds of each element of a list holds of each of its parts

module _ {X : Type 0} (P : X → Type 0) where
  dropped : (n : ℕ) (xs : List X) → AllByRecursion P xs → AllByRecursion P (drop n xs)
  dropped zero xs each = each
  dropped (suc n) [] each = tt
  dropped (suc n) (x ∷ xs) each = dropped n xs each.1

  passing : (p : X → Bool) (xs : List X) → AllByRecursion P xs → AllByRecursion P (filter p xs)
  passing p [] each = tt
  passing p (x ∷ xs) each = by (p x) (passing p xs each.1)
    where
      by : (b : Bool) → AllByRecursion P (filter p xs) → AllByRecursion P (cond b (x ∷ filter p xs) (filter p xs))
      by true rest = (each.0, rest)
      by false rest = rest

  put_first : (x : X) (parts : List (List X)) → P x → AllByRecursion (AllByRecursion P) parts → AllByRecursion (AllByRecursion P) (onto_first x parts)
  put_first x [] holds each = ((holds, tt), tt)
  put_first x (part ∷ parts) holds each = ((holds, each.0), each.1)

  in_parts : (p : X → Bool) (xs : List X) → AllByRecursion P xs → AllByRecursion (AllByRecursion P) (parts_ended_by p xs)
  in_parts p [] each = tt
  in_parts p (x ∷ xs) each = by (p x) (in_parts p xs each.1)
    where
      by : (b : Bool) → AllByRecursion (AllByRecursion P) (parts_ended_by p xs) →
          AllByRecursion (AllByRecursion P) (cond b ((x ∷ []) ∷ parts_ended_by p xs) (onto_first x (parts_ended_by p xs)))
      by true rest = ((each.0, tt), rest)
      by false rest = put_first x (parts_ended_by p xs) each.0 rest

  -- of each part, the elements after those at its front that pass
  trimmed : (p : X → Bool) (parts : List (List X)) → AllByRecursion (AllByRecursion P) parts → AllByRecursion (AllByRecursion P) (map (without_leading p) parts)
  trimmed p [] each = tt
  trimmed p (part ∷ parts) each = (dropped (prefix_len p part) part each.0, trimmed p parts each.1)

  first_of : (xs : List X) (taken : X × List X) → AllByRecursion P xs → first_and_rest xs ≡ Some taken → P taken.0 × AllByRecursion P taken.1
  first_of [] taken each e = absurd (cc e)
  first_of (x ∷ xs) taken each e = subst (λ (t : X × List X). P t.0 × AllByRecursion P t.1) (same_Some (x, xs) taken e) each

-- ---- decks

abbrev IsPrintable : Card → Type 0
IsPrintable card = list_all is_printable card.bytes ≡ true

decks_printable : (cards : List Card) → ArePrintableCards cards → AllByRecursion ArePrintableCards (decks_of cards)
unfolding decks_of
decks_printable cards printable =
    passing ArePrintableCards (λ deck. not (is_empty deck))
    (map (without_leading (λ (card : Card). is_skipped card.bytes)) (parts_ended_by (begins Endata) cards))
    (trimmed IsPrintable (λ (card : Card). is_skipped card.bytes) (parts_ended_by (begins Endata) cards) (in_parts IsPrintable (begins Endata) cards printable))

-- the decks of a job whose cards have no fault
pub job_printable : (bytes : List ℕ) (program : Program) → job_fault bytes ≡ None → AllByRecursion ArePrintableCards (job_decks program bytes)
job_printable bytes program none =
    decks_printable (drop (program.decks_from - 1) (numbered_cards (cards_of bytes)))
    (dropped IsPrintable (program.decks_from - 1) (numbered_cards (cards_of bytes)) (printable_job bytes none))

-- a deck that is taken, and those that are left
pub taken_printable : (name : Option Name) (decks : List (List Card)) (taken : List Card × List (List Card)) → AllByRecursion ArePrintableCards decks →
    deck_taken name decks ≡ Some taken →
    ArePrintableCards taken.0 × AllByRecursion ArePrintableCards taken.1
unfolding deck_taken
taken_printable name decks taken printable e =
    first_of ArePrintableCards (without_leading (λ deck. not (is_wanted name deck)) decks) taken
    (dropped ArePrintableCards (prefix_len (λ deck. not (is_wanted name deck)) decks) decks printable) e
