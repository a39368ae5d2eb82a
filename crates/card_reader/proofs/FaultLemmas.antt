-- The fault of a job's cards, card by card.
use Rattle.std.proofs.Common.{◌≡◌, ℕ, ◌+◌, ◌<◌, ◌≤◌, Bool, true, false, not, List, [], ◌∷◌, ◌++◌, Option, Some, None, length, map, All, refl, sym, ◌∙◌, ap}
use Rattle.std.proofs.Common.{arith}
use Rattle.std.specs.Prelude.{nat_lt}
use Rattle.std.specs.Option.{option_or}
use Rattle.std.specs.List.{list_all}
use Rattle.std.proofs.lemmas.Bool.Decides.{nat_tests}
use Rattle.std.proofs.lemmas.List.{map-append}
use Rattle.std.proofs.lemmas.List.Elements.{All-cons, All-nil}
use Rattle.std.proofs.lemmas.Bool.{or_left, or_right, or_from}
use Rattle.card_definitions.proofs.FirstFaults.{first_fault-append, no_first, no_second}
use Rattle.card_definitions.specs.Words.{first_fault, ◌⟹◌}
use Rattle.card_definitions.specs.Cards.{Card, card_fault, is_printable, cards_of, job_fault, numbered_cards, numbered_from}
use Rattle.card_definitions.specs.declared.CardFault.{CardFault}
use Rattle.card_definitions.specs.declared.CardFault.TheVariants.{TooLong, NotPrintable, CardTooLong}
use Rattle.card_definitions.proofs.Numbered.{numbered_from-append}
use Rattle.card_reader.specs.Spans.{IsFaultless}
use Rattle.card_definitions.specs.declared.TheConstants.{MAX_JOB_CARDS, MAX_JOB_BYTES}

-- the fault of the first card that has one
abbrev pub fault_of_cards : List (List ℕ) → Option CardFault
fault_of_cards cards = first_fault (map card_fault (numbered_cards cards))

first_fault-one : {F : Type 0} (test : Option F) → first_fault (test ∷ []) ≡ test
first_fault-one None = refl
first_fault-one (Some fault) = refl

-- one more card
pub fault_of_cards-append : (cards : List (List ℕ)) (card : List ℕ) (number : ℕ) → number ≡ length cards + 1 →
    fault_of_cards (cards ++ card ∷ []) ≡ option_or (fault_of_cards cards) (card_fault (record { number = number; bytes = card }))
fault_of_cards-append cards card number at =
    let place : 1 + length cards ≡ number = omega arith in
    let last : Card = record { number = number; bytes = card } in
    ap (λ list. first_fault (map card_fault list))
    (numbered_from-append 1 cards (card ∷ []) ∙ ap (λ n. numbered_cards cards ++ numbered_from n (card ∷ [])) place)
    ∙ ap first_fault (map-append card_fault (numbered_cards cards) (last ∷ []))
    ∙ first_fault-append (map card_fault (numbered_cards cards)) (card_fault last ∷ [])
    ∙ ap (option_or (fault_of_cards cards)) (first_fault-one (card_fault last))

-- more bytes than a job may have
pub job_fault-bytes : (job : List ℕ) → MAX_JOB_BYTES < length job → job_fault job ≡ Some TooLong
unfolding job_fault
job_fault-bytes job long =
    let size : nat_lt MAX_JOB_BYTES (length job) ≡ true = grind (arith, nat_tests) in
    ap (λ t. first_fault ((t ⟹ TooLong) ∷ map card_fault (numbered_cards (cards_of job))))
    (or_left (nat_lt MAX_JOB_BYTES (length job)) (nat_lt MAX_JOB_CARDS (length (cards_of job))) size)

-- more cards than a job may have
pub job_fault-cards : (job : List ℕ) → MAX_JOB_CARDS < length (cards_of job) → job_fault job ≡ Some TooLong
unfolding job_fault
job_fault-cards job many =
    let count : nat_lt MAX_JOB_CARDS (length (cards_of job)) ≡ true = grind (arith, nat_tests) in
    ap (λ t. first_fault ((t ⟹ TooLong) ∷ map card_fault (numbered_cards (cards_of job))))
    (or_right (nat_lt MAX_JOB_BYTES (length job)) (nat_lt MAX_JOB_CARDS (length (cards_of job))) count)

-- neither, so the fault is that of the first card that has one
pub job_fault-within : (job : List ℕ) (cards : List (List ℕ)) → length job ≤ MAX_JOB_BYTES → length cards ≤ MAX_JOB_CARDS → cards ≡ cards_of job →
    job_fault job ≡ fault_of_cards cards
unfolding job_fault
job_fault-within job cards short few all =
    let size : nat_lt MAX_JOB_BYTES (length job) ≡ false = grind (arith, nat_tests) in
    let fewer : length (cards_of job) ≤ MAX_JOB_CARDS = omega (arith, ap length all) in
    let count : nat_lt MAX_JOB_CARDS (length (cards_of job)) ≡ false = grind (arith, nat_tests) in
    ap (λ t. first_fault ((t ⟹ TooLong) ∷ map card_fault (numbered_cards (cards_of job))))
    (or_from (nat_lt MAX_JOB_BYTES (length job)) (nat_lt MAX_JOB_CARDS (length (cards_of job))) size count)
    ∙ ap fault_of_cards (sym all)

-- a card without a fault is printable, and short enough
faultless_card : (number : ℕ) (card : List ℕ) → card_fault (record { number = number; bytes = card }) ≡ None → IsFaultless card
faultless_card number card none = by (list_all is_printable card) refl (nat_lt 80 (length card)) refl none
  where
    by : (printable : Bool) → list_all is_printable card ≡ printable → (long : Bool) → nat_lt 80 (length card) ≡ long
        → first_fault ((not printable ⟹ NotPrintable number) ∷ (long ⟹ CardTooLong number) ∷ []) ≡ None → IsFaultless card
    by true p false q e = record { printable = cc; short = grind (arith, nat_tests) }
    by true p true q e = cc
    by false p long q e = cc

-- where no card has a fault, each is printable, and short enough
pub faultless : (cards : List (List ℕ)) → fault_of_cards cards ≡ None → All IsFaultless cards
faultless cards none = from 1 cards none
  where
    from : (number : ℕ) (cards : List (List ℕ)) → first_fault (map card_fault (numbered_from number cards)) ≡ None → All IsFaultless cards
    from number [] e = All-nil IsFaultless
    from number (card ∷ cards) e =
        let first = card_fault (record { number = number; bytes = card }) in
        let rest = first_fault (map card_fault (numbered_from (number + 1) cards)) in
        All-cons IsFaultless card cards (faultless_card number card (no_first first rest e)) (from (number + 1) cards (no_second first rest e))
