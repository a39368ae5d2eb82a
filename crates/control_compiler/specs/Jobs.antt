-- The cards of a job that aren't skipped, as the compiler goes through them.
use Rattle.std.specs.Prelude.{ℕ, ◌+◌, Bool, List, [], ◌∷◌, Option, length, drop, find}
use Rattle.std.specs.List.{list_any}
use Rattle.card_definitions.specs.Cards.{Card, live, numbered_from, numbered_cards}
use Rattle.control_definitions.specs.declared.ControlFault.{ControlFault}
use Rattle.control_definitions.specs.Compiled.{is_pend, cards_to_pend, misses_label, end_fault}

-- the cards of a job that aren't skipped, and those of them after a number
abbrev pub live_cards : List (List ℕ) → List Card
live_cards job = live (numbered_cards job)

abbrev pub live_after : ℕ → List (List ℕ) → List Card
live_after number job = live (numbered_from (number + 1) (drop number job))

-- the cards after the first
abbrev pub after_head : List Card → List Card
after_head [] = []
after_head (head ∷ cards) = cards

-- whether a card ends the program
abbrev pub has_end : List (List ℕ) → Bool
has_end job = list_any (λ card. is_pend card.bytes) (after_head (live_cards job))

-- the first card of the program whose statement names a label that none of its cards has
abbrev pub first_missing : List (List ℕ) → Option Card
first_missing job = find (misses_label (cards_to_pend (live_cards job))) (cards_to_pend (live_cards job))

-- the fault that decides where no card has one of its own
abbrev pub late_fault : List (List ℕ) → Option ControlFault
late_fault job = end_fault (length job) (has_end job) (first_missing job)
