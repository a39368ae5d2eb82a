-- What is known of a job while its control cards are read.
use Rattle.std.specs.Prelude.{◌≡◌, ℕ, ◌+◌, ◌-◌, ◌≤◌, Bool, true, false, List, [], ◌∷◌, ◌++◌, slice_get, Option, Some, None, Result, Ok, Err, length}
use Rattle.std.specs.Option.{option_or}
use Rattle.std.specs.List.{list_any}
use Rattle.card_definitions.specs.Cards.{Card, last_number}
use Rattle.control_definitions.specs.declared.TheConstants.{MAX_STATEMENTS}
use Rattle.control_definitions.specs.Compiled.{is_pend, program_cards, cards_to_pend, first_control_fault, control_fault, head_fault}
use Rattle.control_definitions.specs.declared.ControlFault.{ControlFault}
use Rattle.card_reader.specs.declared.stop.CardStop.{CardStop}
use Rattle.card_reader.specs.declared.stop.CardStop.TheVariants.{Fault, NoMemory}
use Rattle.control_compiler.specs.declared.draft.Draft.{Draft}
use Rattle.control_compiler.specs.After.{IsAfter}
use Rattle.control_compiler.specs.Jobs.{live_cards, live_after, has_end, late_fault}

-- The first card that isn't skipped has this number.
pub record IsFirst (job : List (List ℕ)) (number : ℕ) : Type 0 where
  pub bytes : List ℕ
  pub positive : 1 ≤ number
  pub within : number ≤ length job
  pub there : slice_get job (number - 1) ≡ Some bytes
  pub live : live_cards job ≡ (record { number = number; bytes = bytes }) ∷ live_after number job

abbrev pub FindsFirst : Option ℕ → List (List ℕ) → Type 0
FindsFirst None job = live_cards job ≡ []
FindsFirst (Some number) job = IsFirst job number

-- A lawful PROGRAM is the first card that isn't skipped, and the draft holds its label.
pub record StandsFirst (job : List (List ℕ)) (first : ℕ) (draft : Draft) : Type 0 where
  pub card : Card
  pub live : live_cards job ≡ card ∷ live_after first job
  pub lawful : head_fault card.bytes ≡ None
  pub after : IsAfter (card ∷ []) draft
  pub empty : draft.statements.items ≡ []

-- the draft of PROGRAM's card, or the card's fault
abbrev pub Begins : Result Draft (CardStop ControlFault) → List (List ℕ) → ℕ → Type 0
Begins (Ok draft) job number = StandsFirst job number draft
Begins (Err (Fault fault)) job number = control_fault job ≡ Some fault
Begins (Err NoMemory) job number = Unit {0}

-- What is known of a job while its cards are read: these were, and the others come.
pub record IsReached (job : List (List ℕ)) (before rest : List Card) : Type 0 where
  pub whole : cards_to_pend (live_cards job) ≡ before ++ program_cards rest
  pub ends : has_end job ≡ list_any (λ (card : Card). is_pend card.bytes) rest
  pub fault : control_fault job ≡ option_or (first_control_fault before (program_cards rest)) (late_fault job)

-- The cards up to this number are read: those of the program are after, without a fault and without PEND.
pub record IsUnderway (job : List (List ℕ)) (number : ℕ) (draft : Draft) : Type 0 where
  pub before : List Card
  pub reached : IsReached job before (live_after number job)
  pub after : IsAfter before draft
  pub count : length before ≡ length draft.statements.items + 1
  pub few : length draft.statements.items ≤ MAX_STATEMENTS

-- The card of this number is PEND, and no card has a fault of its own.
pub record IsThrough (job : List (List ℕ)) (number : ℕ) (draft : Draft) : Type 0 where
  pub after : IsAfter (cards_to_pend (live_cards job)) draft
  pub ends : has_end job ≡ true
  pub fault : control_fault job ≡ late_fault job
  pub count : length (cards_to_pend (live_cards job)) ≡ length draft.statements.items + 2
  pub last : number ≡ last_number (cards_to_pend (live_cards job))
  pub few : length draft.statements.items ≤ MAX_STATEMENTS

-- what becomes of a draft by the card of this number, which may be skipped
abbrev pub Passes : Result Bool (CardStop ControlFault) → List (List ℕ) → ℕ → Draft → Type 0
Passes (Ok false) job number draft = IsUnderway job number draft
Passes (Ok true) job number draft = IsThrough job number draft
Passes (Err (Fault fault)) job number draft = control_fault job ≡ Some fault
Passes (Err NoMemory) job number draft = Unit {0}
