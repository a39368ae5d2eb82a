-- What reading and compiling a job's control cards may answer.
use Rattle.std.specs.Prelude.{◌≡◌, ℕ, ◌+◌, ◌≤◌, List, Option, Some, None, Result, Ok, Err, length, is_some, IfSome, if◌then◌else◌}
use Rattle.card_definitions.specs.Cards.{last_number}
use Rattle.control_definitions.specs.declared.ControlFault.{ControlFault}
use Rattle.control_definitions.specs.Program.{Program}
use Rattle.control_definitions.specs.Compiled.{control_fault, cards_to_pend}
use Rattle.control_definitions.specs.declared.TheConstants.{MAX_STATEMENTS}
use Rattle.card_reader.specs.declared.stop.CardStop.{CardStop}
use Rattle.card_reader.specs.declared.stop.CardStop.TheVariants.{Fault, NoMemory}
use Rattle.control_compiler.specs.declared.reading.Reading.{Reading}
use Rattle.control_compiler.specs.After.{IsAfter}
use Rattle.control_compiler.specs.Jobs.{live_cards, has_end, late_fault}

-- what is read of a job none of whose cards has a fault of its own: its statements and labels, and PEND's number, if it has one
pub record IsRead (job : List (List ℕ)) (reading : Reading) : Type 0 where
  pub after : IsAfter (cards_to_pend (live_cards job)) reading.draft
  pub ends : is_some reading.end ≡ has_end job
  pub fault : control_fault job ≡ late_fault job
  pub count : length (cards_to_pend (live_cards job)) ≡ length reading.draft.statements.items + (if is_some reading.end then 2 else 1)
  pub last : IfSome reading.end (λ number. number ≡ last_number (cards_to_pend (live_cards job)))
  pub within : IfSome reading.end (λ number. number ≤ length job)
  pub few : length reading.draft.statements.items ≤ MAX_STATEMENTS

-- The job's first fault, or what was read. Memory may run out at any time.
abbrev pub Reads : Result Reading (CardStop ControlFault) → List (List ℕ) → Type 0
Reads (Ok reading) job = IsRead job reading
Reads (Err (Fault fault)) job = control_fault job ≡ Some fault
Reads (Err NoMemory) job = Unit {0}

-- The number of PEND's card, or the fault of the program as a whole.
abbrev pub EndsAt : Result ℕ ControlFault → Option ℕ → Option ControlFault → Type 0
EndsAt (Ok number) pend fault = (pend ≡ Some number) × (fault ≡ None)
EndsAt (Err reported) pend fault = fault ≡ Some reported

-- A fault is the one that the cards have, and memory may run out at any time.
abbrev pub ReportsControlFault : Result Program ControlFault → CardStop ControlFault → Type 0
ReportsControlFault outcome (Fault fault) = outcome ≡ Err fault
ReportsControlFault outcome NoMemory = Unit {0}
