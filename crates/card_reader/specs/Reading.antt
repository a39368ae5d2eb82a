-- What reading a job answers, and how far it reads.
use Rattle.std.specs.Prelude.{◌≡◌, ℕ, ◌+◌, ◌≤◌, List, Option, Some, None, Result, Ok, Err, IfSome, IsErrOf}
use Rattle.std.specs.Io.KnownBytes.{IsAtEnd}
use Rattle.job_devices.specs.Causes.{Rose}
use Rattle.job_devices.specs.Reading.{ReadsUpTo, ReadsWhole}
use Rattle.card_definitions.specs.Cards.{job_fault}
use Rattle.card_definitions.specs.declared.CardFault.{CardFault}
use Rattle.card_definitions.specs.declared.CardFault.TheVariants as fault
use Rattle.card_definitions.specs.declared.TheConstants.{MAX_JOB_BYTES}
use Rattle.card_reader.specs.declared.stop.CardStop.{CardStop}
use Rattle.card_reader.specs.declared.stop.CardStop.TheVariants.{Fault, NoMemory}
use Rattle.card_reader.specs.declared.stop.ReadingFault.{ReadingFault}
use Rattle.card_reader.specs.declared.stop.ReadingFault.TheVariants.{Source, Card}

-- That the source failed is answered only where its count of faults rose, and the count never falls. Where anything else is answered, it
-- is what it was.
pub record HasCause {T : Type 0} (before now : ℕ) (result : Result T (CardStop ReadingFault)) : Type 0 where
  pub later : before ≤ now
  pub read_fault : IsErrOf result (Fault Source) → Rose before now
  pub quiet : (IsErrOf result (Fault Source) → ⊥) → now ≡ before

-- how far a job is read: one byte more than it may have
abbrev pub read_limit : ℕ
read_limit = MAX_JOB_BYTES + 1

-- the job was read as far as the limit, or to its end
abbrev pub ReadsJob : Option (List ℕ) → Option (List ℕ) → Type 0
ReadsJob old new = ReadsWhole read_limit old new

-- some of the job was read, and no more than to the limit
abbrev pub ReadsPrefix : Option (List ℕ) → Option (List ℕ) → Type 0
ReadsPrefix old new = ReadsUpTo read_limit old new

-- how far a job was read that isn't given: the source may fail, or memory run out, before the end
abbrev pub ReadsAtStop : CardStop ReadingFault → Option (List ℕ) → Option (List ℕ) → Type 0
ReadsAtStop (Fault Source) old new = ReadsPrefix old new
ReadsAtStop (Fault (Card found)) old new = ReadsJob old new
ReadsAtStop NoMemory old new = ReadsPrefix old new

-- how far the job was read
abbrev pub Reads : {T : Type 0} → Result T (CardStop ReadingFault) → Option (List ℕ) → Option (List ℕ) → Type 0
Reads (Ok cards) old new = ReadsJob old new
Reads (Err stop) old new = ReadsAtStop stop old new

-- a fault of a card is reported only where the job was read to its end
abbrev pub EndsAtStop : CardStop ReadingFault → Option (List ℕ) → Type 0
EndsAtStop (Fault (Card (fault.CardTooLong number))) new = IsAtEnd new
EndsAtStop (Fault (Card (fault.NotPrintable number))) new = IsAtEnd new
EndsAtStop stop new = Unit {0}

-- the cards, or a fault of a card, are reported only where the job was read to its end
abbrev pub Ends : {T : Type 0} → Result T (CardStop ReadingFault) → Option (List ℕ) → Type 0
Ends (Ok cards) new = IsAtEnd new
Ends (Err stop) new = EndsAtStop stop new

-- the stop reports the fault that was found; instead of that, the source may fail or memory run out
abbrev pub ReportsCardFault : CardStop ReadingFault → Option CardFault → Type 0
ReportsCardFault (Fault Source) found = Unit {0}
ReportsCardFault (Fault (Card of_cards)) found = found ≡ Some of_cards
ReportsCardFault NoMemory found = Unit {0}

-- Where the job is known, `Ok` says that its cards have no fault, and else the stop reports the fault.
abbrev pub Judges : {T : Type 0} → Result T (CardStop ReadingFault) → Option (List ℕ) → Type 0
Judges (Ok cards) known = IfSome known (λ job. job_fault job ≡ None)
Judges (Err stop) known = IfSome known (λ job. ReportsCardFault stop (job_fault job))
