-- Why the program of a job isn't run.
--     stop_view stop               the end of the listing
--     ReportsEarlyStop known stop  what a stop says of a job
--     ArePrepared known prepared   the cards and the program are those of a job
--     HasStopCause .. stop         why a job that is read is stopped
use Rattle.std.specs.Prelude.{◌≡◌, ℕ, List, Option, None, Some, Err, IfSome}
use Rattle.card_definitions.specs.Cards.{cards_of, job_fault}
use Rattle.card_reader.specs.declared.stop.CardStop.{CardStop}
use Rattle.card_reader.specs.declared.stop.CardStop.TheVariants as cards
use Rattle.card_reader.specs.declared.stop.ReadingFault.{ReadingFault}
use Rattle.card_reader.specs.declared.stop.ReadingFault.TheVariants as reading
use Rattle.command_line.specs.declared.request.WordsStop.{WordsStop}
use Rattle.command_line.specs.declared.request.WordsStop.TheVariants as words
use Rattle.control_definitions.specs.Compiled.{compiled}
use Rattle.control_definitions.specs.declared.ControlFault.{ControlFault}
use Rattle.listing_definitions.specs.Ending.{Ending}
use Rattle.listing_definitions.specs.Ending as endings
use Rattle.run_definitions.specs.Answer.{IsProgramOf}
use Rattle.job_program.specs.declared.reading.Prepared.{Prepared}
use Rattle.job_program.specs.declared.stop.EarlyStop.{EarlyStop}
use Rattle.job_program.specs.declared.stop.EarlyStop.TheVariants.{Words, ReadFault, Card, Control, Memory}

-- the end of the run in the words of the listing
abbrev pub stop_view : EarlyStop → Ending
stop_view Words = endings.WordsRefused
stop_view ReadFault = endings.ReadFault
stop_view (Card fault) = endings.CardStop fault
stop_view (Control fault) = endings.ControlStop fault
stop_view Memory = endings.Memory

-- where the words ask for nothing
abbrev pub stop_of_words : WordsStop → EarlyStop
stop_of_words words.Refused = Words
stop_of_words words.NoMemory = Memory

-- where the job isn't read
abbrev pub stop_of_reading : CardStop ReadingFault → EarlyStop
stop_of_reading (cards.Fault reading.Source) = ReadFault
stop_of_reading (cards.Fault (reading.Card fault)) = Card fault
stop_of_reading cards.NoMemory = Memory

-- where the program isn't compiled
abbrev pub stop_of_compiling : CardStop ControlFault → EarlyStop
stop_of_compiling (cards.Fault fault) = Control fault
stop_of_compiling cards.NoMemory = Memory

-- Where the job is known, the stop reports the fault of its cards, or else the fault of its program. Instead of that, the source may
-- fail or memory run out. The words have nothing to do with the job.
abbrev pub ReportsEarlyStop : Option (List ℕ) → EarlyStop → Type 0
ReportsEarlyStop known Words = ⊥
ReportsEarlyStop known ReadFault = Unit {0}
ReportsEarlyStop known (Card fault) = IfSome known (λ job. job_fault job ≡ Some fault)
ReportsEarlyStop known (Control fault) = IfSome known (λ job. (job_fault job ≡ None) × (compiled (cards_of job) ≡ Err fault))
ReportsEarlyStop known Memory = Unit {0}

-- where the job is known, these are its cards and its program
abbrev pub ArePrepared : Option (List ℕ) → Prepared → Type 0
ArePrepared None prepared = Unit {0}
ArePrepared (Some job) prepared = (prepared.cards ≡ cards_of job) × IsProgramOf job prepared.program

-- why the program of a job that is read isn't run
abbrev pub HasStopCause : Type 0 → Type 0 → EarlyStop → Type 0
HasStopCause read_failed is_read Words = ⊥
HasStopCause read_failed is_read ReadFault = read_failed
HasStopCause read_failed is_read (Card fault) = is_read
HasStopCause read_failed is_read (Control fault) = is_read
HasStopCause read_failed is_read Memory = Unit {0}
