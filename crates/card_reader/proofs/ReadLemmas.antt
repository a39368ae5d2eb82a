-- How far a job is read.
use Rattle.std.proofs.Common.{◌≡◌, ℕ, ◌≤◌, ◌<◌, List, subst, length, Option, Some, None, IfSome, ◌∙◌, ap, arith}
use Rattle.std.specs.Io.KnownBytes.{IsAtEnd}
use Rattle.std.proofs.lemmas.List.{take_all, length-take}
use Rattle.job_devices.specs.declared.reading.SourceStop.{SourceStop}
use Rattle.job_devices.specs.declared.reading.SourceStop.TheVariants as source
use Rattle.job_devices.proofs.SourceLemmas.{prefix_of_whole, IsKept}
use Rattle.card_definitions.specs.Cards.{job_fault}
use Rattle.card_definitions.specs.declared.CardFault.TheVariants as fault
use Rattle.card_reader.proofs.FaultLemmas.{job_fault-bytes}
use Rattle.card_reader.specs.Reading.{EndsAtStop, ReadsAtStop, ReadsJob, ReadsPrefix, read_limit}
use Rattle.card_reader.specs.Stop.{stop_of_source}
use Rattle.card_reader.specs.declared.stop.CardStop.{CardStop}
use Rattle.card_reader.specs.declared.stop.CardStop.TheVariants.{Fault, NoMemory}
use Rattle.card_reader.specs.declared.stop.ReadingFault.{ReadingFault}
use Rattle.card_reader.specs.declared.stop.ReadingFault.TheVariants.{Source, Card}
use Rattle.card_definitions.specs.declared.TheConstants.{MAX_JOB_BYTES}

-- a job that was read as far as the limit had a prefix read
pub prefix_of_job : (old new : Option (List ℕ)) → ReadsJob old new → ReadsPrefix old new
prefix_of_job old new read = prefix_of_whole read_limit old new read

pub reads_at_stop : (stop : CardStop ReadingFault) (old new : Option (List ℕ)) → ReadsJob old new → ReadsAtStop stop old new
reads_at_stop (Fault Source) old new read = prefix_of_job old new read
reads_at_stop (Fault (Card found)) old new read = read
reads_at_stop NoMemory old new read = prefix_of_job old new read

pub ends_at_stop : (stop : CardStop ReadingFault) (new : Option (List ℕ)) → IsAtEnd new → EndsAtStop stop new
ends_at_stop (Fault Source) new end = tt
ends_at_stop (Fault (Card fault.TooLong)) new end = tt
ends_at_stop (Fault (Card (fault.CardTooLong number))) new end = end
ends_at_stop (Fault (Card (fault.NotPrintable number))) new end = end
ends_at_stop NoMemory new end = tt

-- how far the job was read where its source stopped, and why it did
pub reads_at_source_stop : (stop : SourceStop) (old new : Option (List ℕ)) → ReadsPrefix old new → ReadsAtStop (stop_of_source stop) old new
reads_at_source_stop source.Failed old new prefix = prefix
reads_at_source_stop source.NoMemory old new prefix = prefix

-- what holds of the kept bytes holds of a job that isn't too long
pub holds_of_job : (P : List ℕ → Type 0) (old : Option (List ℕ)) (bytes : List ℕ) → IsKept read_limit old bytes → length bytes ≤ MAX_JOB_BYTES → P bytes →
    IfSome old P
holds_of_job P None bytes kept short p = tt
holds_of_job P (Some job) bytes kept short p =
    let small : length job ≤ read_limit = omega (arith, ap length kept, length-take read_limit job) in
    let same : bytes ≡ job = kept ∙ take_all read_limit job small in
    subst P same p

-- a job of which more bytes were kept than it may have is too long
pub too_long_by_bytes : (old : Option (List ℕ)) (bytes : List ℕ) → IsKept read_limit old bytes → MAX_JOB_BYTES < length bytes →
    IfSome old (λ job. job_fault job ≡ Some fault.TooLong)
too_long_by_bytes None bytes kept long = tt
too_long_by_bytes (Some job) bytes kept long = job_fault-bytes job (omega (arith, ap length kept, length-take read_limit job))
