-- What a call that reads a source as far as a number of bytes leaves in it.
--     ReadsUpTo most old new       some of the bytes were read, and no more than so many
--     ReadsWhole most old new      all of them were read, or so many
--     HasSourceCause               why such a call stops
use Rattle.std.specs.Prelude.{◌≡◌, ℕ, ◌≤◌, List, length, drop, Option, Some, None, Result, IsErrOf}
use Rattle.std.specs.Io.KnownBytes.{Consumes}
use Rattle.job_devices.specs.Causes.{Rose}
use Rattle.job_devices.specs.States.{SourceState}
use Rattle.job_devices.specs.declared.reading.SourceStop.{SourceStop}
use Rattle.job_devices.specs.declared.reading.SourceStop.TheVariants.{Failed}

abbrev pub ReadsUpTo : ℕ → Option (List ℕ) → Option (List ℕ) → Type 0
ReadsUpTo most old new = (prefix : List ℕ) × (length prefix ≤ most) × Consumes old new prefix

abbrev pub ReadsWhole : ℕ → Option (List ℕ) → Option (List ℕ) → Type 0
ReadsWhole most None new = Unit {0}
ReadsWhole most (Some bytes) None = ⊥
ReadsWhole most (Some bytes) (Some rest) = rest ≡ drop most bytes

-- `Failed` is answered only where the source's count of faults rose, and the count never falls. Where anything else is answered, it is
-- what it was.
pub record HasSourceCause {T : Type 0} (old new : SourceState) (result : Result T SourceStop) : Type 0 where
  pub later : old.faults ≤ new.faults
  pub failed : IsErrOf result Failed → Rose old.faults new.faults
  pub quiet : (IsErrOf result Failed → ⊥) → new.faults ≡ old.faults
