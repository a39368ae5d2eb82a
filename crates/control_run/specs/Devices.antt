-- What the status of a call reports of its devices, and what stands in them where a write has stopped.
--     Counts                        how often each device has failed or found no memory
--     counts .. read print punch    the counts of these devices, where so many reads have failed
--     IsReported before now status  each count that has grown is reported by the status
--     IsStill .. old new            nothing was written after a write that stopped
--     Leaves .. result              what a device counts and holds where the last write to it came to this result
use Rattle.std.specs.Prelude.{◌≡◌, ◌⊎◌, ◌<◌, ℕ, Result}
use Rattle.job_devices.specs.States.{SinkState}
use Rattle.job_devices.specs.declared.device.WriteStop.{WriteStop}
use Rattle.job_devices.specs.Causes.{Rose, HasWriteCause, KeepsStop}

-- how often a read of the job has failed, a write to the print and one to the punch, and how often the print and the punch have found
-- no memory
pub record Counts : Type 0 where
  pub read : ℕ
  pub print : ℕ
  pub print_memory : ℕ
  pub punch : ℕ
  pub punch_memory : ℕ

-- the counts of a print and a punch by what each counts, where so many reads have failed
abbrev pub counts : ℕ → SinkState → SinkState → Counts
counts read print punch =
    record { read = read; print = print.faults; print_memory = print.refusals; punch = punch.faults; punch_memory = punch.refusals }

module _ (before now : Counts) where
  -- the print has failed, and the status is 25; or it has found no memory, and the status is 28
  pub data StopsAtPrint (status : ℕ) : Type 0 where
    print_failed : status ≡ 25 → Rose before.print now.print → StopsAtPrint status
    print_wants_memory : status ≡ 28 → Rose before.print_memory now.print_memory → StopsAtPrint status

  -- WHAT THE STATUS REPORTS. Where the print has failed, the status is 25, and where it has found no memory, 28. Where a read has failed,
  -- it is 24, where the punch has failed, 26, and where the punch has found no memory, 28; unless the print has stopped as well, and
  -- the status reports that. A count has grown where it is greater than before; so one that stands still at the last value of a u64 claims
  -- nothing.
  pub record IsReported (status : ℕ) : Type 0 where
    pub print_fault : before.print < now.print → status ≡ 25
    pub print_memory : before.print_memory < now.print_memory → status ≡ 28
    pub read_fault : before.read < now.read → (status ≡ 24) ⊎ StopsAtPrint status
    pub punch_fault : before.punch < now.punch → (status ≡ 26) ⊎ StopsAtPrint status
    pub punch_memory : before.punch_memory < now.punch_memory → (status ≡ 28) ⊎ StopsAtPrint status

-- Where a device has failed or found no memory, what it holds is what it held then: nothing was written after.
pub record IsStill (old new : SinkState) : Type 0 where
  pub after_fault : old.faults < new.faults → new.written ≡ new.stopped_at
  pub after_refusal : old.refusals < new.refusals → new.written ≡ new.stopped_at

-- what a device counts where the last write to it came to this result, and what it held when a write last stopped
pub record Leaves (old new : SinkState) (result : Result (Unit {0}) WriteStop) : Type 0 where
  pub cause : HasWriteCause old new result
  pub stopped : KeepsStop old new result
