-- What the status of a check reports of its devices, and what stands in the print where a write has stopped.
--     Counts                        how often each device has failed or found no memory
--     IsReported before now status  each count that has grown is reported by the status
--     IsStill .. old new            nothing was written after a write that stopped
--     EndsWith .. text own status   a line is printed, and the status is its own; or the print stops in it
use Rattle.std.specs.Prelude.{◌≡◌, ◌⊎◌, ◌<◌, ℕ, List, Ok, Err}
use Rattle.job_devices.specs.States.{SinkState}
use Rattle.job_devices.specs.declared.device.WriteStop.{WriteStop}
use Rattle.job_devices.specs.Causes.{Rose}
use Rattle.job_devices.specs.Text.{Writes}
use Rattle.listing_check.specs.declared.status.CheckStatus.{CheckStatus}
use Rattle.listing_check.specs.Statuses.{cut_status}

-- how often a read of the job has failed, one of the listing, and a write to the print, and how often the print has found no memory
pub record Counts : Type 0 where
  pub job : ℕ
  pub listing : ℕ
  pub print : ℕ
  pub print_memory : ℕ

module _ (before now : Counts) where
  -- the print has failed, and the status is 25; or it has found no memory, and the status is 28
  pub data StopsAtPrint (status : ℕ) : Type 0 where
    print_failed : status ≡ 25 → Rose before.print now.print → StopsAtPrint status
    print_wants_memory : status ≡ 28 → Rose before.print_memory now.print_memory → StopsAtPrint status

  -- WHAT THE STATUS REPORTS. Where the print has failed, the status is 25, and where it has found no memory, 28. Where a read of the job
  -- has failed, it is 24, and where one of the listing has, 27; unless the print has stopped as well, and the status reports that. A count
  -- has grown where it is greater than before; so one that stands still at the last value of a u64 claims nothing.
  pub record IsReported (status : ℕ) : Type 0 where
    pub print_fault : before.print < now.print → status ≡ 25
    pub print_memory : before.print_memory < now.print_memory → status ≡ 28
    pub job_fault : before.job < now.job → (status ≡ 24) ⊎ StopsAtPrint status
    pub listing_fault : before.listing < now.listing → (status ≡ 27) ⊎ StopsAtPrint status

module _ (old new : SinkState) where
  -- Where the print has failed or found no memory, what it holds is what it held then: nothing was written after.
  pub record IsStill : Type 0 where
    pub after_fault : old.faults < new.faults → new.written ≡ new.stopped_at
    pub after_refusal : old.refusals < new.refusals → new.written ≡ new.stopped_at

  pub data EndsWith (text : List ℕ) (own status : CheckStatus) : Type 0 where
    printed : status ≡ own → Writes {T = Unit {0}} old new (Ok tt) text → EndsWith text own status
    cut_off : (stop : WriteStop) → status ≡ cut_status stop → Writes {T = Unit {0}} old new (Err stop) text →
        EndsWith text own status
