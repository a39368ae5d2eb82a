-- The end of a listing, and the status then; and what may fail in a run.
use Rattle.std.specs.Prelude.{◌≡◌, Ok, Err}
use Rattle.job_devices.specs.States.{SinkState}
use Rattle.job_devices.specs.declared.device.WriteStop.{WriteStop}
use Rattle.job_devices.specs.declared.device.WriteStop.TheVariants.{Failed, NoMemory}
use Rattle.job_devices.specs.Text.{Writes}
use Rattle.listing_definitions.specs.Ending.{Ending, status_of}
use Rattle.listing_definitions.specs.Ending as endings
use Rattle.listing_definitions.specs.Listing.{ending_text}
use Rattle.run_definitions.specs.Answer.{Failures}
use Rattle.run_machine.specs.declared.act.Halt.{Halt}
use Rattle.run_machine.specs.declared.act.Halt.TheVariants as halt
use Rattle.control_run.specs.declared.status.RunStatus.{RunStatus}
use Rattle.control_run.specs.declared.status.RunStatus.TheVariants.{PrintFault, Memory}
use Rattle.control_run.specs.Statuses.{code_of}

-- the status where the print takes no more
abbrev pub cut_status : WriteStop → RunStatus
cut_status Failed = PrintFault
cut_status NoMemory = Memory

-- the end's own lines are printed, and the status is that of the end; or the print stops in them
pub data Finishes (old new : SinkState) (ending : Ending) (status : RunStatus) : Type 0 where
  printed : code_of status ≡ status_of ending → Writes {T = Unit {0}} old new (Ok tt) (ending_text ending) → Finishes old new ending status
  cut_off : (stop : WriteStop) → status ≡ cut_status stop → Writes {T = Unit {0}} old new (Err stop) (ending_text ending) → Finishes old new ending status

-- Where the print took no more, nothing is printed; else the listing ends with the line of a fault of the punch, or of memory that ran
-- out.
abbrev pub FinishesHalted : (old new : SinkState) → Halt → RunStatus → Type 0
FinishesHalted old new (halt.Print stop) status = (status ≡ cut_status stop) × (new ≡ old)
FinishesHalted old new (halt.Punch Failed) status = Finishes old new endings.PunchFault status
FinishesHalted old new (halt.Punch NoMemory) status = Finishes old new endings.Memory status
FinishesHalted old new halt.NoMemory status = Finishes old new endings.Memory status

-- The job is read before its program runs: no read fails in a run.
abbrev pub failures_in_run : (print punch memory : Type 0) → Failures
failures_in_run print punch memory =
    record { read = ⊥; print = print; punch = punch; memory = memory }
