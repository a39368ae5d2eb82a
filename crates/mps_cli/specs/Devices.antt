-- What the devices of a job show before it and after it.
--     devices job print punch           the three of them
--     failures before after             which have failed in between
--     PrintGains, PunchGains ..         what the print gains, and what the punch does
--     IsAccounted request .. status     why the job ended so, what the status reports, and what stands in the devices
use Rattle.std.specs.Prelude.{ℕ, List, Option}
use Rattle.std.specs.Io.KnownBytes.{Appends}
use Rattle.job_devices.specs.States.{SourceState, SinkState}
use Rattle.job_devices.specs.Causes.{Rose}
use Rattle.job_devices.specs.Text.{AppendsPrefix}
use Rattle.card_reader.specs.Reading.{ReadsJob, ReadsPrefix}
use Rattle.run_definitions.specs.Answer.{Failures}
use Rattle.control_run.specs.declared.status.RunStatus.{RunStatus}
use Rattle.control_run.specs.Statuses.{code_of}
use Rattle.control_run.specs.Devices.{counts, IsReported, IsStill}
use Rattle.command_line.specs.declared.request.Request.{Request}
use Rattle.mps_cli.specs.Causes.{HasCause}

-- what the source of the job, the print and the punch show
pub record Devices : Type 0 where
  pub job : SourceState
  pub print : SinkState
  pub punch : SinkState

abbrev pub devices : SourceState → SinkState → SinkState → Devices
devices job print punch = record { job = job; print = print; punch = punch }

-- A device has failed where its count of faults rose, and memory was wanting where the print's count of refusals did.
abbrev pub failures : Devices → Devices → Failures
failures before after = record {
  read = Rose before.job.faults after.job.faults;
  print = Rose before.print.faults after.print.faults;
  punch = Rose before.punch.faults after.punch.faults;
  memory = Rose before.print.refusals after.print.refusals;
}

abbrev pub PrintGains : Devices → Devices → List ℕ → Type 0
PrintGains before after = Appends before.print.written after.print.written

abbrev pub PunchGains : Devices → Devices → List ℕ → Type 0
PunchGains before after = Appends before.punch.written after.punch.written

-- What a job that ended with this status comes to.
pub record IsAccounted (request : Option Request) (before after : Devices) (status : RunStatus) : Type 0 where
  -- why the job ended so, also where the devices don't tell their bytes
  pub cause : HasCause request (Rose before.job.faults after.job.faults) (ReadsJob before.job.left after.job.left)
      (Rose before.print.faults after.print.faults) (Rose before.punch.faults after.punch.faults)
      (AppendsPrefix before.print.written after.print.written) status
  -- the status reports each fault of a device, and that one ran out of memory
  pub reported : IsReported (counts before.job.faults before.print before.punch) (counts after.job.faults after.print after.punch) (code_of status)
  -- after a write to the print or to the punch that stopped, nothing more is written to it
  pub still : IsStill before.print after.print × IsStill before.punch after.punch
  -- the job is read no further than one byte past the most that a job may have
  pub no_further : ReadsPrefix before.job.left after.job.left
