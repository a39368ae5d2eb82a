-- The end of a job whose program isn't run.
--     status_at stop               its status
--     EndsWith .. stop status      its listing is the end of a stop alone
use Rattle.std.specs.Prelude.{◌≡◌, Ok, Err}
use Rattle.job_devices.specs.States.{SinkState}
use Rattle.job_devices.specs.declared.device.WriteStop.{WriteStop}
use Rattle.job_devices.specs.Text.{Writes}
use Rattle.listing_definitions.specs.Listing.{ending_text}
use Rattle.control_run.specs.declared.status.RunStatus.{RunStatus}
use Rattle.control_run.specs.declared.status.RunStatus.TheVariants as status
use Rattle.control_run.specs.Finishing.{cut_status}
use Rattle.job_program.specs.declared.stop.EarlyStop.{EarlyStop}
use Rattle.job_program.specs.declared.stop.EarlyStop.TheVariants.{Words, ReadFault, Card, Control, Memory}
use Rattle.job_program.specs.Stops.{stop_view}

abbrev pub status_at : EarlyStop → RunStatus
status_at Words = status.Words
status_at ReadFault = status.ReadFault
status_at (Card fault) = status.Card
status_at (Control fault) = status.Control
status_at Memory = status.Memory

-- The line of the stop is printed, and the status is its own; or the print stops in it.
pub data EndsWith (old new : SinkState) (stop : EarlyStop) (status : RunStatus) : Type 0 where
  printed : status ≡ status_at stop → Writes {T = Unit {0}} old new (Ok tt) (ending_text (stop_view stop)) →
      EndsWith old new stop status
  cut_off : (cause : WriteStop) → status ≡ cut_status cause →
      Writes {T = Unit {0}} old new (Err cause) (ending_text (stop_view stop)) → EndsWith old new stop status
