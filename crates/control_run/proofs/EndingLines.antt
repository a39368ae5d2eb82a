-- The end's own lines, printed or broken off.
use Rattle.std.proofs.Common.{◌≡◌, Ok, Err, subst}
use Rattle.job_devices.specs.States.{SinkState}
use Rattle.job_devices.specs.declared.device.WriteStop.{WriteStop}
use Rattle.job_devices.specs.Text.{Writes}
use Rattle.listing_definitions.specs.Ending.{Ending, status_of}
use Rattle.listing_definitions.specs.Listing.{ending_text}
use Rattle.control_run.specs.declared.status.RunStatus.{RunStatus}
use Rattle.control_run.specs.Statuses.{code_of}
use Rattle.control_run.specs.Finishing.{cut_status, Finishes, printed, cut_off}

module _ {old new : SinkState} (viewed ending : Ending) (same : viewed ≡ ending) where
  pub lines_printed : (status : RunStatus) → code_of status ≡ status_of ending → Writes {T = Unit {0}} old new (Ok tt) (ending_text viewed) →
      Finishes old new ending status
  lines_printed status is writes = printed is (subst (λ (e : Ending). Writes {T = Unit {0}} old new (Ok tt) (ending_text e)) same writes)

  pub lines_cut : (stop : WriteStop) (status : RunStatus) → status ≡ cut_status stop → Writes {T = Unit {0}} old new (Err stop) (ending_text viewed) →
      Finishes old new ending status
  lines_cut stop status is writes = cut_off stop is (subst (λ (e : Ending). Writes {T = Unit {0}} old new (Err stop) (ending_text e)) same writes)
