-- What a job is answered, and why, whose listing is an end alone.
use Rattle.std.proofs.Common.{◌≡◌, ℕ, List, [], ◌++◌, Option, None, Some, Ok, Err, refl, ap, subst, ◌∙◌}
use Rattle.std.specs.Io.KnownBytes.{Appends}
use Rattle.job_devices.proofs.TextLemmas.{Appends-nothing}
use Rattle.job_devices.specs.States.{SinkState}
use Rattle.job_devices.specs.Causes.{Rose}
use Rattle.job_devices.specs.Text.{AppendsPrefix, Writes}
use Rattle.job_devices.specs.declared.device.WriteStop.{WriteStop}
use Rattle.job_devices.specs.declared.device.WriteStop.TheVariants.{Failed, NoMemory}
use Rattle.listing_definitions.specs.Ending.{Ending, status_of}
use Rattle.listing_definitions.specs.Listing.{ending_text}
use Rattle.question_definitions.specs.Solving.{Solving}
use Rattle.run_definitions.specs.Answer.{Job, Failures, Gains, MayEnd, IsCutShort, in_end, IsAnswered, whole, print_fails, print_wants_memory}
use Rattle.control_run.specs.declared.status.RunStatus.{RunStatus}
use Rattle.control_run.specs.Statuses.{code_of}
use Rattle.control_run.specs.Finishing.{cut_status}
use Rattle.job_program.specs.declared.stop.EarlyStop.{EarlyStop}
use Rattle.job_program.specs.declared.stop.EarlyStop.TheVariants.{Words, ReadFault, Card, Control, Memory}
use Rattle.job_program.specs.Stops.{stop_view}
use Rattle.mps_cli.specs.Endings.{EndsWith, printed, cut_off, status_at}

-- ---- the end is printed, or cut off

module _ {old new : SinkState} (viewed : Ending) (stop : EarlyStop) (same : viewed ≡ stop_view stop) where
  pub end_printed : (status : RunStatus) → status ≡ status_at stop → Writes {T = Unit {0}} old new (Ok tt) (ending_text viewed) →
      EndsWith old new stop status
  end_printed status is writes = printed is (subst (λ (e : Ending). Writes {T = Unit {0}} old new (Ok tt) (ending_text e)) same writes)

  pub end_cut : (cause : WriteStop) (status : RunStatus) → status ≡ cut_status cause → Writes {T = Unit {0}} old new (Err cause) (ending_text viewed) →
      EndsWith old new stop status
  end_cut cause status is writes = cut_off cause is (subst (λ (e : Ending). Writes {T = Unit {0}} old new (Err cause) (ending_text e)) same writes)

-- ---- nothing is punched

keeps : (known : Option (List ℕ)) → Appends known known []
keeps None = tt
keeps (Some xs) = Appends-nothing (Some xs) (Some xs) refl

gains_nothing : (stop : EarlyStop) → Gains (stop_view stop) [] [] []
gains_nothing Words = refl
gains_nothing ReadFault = refl
gains_nothing (Card fault) = refl
gains_nothing (Control fault) = refl
gains_nothing Memory = record { part = []; is_prefix = ([], refl); is_gained = refl }

-- ---- the status of a stop is that of its end

code_is : (stop : EarlyStop) → code_of (status_at stop) ≡ status_of (stop_view stop)
code_is Words = refl
code_is ReadFault = refl
code_is (Card fault) = refl
code_is (Control fault) = refl
code_is Memory = refl

-- ---- the answer

module _ (S : Solving) (job : Job) (failures : Failures) (stop : EarlyStop) (may_end : MayEnd S job failures [] [] [] (stop_view stop)) where
  cut : (status : ℕ) (prefix back : List ℕ) → prefix ++ back ≡ ending_text (stop_view stop) →
      IsCutShort S job failures (record { status = status; printed = prefix; punched = [] })
  cut status prefix back e = in_end (stop_view stop) prefix may_end (back, e) refl (gains_nothing stop)

  module _ (old new punch : Option (List ℕ)) (status : RunStatus) where
    -- the end is printed
    ended : status ≡ status_at stop → Appends old new (ending_text (stop_view stop)) →
        IsAnswered S job failures (code_of status) (Appends old new) (Appends punch punch)
    ended is text =
        (ending_text (stop_view stop), [], text, keeps punch, whole (stop_view stop) may_end (ap code_of is ∙ code_is stop) refl (gains_nothing stop))

    -- the print fails, or runs out of memory
    ended_early : (cause : WriteStop) → status ≡ cut_status cause → (cause ≡ Failed → failures.print) → (cause ≡ NoMemory → failures.memory) →
        AppendsPrefix old new (ending_text (stop_view stop)) →
        IsAnswered S job failures (code_of status) (Appends old new) (Appends punch punch)
    ended_early Failed is failed wanted prefix =
        (prefix.0, [], prefix.2, keeps punch, print_fails (failed refl) (ap code_of is) (cut (code_of status) prefix.0 prefix.1.0 prefix.1.1))
    ended_early NoMemory is failed wanted prefix =
        (prefix.0, [], prefix.2, keeps punch, print_wants_memory (wanted refl) (ap code_of is) (cut (code_of status) prefix.0 prefix.1.0 prefix.1.1))

  pub ending_answer : {old new : SinkState} (punch : Option (List ℕ)) (status : RunStatus) →
      (Rose old.faults new.faults → failures.print) → (Rose old.refusals new.refusals → failures.memory) → EndsWith old new stop status →
      IsAnswered S job failures (code_of status) (Appends old.written new.written) (Appends punch punch)
  ending_answer {old} {new} punch status failed wanted (printed is writes) = ended old.written new.written punch status is writes.bytes
  ending_answer {old} {new} punch status failed wanted (cut_off cause is writes) =
      ended_early old.written new.written punch status cause is (λ e. failed (writes.cause.failed (ap (λ s. Err s) e)))
      (λ e. wanted (writes.cause.no_memory (ap (λ s. Err s) e))) writes.bytes
