-- What the status reports of the devices, and what stands in them.
use Rattle.std.proofs.Common.{◌≡◌, ◌⊎◌, inl, inr, ℕ, ◌<◌, Ok, Err, refl, ap, ◌∙◌}
use Rattle.job_devices.specs.States.{SinkState}
use Rattle.control_run.specs.declared.status.RunStatus.{RunStatus}
use Rattle.control_run.specs.Statuses.{code_of}
use Rattle.control_run.specs.Devices.{Counts, counts, StopsAtPrint, print_failed, print_wants_memory, IsReported, IsStill}
use Rattle.control_run.proofs.Reported.{none_more, left, stands_still, still_as_before, reported_print, reported_other}
use Rattle.job_program.specs.declared.stop.EarlyStop.{EarlyStop}
use Rattle.job_program.specs.declared.stop.EarlyStop.TheVariants.{Words, ReadFault, Card, Control, Memory}
use Rattle.mps_cli.specs.Endings.{EndsWith, printed, cut_off, status_at}

-- where the count of faults of a source has grown, a read has failed
pub stops_reading : (stop : EarlyStop) (before now : ℕ) → ((stop ≡ ReadFault → ⊥) → now ≡ before) → before < now → stop ≡ ReadFault
stops_reading ReadFault before now quiet more = refl
stops_reading Words before now quiet more = none_more before now (quiet (λ e. cc e)) more
stops_reading (Card fault) before now quiet more = none_more before now (quiet (λ e. cc e)) more
stops_reading (Control fault) before now quiet more = none_more before now (quiet (λ e. cc e)) more
stops_reading Memory before now quiet more = none_more before now (quiet (λ e. cc e)) more

-- ---- a job whose listing is the end of a stop alone

module _ (punch : SinkState) where
  abbrev counted : ℕ → SinkState → Counts
  counted read print = counts read print punch

  module _ {old new : SinkState} where
    pub reported_stop : (read_before read_now : ℕ) (stop : EarlyStop) (ended : RunStatus) → (read_before < read_now → stop ≡ ReadFault) →
        EndsWith old new stop ended →
        IsReported (counted read_before old) (counted read_now new) (code_of ended)
    reported_stop read_before read_now stop ended read (printed is w) =
        reported_other read_before read_now old new punch punch (code_of ended) w.cause (λ more. ap code_of (is ∙ ap status_at (read more)))
        (λ more. none_more punch.faults punch.faults refl more) (λ more. none_more punch.refusals punch.refusals refl more)
    reported_stop read_before read_now stop ended read (cut_off cause is w) =
        reported_print read_before read_now old new punch punch cause (code_of ended) (ap code_of is) w.cause

    still_print : (stop : EarlyStop) (ended : RunStatus) → EndsWith old new stop ended → IsStill old new
    still_print stop ended (printed is w) = stands_still (Ok tt) (left w)
    still_print stop ended (cut_off cause is w) = stands_still (Err cause) (left w)

    pub still_stop : (stop : EarlyStop) (ended : RunStatus) → EndsWith old new stop ended →
        IsStill old new × IsStill punch punch
    still_stop stop ended ends = (still_print stop ended ends, still_as_before punch)

-- ---- a job of which no read has failed

module _ (before now : Counts) (code first last : ℕ) where
  stops_likewise : StopsAtPrint before now code → StopsAtPrint (record before { read = first }) (record now { read = last }) code
  stops_likewise (print_failed is rose) = print_failed is rose
  stops_likewise (print_wants_memory is rose) = print_wants_memory is rose

  pub reported_unread : last ≡ first → IsReported before now code → IsReported (record before { read = first }) (record now { read = last }) code
  reported_unread same r = record {
    print_fault = r.print_fault;
    print_memory = r.print_memory;
    read_fault = λ more. none_more first last same more;
    punch_fault = λ more. either (r.punch_fault more);
    punch_memory = λ more. either (r.punch_memory more);
  }
    where
      either : {A : Type 0} → A ⊎ StopsAtPrint before now code → A ⊎ StopsAtPrint (record before { read = first }) (record now { read = last }) code
      either (inl is) = inl is
      either (inr stops) = inr (stops_likewise stops)
