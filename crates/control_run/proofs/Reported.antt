-- What the status reports of the devices, and what stands in them.
use Rattle.std.proofs.Common.{◌≡◌, inl, inr, ℕ, ◌<◌, List, Result, Ok, Err, refl, sym, arith}
use Rattle.std.specs.Prelude.{IfErr}
use Rattle.job_devices.specs.States.{SinkState}
use Rattle.job_devices.specs.declared.device.WriteStop.{WriteStop}
use Rattle.job_devices.specs.declared.device.WriteStop.TheVariants.{Failed, NoMemory}
use Rattle.job_devices.specs.Causes.{HasWriteCause}
use Rattle.job_devices.specs.Text.{Writes}
use Rattle.listing_definitions.specs.Ending.{status_of}
use Rattle.control_run.specs.Statuses.{code_of}
use Rattle.control_run.specs.Devices.{Counts, counts, StopsAtPrint, print_failed, print_wants_memory, IsReported, IsStill, Leaves}
use Rattle.control_run.specs.Finishing.{cut_status}
use Rattle.control_run.specs.Running.{punch_end}

-- a count that is the same hasn't grown
pub none_more : {A : Type 0} (before now : ℕ) → now ≡ before → before < now → A
none_more before now same more = absurd (omega (arith, same, more))

module _ {old new : SinkState} where
  -- what a call that writes a text leaves
  pub left : {result : Result (Unit {0}) WriteStop} {text : List ℕ} → Writes old new result text → Leaves old new result
  left w = record { cause = w.cause; stopped = w.stopped }

  -- after a stop nothing was written
  pub stands_still : (result : Result (Unit {0}) WriteStop) → Leaves old new result →
      IsStill old new
  stands_still (Ok done) l = record {
    after_fault = λ more. none_more old.faults new.faults l.cause.no_fault more;
    after_refusal = λ more. none_more old.refusals new.refusals l.cause.no_refusal more;
  }
  stands_still (Err stop) l = record { after_fault = λ more. sym l.stopped; after_refusal = λ more. sym l.stopped }

-- nothing was written at all
pub still_as_before : (device : SinkState) →
    IsStill device device
still_as_before device = record {
  after_fault = λ more. none_more device.faults device.faults refl more;
  after_refusal = λ more. none_more device.refusals device.refusals refl more;
}

-- ---- by what stopped the job

module _ (read_before read_now : ℕ) (print_old print_new punch_old punch_new : SinkState) where
  -- the counts of reads, print and punch, before and now
  abbrev before : Counts
  before = counts read_before print_old punch_old

  abbrev now : Counts
  now = counts read_now print_new punch_new

  -- the print has stopped
  stops_at_print : (stop : WriteStop) (code : ℕ) → code ≡ code_of (cut_status stop) → HasWriteCause {T = Unit {0}} print_old print_new (Err stop) →
      StopsAtPrint before now code
  stops_at_print Failed code is cause = print_failed is (cause.failed refl)
  stops_at_print NoMemory code is cause = print_wants_memory is (cause.no_memory refl)

  fault_only : (stop : WriteStop) (code : ℕ) → code ≡ code_of (cut_status stop) → HasWriteCause {T = Unit {0}} print_old print_new (Err stop) →
      print_old.faults < print_new.faults → code ≡ 25
  fault_only Failed code is cause more = is
  fault_only NoMemory code is cause more = none_more print_old.faults print_new.faults (cause.wanted_alone refl) more

  memory_only : (stop : WriteStop) (code : ℕ) → code ≡ code_of (cut_status stop) → HasWriteCause {T = Unit {0}} print_old print_new (Err stop) →
      print_old.refusals < print_new.refusals → code ≡ 28
  memory_only Failed code is cause more = none_more print_old.refusals print_new.refusals (cause.failed_alone refl) more
  memory_only NoMemory code is cause more = is

  pub reported_print : (stop : WriteStop) (code : ℕ) → code ≡ code_of (cut_status stop) → HasWriteCause {T = Unit {0}} print_old print_new (Err stop) →
      IsReported before now code
  reported_print stop code is cause = record {
    print_fault = λ more. fault_only stop code is cause more;
    print_memory = λ more. memory_only stop code is cause more;
    read_fault = λ more. inr (stops_at_print stop code is cause);
    punch_fault = λ more. inr (stops_at_print stop code is cause);
    punch_memory = λ more. inr (stops_at_print stop code is cause);
  }

  -- the print hasn't stopped: the status is that of a read or of the punch that has, if there is one
  pub reported_other : (code : ℕ) → HasWriteCause {T = Unit {0}} print_old print_new (Ok tt) → (read_before < read_now → code ≡ 24) →
      (punch_old.faults < punch_new.faults → code ≡ 26) → (punch_old.refusals < punch_new.refusals → code ≡ 28) → IsReported before now code
  reported_other code cause read fault memory = record {
    print_fault = λ more. none_more print_old.faults print_new.faults cause.no_fault more;
    print_memory = λ more. none_more print_old.refusals print_new.refusals cause.no_refusal more;
    read_fault = λ more. inl (read more);
    punch_fault = λ more. inl (fault more);
    punch_memory = λ more. inl (memory more);
  }

  -- so where the last write to the punch came to this result, and the status is then that of its stop
  pub reported_punch : (result : Result (Unit {0}) WriteStop) (code : ℕ) → IfErr result (λ stop. code ≡ status_of (punch_end stop)) →
      HasWriteCause {T = Unit {0}} print_old print_new (Ok tt) → HasWriteCause punch_old punch_new result → (read_before < read_now → code ≡ 24) →
      IsReported before now code
  reported_punch (Ok done) code is cause punch read =
      reported_other code cause read (λ more. none_more punch_old.faults punch_new.faults punch.no_fault more)
      (λ more. none_more punch_old.refusals punch_new.refusals punch.no_refusal more)
  reported_punch (Err Failed) code is cause punch read =
      reported_other code cause read (λ more. is) (λ more. none_more punch_old.refusals punch_new.refusals (punch.failed_alone refl) more)
  reported_punch (Err NoMemory) code is cause punch read =
      reported_other code cause read (λ more. none_more punch_old.faults punch_new.faults (punch.wanted_alone refl) more) (λ more. is)
