-- What a job comes to, by how it goes.
use Rattle.std.proofs.Common.{◌≡◌, ℕ, ◌<◌, List, [], Option, None, Some, refl, sym, subst, arith}
use Rattle.std.proofs.KnownBytes.{Consumes-nil}
use Rattle.job_devices.specs.States.{SourceState, SinkState, untold_source}
use Rattle.job_devices.specs.Causes.{Rose}
use Rattle.job_devices.specs.Memory.{sure_source_state}
use Rattle.job_devices.specs.declared.memory.SureSource.{SureSource}
use Rattle.card_reader.specs.Reading.{ReadsJob, ReadsPrefix}
use Rattle.control_run.specs.declared.status.RunStatus.{RunStatus}
use Rattle.command_line.specs.declared.request.Request.{Request}
use Rattle.command_line.specs.declared.request.Request.TheVariants as request
use Rattle.job_program.specs.declared.stop.EarlyStop.{EarlyStop}
use Rattle.job_program.specs.declared.stop.EarlyStop.TheVariants.{ReadFault}
use Rattle.mps_cli.specs.Endings.{EndsWith}
use Rattle.mps_cli.specs.Devices.{Devices, devices, IsAccounted}
use Rattle.mps_cli.proofs.Why.{IsWhy, ending_cause, likewise}
use Rattle.mps_cli.proofs.Reported.{reported_stop, reported_unread, still_stop}

-- nothing is read
unread : (known : Option (List ℕ)) → ReadsPrefix known known
unread known = ([], omega arith, Consumes-nil known)

-- of a job whose listing is the end of a stop alone
pub stopped_accounted : (asked : Option Request) (job_old job_new : SourceState) {old new : SinkState} (punch : SinkState) (stop : EarlyStop)
    (ended : RunStatus) →
    IsWhy asked (Rose job_old.faults job_new.faults) (ReadsJob job_old.left job_new.left) stop → (job_old.faults < job_new.faults → stop ≡ ReadFault) →
    ReadsPrefix job_old.left job_new.left → EndsWith old new stop ended → IsAccounted asked (devices job_old old punch) (devices job_new new punch) ended
stopped_accounted asked job_old job_new punch stop ended why read prefix ends = record {
  cause = ending_cause asked _ _ _ stop ended why ends;
  reported = reported_stop punch job_old.faults job_new.faults stop ended read ends;
  still = still_stop punch stop ended ends;
  no_further = prefix;
}

-- of one that stops before the job is touched
pub untouched_accounted : (asked : Option Request) (job : SourceState) {old new : SinkState} (punch : SinkState) (stop : EarlyStop) (ended : RunStatus) →
    IsWhy asked (Rose job.faults job.faults) (ReadsJob job.left job.left) stop → EndsWith old new stop ended →
    IsAccounted asked (devices job old punch) (devices job new punch) ended
untouched_accounted asked job punch stop ended why ends =
    stopped_accounted asked job job punch stop ended why (λ more. absurd (omega (arith, more))) (unread job.left) ends

-- of a job that is asked for as a request is
pub same_accounted : {asked : Option Request} (request : Request) {before after : Devices} (ended : RunStatus) → asked ≡ Some request →
    IsAccounted (Some request) before after ended → IsAccounted asked before after ended
same_accounted request {before} {after} ended is accounted = subst (λ (o : Option Request). IsAccounted o before after ended) (sym is) accounted

module _ {print_old print_new punch_old punch_new : SinkState} (ended : RunStatus) (size : ℕ) where
  -- of a job that is made, from that of its source, which doesn't fail
  pub source_accounted : (source_old source_new : SureSource) →
      IsAccounted (Some request.Read) (devices (sure_source_state source_old) print_old punch_old)
      (devices (sure_source_state source_new) print_new punch_new) ended →
      IsAccounted (Some (request.Make size)) (devices (untold_source 0) print_old punch_old) (devices (untold_source 0) print_new punch_new) ended
  source_accounted source_old source_new accounted = record {
    cause =
        likewise (Some request.Read) (Some (request.Make size)) _ _ _ _ (λ none. absurd (cc)) (λ read failed. absurd (omega (arith, failed)))
        (λ here. tt) _ _ _ ended accounted.cause;
    reported = accounted.reported;
    still = accounted.still;
    no_further = unread None;
  }

  -- of a job that is made, whatever source isn't read
  pub made_accounted : (job : SourceState) →
      IsAccounted (Some (request.Make size)) (devices (untold_source 0) print_old punch_old) (devices (untold_source 0) print_new punch_new) ended →
      IsAccounted (Some (request.Make size)) (devices job print_old punch_old) (devices job print_new punch_new) ended
  made_accounted job accounted = record {
    cause =
        likewise (Some (request.Make size)) (Some (request.Make size)) _ _ _ _ (λ none. none) (λ read failed. absurd (cc))
        (λ here. tt) _ _ _ ended accounted.cause;
    reported = reported_unread _ _ _ job.faults job.faults refl accounted.reported;
    still = accounted.still;
    no_further = unread job.left;
  }
