-- The job that is asked for, where the words or the source tell it.
--     IsAsked request reported job     what the words ask for, and the bytes that the source tells, ask for this job
--     IsGiven reported .. job bytes    the source that is read tells the bytes of this job
--     OfAsked Fact request ..          the job that is asked for is answered so
use Rattle.std.specs.Prelude.{◌≡◌, ℕ, List, Option, None, Some}
use Rattle.deck_definitions.specs.Transport.{made_job}
use Rattle.run_definitions.specs.Answer.{Job, WithoutBytes, Read, Made, bytes_of, Failures}
use Rattle.command_line.specs.declared.request.Request.{Request}
use Rattle.command_line.specs.declared.request.Request.TheVariants as request
use Rattle.control_run.specs.declared.status.RunStatus.{RunStatus}
use Rattle.control_run.specs.Statuses.{code_of}
use Rattle.mps_cli.specs.Devices.{Devices, failures, PrintGains, PunchGains}

-- The words are refused; or the job is what the source tells; or it is the generated job of a size.
pub data IsAsked (asked : Option Request) (reported : Option (List ℕ)) : Job → Type 0 where
  refused : asked ≡ None → IsAsked asked reported WithoutBytes
  from_source : (bytes : List ℕ) → asked ≡ Some request.Read → reported ≡ Some bytes → IsAsked asked reported (Read bytes)
  generated : (size : ℕ) → asked ≡ Some (request.Make size) → IsAsked asked reported (Made (made_job size))

-- Where this source tells the job's bytes; and only a job that is read may end since a read has failed.
pub record IsGiven (reported : Option (List ℕ)) (read_failed : Type 0) (job : Job) (bytes : List ℕ) : Type 0 where
  pub has_bytes : bytes_of job ≡ Some bytes
  pub is_reported : reported ≡ Some bytes
  pub is_read : read_failed → job ≡ Read bytes

-- Of the job that is asked for, where that is told, this holds with what has failed, with the status, and with what the print and the punch
-- gain.
abbrev pub OfAsked : (Job → Failures → ℕ → (List ℕ → Type 0) → (List ℕ → Type 0) → Type 0) → Option Request → Devices → Devices → RunStatus → Type 0
OfAsked Fact request before after status =
    (job : Job) → IsAsked request before.job.left job →
    Fact job (failures before after) (code_of status) (PrintGains before after) (PunchGains before after)
