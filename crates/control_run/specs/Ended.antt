-- What a call that runs a program promises of its status.
--     IsEndOfRun .. status         how the run has ended, and what stands in print and punch then
use Rattle.std.specs.Prelude.{◌≡◌, ℕ, List, Some}
use Rattle.std.specs.Io.KnownBytes.{Appends}
use Rattle.job_devices.specs.States.{SinkState}
use Rattle.job_devices.specs.Causes.{Rose}
use Rattle.card_definitions.specs.Cards.{cards_of}
use Rattle.control_definitions.specs.Program.{Program}
use Rattle.question_definitions.specs.Solving.{Solving}
use Rattle.run_definitions.specs.Answer.{Job, bytes_of, IsProgramOf, IsAnswered}
use Rattle.control_run.specs.declared.status.RunStatus.{RunStatus}
use Rattle.control_run.specs.declared.status.RunStatus.TheVariants.{PrintFault, PunchFault}
use Rattle.control_run.specs.Statuses.{code_of, IsStatusOfRun}
use Rattle.control_run.specs.Devices.{counts, IsReported, IsStill}
use Rattle.control_run.specs.Finishing.{failures_in_run}
use Rattle.control_run.specs.Running.{IsRunAnswer}

module _ (S : Solving) (program : Program) (cards : List (List ℕ)) (print_old print_new punch_old punch_new : SinkState) where
  -- What the print gains is the text of a run of this program over these cards, and what the punch gains the text of the cards that it
  -- punches; so it is for the job, where program and cards are those of one. A status for a fault of the print or of the punch comes only
  -- where that has failed. What has failed or wanted memory is reported by the status, and nothing is written to it after. The status is
  -- one with which a run may end.
  pub record IsEndOfRun (status : RunStatus) : Type 0 where
    pub run : IsRunAnswer S program cards (Rose print_old.faults print_new.faults) (Rose print_old.refusals print_new.refusals)
        (Rose punch_old.faults punch_new.faults) (Rose punch_old.refusals punch_new.refusals)
        (code_of status) print_old.written print_new.written punch_old.written punch_new.written
    pub answer : (job : Job) (bytes : List ℕ) → bytes_of job ≡ Some bytes → IsProgramOf bytes program → cards ≡ cards_of bytes →
        IsAnswered S job
        (failures_in_run (Rose print_old.faults print_new.faults) (Rose punch_old.faults punch_new.faults) (Rose print_old.refusals print_new.refusals))
        (code_of status) (Appends print_old.written print_new.written) (Appends punch_old.written punch_new.written)
    pub print_fault : status ≡ PrintFault → Rose print_old.faults print_new.faults
    pub punch_fault : status ≡ PunchFault → Rose punch_old.faults punch_new.faults
    pub reported : IsReported (counts 0 print_old punch_old) (counts 0 print_new punch_new) (code_of status)
    pub still : IsStill print_old print_new × IsStill punch_old punch_new
    pub own : IsStatusOfRun status
