-- The headline of a job: what it is answered, and that each report of this answer holds of the state in which it was made. Such an
-- answer is decided by the job's own run.
use Rattle.std.proofs.Common.{◌≡◌, ℕ, List, Option, None, Some, refl, subst}
use Rattle.std.specs.Io.KnownBytes.{Appends}
use Rattle.job_devices.specs.States.{SinkState}
use Rattle.job_devices.specs.Causes.{Rose}
use Rattle.answer_definitions.specs.Real.{linear_programming}
use Rattle.fitting_answers.specs.Real.{linear_programming_of_128_bits}
use Rattle.fitting_laws.proofs.Runs.{answered_too as also_answered}
use Rattle.deck_definitions.specs.Transport.{made_job}
use Rattle.run_definitions.specs.Answer.{Job, WithoutBytes, Read, Made, Failures, words_refused, memory_at_start, IsAnswered}
use Rattle.soundness_laws.specs.Headline.{IsTrueAnswer}
use Rattle.soundness_laws.proofs.Runs.{knows_linear_programming, answer_holds}
use Rattle.determinism_laws.specs.Laws.{IsFunction}
use Rattle.determinism_laws.proofs.Runs.{is_function, answers_once}
use Rattle.one_run_laws.specs.Laws.{IsAnsweredOnce}
use Rattle.one_run_laws.proofs.AnsweredOnce.{answered_once}
use Rattle.one_run_laws.proofs.OwnRuns.{own_runs}
use Rattle.command_line.specs.declared.request.Request.{Request}
use Rattle.command_line.specs.declared.request.Request.TheVariants as request
use Rattle.control_run.specs.declared.status.RunStatus.{RunStatus}
use Rattle.control_run.specs.Statuses.{code_of}
use Rattle.job_program.specs.declared.stop.EarlyStop.TheVariants.{Words, Memory}
use Rattle.command_line.specs.declared.request.WordsStop.{WordsStop}
use Rattle.command_line.specs.declared.request.WordsStop.TheVariants as stops
use Rattle.job_program.specs.Stops.{stop_of_words}
use Rattle.mps_cli.specs.Endings.{EndsWith}
use Rattle.mps_cli.specs.Asked.{IsAsked, refused, from_source, generated, IsGiven}
use Rattle.mps_cli.proofs.EndingAnswers.{ending_answer}
use Rattle.mps_cli.proofs.MayEnd.{answered_too}

-- a run is a function but for the choice to stop with an overflow
runs_are_functions : IsFunction linear_programming
runs_are_functions = is_function linear_programming knows_linear_programming answers_once

-- an answer whose numbers fit is a true one
pub true_answer : {job : Job} {failures : Failures} {status : ℕ} {PrintGains PunchGains : List ℕ → Type 0} →
    IsAnswered linear_programming_of_128_bits job failures status PrintGains PunchGains →
    IsTrueAnswer linear_programming job failures status PrintGains PunchGains
true_answer {job} {failures} {status} {PrintGains} {PunchGains} fitting =
    let is : IsAnswered linear_programming job failures status PrintGains PunchGains = also_answered job failures status PrintGains PunchGains fitting in
    record {
      printed = is.0;
      punched = is.1;
      print_gains = is.2;
      punch_gains = is.3;
      is_answer = is.4;
      each_holds = answer_holds linear_programming knows_linear_programming is.4;
    }

-- a true answer is that of the job's own run, or the run was broken off, or cut off
pub once_answer : {job : Job} {failures : Failures} {status : ℕ} {PrintGains PunchGains : List ℕ → Type 0} →
    IsTrueAnswer linear_programming job failures status PrintGains PunchGains →
    IsAnsweredOnce linear_programming job failures status PrintGains PunchGains
once_answer {job} {failures} {status} {PrintGains} {PunchGains} is =
    answered_once linear_programming runs_are_functions own_runs job failures status PrintGains PunchGains
    (is.printed, is.punched, is.print_gains, is.punch_gains, is.is_answer)

-- ---- the job that is asked for

module _ (P : Job → Type 0) (asked : Option Request) (reported : Option (List ℕ)) where
  by_words : asked ≡ None → P WithoutBytes → (job : Job) → IsAsked asked reported job → P job
  by_words none holds _ (refused also) = holds
  by_words none holds _ (from_source bytes is known) = absurd (cc)
  by_words none holds _ (generated size is) = absurd (cc)

  by_source : asked ≡ Some request.Read → ((bytes : List ℕ) → reported ≡ Some bytes → P (Read bytes)) → (job : Job) → IsAsked asked reported job → P job
  by_source read holds _ (refused none) = absurd (cc)
  by_source read holds _ (from_source bytes is known) = holds bytes known
  by_source read holds _ (generated size is) = absurd (cc)

  by_size : (size : ℕ) → asked ≡ Some (request.Make size) → P (Made (made_job size)) → (job : Job) → IsAsked asked reported job → P job
  by_size size made holds _ (refused none) = absurd (cc)
  by_size size made holds _ (from_source bytes is known) = absurd (cc)
  by_size size made holds _ (generated other is) = let same : size ≡ other = cc in subst (λ (n : ℕ). P (Made (made_job n))) same holds

-- ---- the four ways in which a job goes

module _ (asked : Option Request) (reported : Option (List ℕ)) (status : RunStatus) where
  module _ {old new : SinkState} (read_failed punch_failed : Type 0) (punch : Option (List ℕ)) where
    -- the words are refused
    words_answer : asked ≡ None → EndsWith old new Words status → (job : Job) → IsAsked asked reported job →
        IsAnswered linear_programming_of_128_bits job
        (record { read = read_failed; print = Rose old.faults new.faults; punch = punch_failed; memory = Rose old.refusals new.refusals })
        (code_of status) (Appends old.written new.written) (Appends punch punch)
    words_answer none ends =
        by_words _ asked reported none
        (ending_answer linear_programming_of_128_bits WithoutBytes _ Words (words_refused refl) punch status (λ e. e) (λ e. e) ends)

    -- memory runs out while the words are read
    memory_answer : EndsWith old new Memory status → (job : Job) → IsAsked asked reported job →
        IsAnswered linear_programming_of_128_bits job
        (record { read = read_failed; print = Rose old.faults new.faults; punch = punch_failed; memory = Rose old.refusals new.refusals })
        (code_of status) (Appends old.written new.written) (Appends punch punch)
    memory_answer ends job is = ending_answer linear_programming_of_128_bits job _ Memory memory_at_start punch status (λ e. e) (λ e. e) ends

    -- the words ask for nothing
    pub stopped_answer : (stop : WordsStop) → (stop ≡ stops.Refused → asked ≡ None) → EndsWith old new (stop_of_words stop) status → (job : Job) →
        IsAsked asked reported job →
        IsAnswered linear_programming_of_128_bits job
        (record { read = read_failed; print = Rose old.faults new.faults; punch = punch_failed; memory = Rose old.refusals new.refusals })
        (code_of status) (Appends old.written new.written) (Appends punch punch)
    stopped_answer stops.Refused are_refused ends = words_answer (are_refused refl) ends
    stopped_answer stops.NoMemory are_refused ends = memory_answer ends

  -- the job is read
  pub read_answer : (failures : Failures) (PrintGains PunchGains : List ℕ → Type 0) → asked ≡ Some request.Read →
      ((given : Job) (bytes : List ℕ) → IsGiven reported failures.read given bytes →
      IsAnswered linear_programming_of_128_bits given failures (code_of status) PrintGains PunchGains) →
      (job : Job) → IsAsked asked reported job → IsAnswered linear_programming_of_128_bits job failures (code_of status) PrintGains PunchGains
  read_answer failures PrintGains PunchGains read answers =
      by_source _ asked reported read (λ bytes known. answers (Read bytes) bytes (record { has_bytes = refl; is_reported = known; is_read = λ failed. refl }))

  -- the job is made
  pub made_answer : (none_failed : Type 0) → (none_failed → ⊥) →
      (read_failed print_failed punch_failed memory_wanted : Type 0) (PrintGains PunchGains : List ℕ → Type 0) (size : ℕ) → asked ≡ Some (request.Make size) →
      IsAnswered linear_programming_of_128_bits (Made (made_job size))
      (record { read = none_failed; print = print_failed; punch = punch_failed; memory = memory_wanted }) (code_of status) PrintGains PunchGains →
      (job : Job) → IsAsked asked reported job →
      IsAnswered linear_programming_of_128_bits job (record { read = read_failed; print = print_failed; punch = punch_failed; memory = memory_wanted })
      (code_of status) PrintGains PunchGains
  made_answer none_failed none read_failed print_failed punch_failed memory_wanted PrintGains PunchGains size made answer =
      by_size _ asked reported size made
      (answered_too linear_programming_of_128_bits (Made (made_job size))
      (record { read = none_failed; print = print_failed; punch = punch_failed; memory = memory_wanted }) _ (λ e. absurd (none e)) (λ e. e) (λ e. e)
      (λ e. e) (code_of status) PrintGains PunchGains answer)

  -- a job that is asked for as a request is
  pub same_answer : (failures : Failures) (PrintGains PunchGains : List ℕ → Type 0) (request : Request) → asked ≡ Some request →
      ((job : Job) → IsAsked (Some request) reported job → IsAnswered linear_programming_of_128_bits job failures (code_of status) PrintGains PunchGains) →
      (job : Job) → IsAsked asked reported job → IsAnswered linear_programming_of_128_bits job failures (code_of status) PrintGains PunchGains
  same_answer failures PrintGains PunchGains request is answers job asks = answers job (subst (λ (o : Option Request). IsAsked o reported job) is asks)
