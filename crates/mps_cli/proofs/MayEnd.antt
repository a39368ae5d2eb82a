-- How a job may end, whatever fails.
use Rattle.std.proofs.Common.{◌≡◌, ℕ, List, [], Option, None, Some, IfSome, subst}
use Rattle.listing_definitions.specs.Report.{Report}
use Rattle.listing_definitions.specs.Ending.{Ending}
use Rattle.question_definitions.specs.Solving.{Solving}
use Rattle.run_definitions.specs.Answer.{Job, Read, bytes_of, Failures, Answer, IsProgramOf, MayEnd, words_refused, read_fails, by_itself, memory_at_start}
use Rattle.run_definitions.specs.Answer.{memory_in_run, memory_at_punch, punch_fails, IsCutShort, in_report, in_end, IsAnswer, IsAnswered, whole, print_fails}
use Rattle.run_definitions.specs.Answer.{print_wants_memory, card_fault, control_fault}
use Rattle.job_program.specs.declared.reading.Prepared.{Prepared}
use Rattle.job_program.specs.declared.stop.EarlyStop.{EarlyStop}
use Rattle.job_program.specs.declared.stop.EarlyStop.TheVariants.{Words, ReadFault, Card, Control, Memory}
use Rattle.job_program.specs.Stops.{stop_view, ReportsEarlyStop, ArePrepared, HasStopCause}

-- ---- a job may end with what stops it

module _ (S : Solving) (job : Job) (bytes : List ℕ) (failures : Failures) (is_read : Type 0) (has : bytes_of job ≡ Some bytes)
    (read : failures.read → job ≡ Read bytes) where
  reported : (stop : EarlyStop) → ReportsEarlyStop (Some bytes) stop → HasStopCause failures.read is_read stop → MayEnd S job failures [] [] [] (stop_view stop)
  reported Words tells cause = absurd tells
  reported ReadFault tells cause = read_fails bytes (read cause) cause
  reported (Card fault) tells cause = by_itself bytes has (card_fault fault tells)
  reported (Control fault) tells cause = by_itself bytes has (control_fault fault tells.0 tells.1)
  reported Memory tells cause = memory_at_start

  pub may_stop : {known : Option (List ℕ)} (stop : EarlyStop) → known ≡ Some bytes → ReportsEarlyStop known stop → HasStopCause failures.read is_read stop →
      MayEnd S job failures [] [] [] (stop_view stop)
  may_stop stop is tells cause = reported stop (subst (λ (k : Option (List ℕ)). ReportsEarlyStop k stop) is tells) cause

pub prepared_of : (bytes : List ℕ) {known : Option (List ℕ)} (prepared : Prepared) → known ≡ Some bytes → ArePrepared known prepared →
    ArePrepared (Some bytes) prepared
prepared_of bytes prepared is are = subst (λ (k : Option (List ℕ)). ArePrepared k prepared) is are

-- the program is that of the job
pub program_of : (known : Option (List ℕ)) (prepared : Prepared) → ArePrepared known prepared → IfSome known (λ bytes. IsProgramOf bytes prepared.program)
program_of None prepared are = tt
program_of (Some job) prepared are = are.1

-- ---- what is an answer where some things have failed is one where others have failed too

module _ (S : Solving) (job : Job) (some others : Failures) (read : some.read → others.read) (print : some.print → others.print)
    (punch : some.punch → others.punch) (memory : some.memory → others.memory) where
  ends : (reports : List Report) (cards deck : List (List ℕ)) (ending : Ending) → MayEnd S job some reports cards deck ending →
      MayEnd S job others reports cards deck ending
  ends _ _ _ _ (words_refused is) = words_refused is
  ends _ _ _ _ (read_fails bytes is failed) = read_fails bytes is (read failed)
  ends _ _ _ _ (by_itself bytes is runs) = by_itself bytes is runs
  ends _ _ _ _ memory_at_start = memory_at_start
  ends _ _ _ _ (memory_in_run bytes program state is so_far) = memory_in_run bytes program state is so_far
  ends _ _ _ _ (memory_at_punch bytes program state deck is so_far punching) = memory_at_punch bytes program state deck is so_far punching
  ends _ _ _ _ (punch_fails bytes program state deck failed is so_far punching) = punch_fails bytes program state deck (punch failed) is so_far punching

  cut_short : (answer : Answer) → IsCutShort S job some answer → IsCutShort S job others answer
  cut_short answer (in_report bytes program state outcome part is so_far step prefix printed punched) =
      in_report bytes program state outcome part is so_far step prefix printed punched
  cut_short answer (in_end {reports} {cards} {deck} ending part may_end prefix printed punched) =
      in_end ending part (ends reports cards deck ending may_end) prefix printed punched

  answers : (answer : Answer) → IsAnswer S job some answer → IsAnswer S job others answer
  answers answer (whole {reports} {cards} {deck} ending may_end status printed punched) =
      whole ending (ends reports cards deck ending may_end) status printed punched
  answers answer (print_fails failed status cut) = print_fails (print failed) status (cut_short answer cut)
  answers answer (print_wants_memory wanted status cut) = print_wants_memory (memory wanted) status (cut_short answer cut)

  pub answered_too : (status : ℕ) (PrintGains PunchGains : List ℕ → Type 0) → IsAnswered S job some status PrintGains PunchGains →
      IsAnswered S job others status PrintGains PunchGains
  answered_too status PrintGains PunchGains is = (is.0, is.1, is.2, is.3, answers (record { status = status; printed = is.0; punched = is.1 }) is.4)
