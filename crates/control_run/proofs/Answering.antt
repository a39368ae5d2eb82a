-- What a run is answered, and what its job is answered then.
use Rattle.std.proofs.Common.{◌≡◌, ℕ, ◌≤◌, List, ◌++◌, Option, Some, Result, Ok, Err, refl, sym, ap, subst, arith, ◌∙◌}
use Rattle.std.specs.Prelude.{IfErr}
use Rattle.std.specs.Io.KnownBytes.{Appends}
use Rattle.job_devices.proofs.TextLemmas.{Appends-then, writes_then}
use Rattle.job_devices.specs.States.{SinkState}
use Rattle.job_devices.specs.Causes.{Rose}
use Rattle.job_devices.specs.Text.{Writes}
use Rattle.job_devices.specs.declared.device.WriteStop.{WriteStop}
use Rattle.job_devices.specs.declared.device.WriteStop.TheVariants.{Failed, NoMemory}
use Rattle.card_definitions.specs.Cards.{cards_of}
use Rattle.deck_definitions.specs.Written.{card_text}
use Rattle.control_definitions.specs.Program.{Program}
use Rattle.listing_definitions.specs.Report.{Report}
use Rattle.listing_definitions.specs.Ending.{Ending, status_of}
use Rattle.listing_definitions.specs.Listing.{listing, ending_text, reports_text}
use Rattle.question_definitions.specs.Solving.{Solving}
use Rattle.run_definitions.specs.Moves.{punched_by, gain_of}
use Rattle.run_definitions.specs.Answer.{Job, Failures, bytes_of, IsProgramOf, run, MayEnd, by_itself as ends_by_itself, memory_in_run, memory_at_punch}
use Rattle.run_definitions.specs.Answer.{punch_fails, IsCutShort, IsAnswered}
use Rattle.run_definitions.specs.Answer as answers
use Rattle.run_machine.specs.declared.act.Halt.{Halt}
use Rattle.run_machine.specs.declared.act.Halt.TheVariants as halt
use Rattle.run_machine.specs.declared.end.End.{End}
use Rattle.run_machine.specs.declared.end.End.TheVariants.{Done, Infeasible, Unbounded, Verb, Singular, WrongPrices, Deck, Limit, Statements, Overflow, Memory}
use Rattle.control_run.specs.declared.status.RunStatus.{RunStatus}
use Rattle.control_run.specs.declared.status.RunStatus.TheVariants.{PrintFault, PunchFault}
use Rattle.run_machine.specs.Ends.{end_view}
use Rattle.control_run.specs.Statuses.{code_of, IsStatusOfRun}
use Rattle.control_run.specs.Finishing.{cut_status, Finishes, FinishesHalted, failures_in_run, printed, cut_off}
use Rattle.control_run.specs.Devices.{Counts, counts, IsReported, IsStill}
use Rattle.control_run.specs.Ended.{IsEndOfRun}
use Rattle.control_run.proofs.Reported.{none_more, left, stands_still, reported_print, reported_punch}
use Rattle.control_run.specs.Running.{CanEnd, by_itself, for_memory, for_memory_of_punch, for_punch_fault, punch_end, IsCut, in_report, in_end, RunsTo}
use Rattle.control_run.specs.Running.{IsRunCut, Runs, IsRunAnswer, whole, print_fails, print_wants_memory}

apart : (code a b : ℕ) → code ≡ a → code ≡ b → (a ≡ b → ⊥) → ⊥
apart code a b first second differ = differ (sym first ∙ second)

-- ---- the end is printed

module _ (S : Solving) (program : Program) (cards : List (List ℕ)) where
  -- the answer to a run, by what print and punch count and gain
  abbrev IsAnswerNow : SinkState → SinkState → SinkState → SinkState → RunStatus → Type 0
  IsAnswerNow old new punch_old punch_new status =
      IsRunAnswer S program cards (Rose old.faults new.faults) (Rose old.refusals new.refusals) (Rose punch_old.faults punch_new.faults)
      (Rose punch_old.refusals punch_new.refusals)
      (code_of status) old.written new.written punch_old.written punch_new.written

  -- the print has stopped in the lines of the end
  ended_in : {old now later punch_old punch_now : SinkState} {result : Result (Unit {0}) WriteStop} {ending : Ending} {stop : WriteStop} →
      RunsTo S program cards old now punch_old punch_now result ending →
      Writes {T = Unit {0}} now later (Err stop) (ending_text ending) →
      IsCut S program cards (Rose punch_old.faults punch_now.faults)
      (Rose punch_old.refusals punch_now.refusals) old.written later.written punch_old.written punch_now.written
  ended_in {old = old} {now = now} {later = later} r w =
      let part = w.bytes in
      in_end part.0 r.can_end part.1 (Appends-then old.written now.written later.written (reports_text r.reports) part.0 r.prints.bytes part.2) r.gains

  -- the end is printed after the reports
  finished : {old now later punch_old punch_now : SinkState} {result : Result (Unit {0}) WriteStop} {ending : Ending} {status : RunStatus} →
      RunsTo S program cards old now punch_old punch_now result ending →
      Finishes now later ending status → IsAnswerNow old later punch_old punch_now status
  finished r (printed e w) = whole r.can_end e (writes_then r.prints w).bytes r.gains
  finished r (cut_off Failed e w) = print_fails ((writes_then r.prints w).cause.failed refl) (ap code_of e) (ended_in r w)
  finished r (cut_off NoMemory e w) = print_wants_memory ((writes_then r.prints w).cause.no_memory refl) (ap code_of e) (ended_in r w)

  -- the print stops in a report
  cut_short : {old new punch_old punch_now : SinkState} (stop : WriteStop) → IsRunCut S program cards old new punch_old punch_now stop →
      IsAnswerNow old new punch_old punch_now (cut_status stop)
  cut_short Failed r = print_fails (r.leaves.cause.failed refl) refl (in_report r.outcome r.part r.reaches r.step r.is_part r.gains r.punches.bytes)
  cut_short NoMemory r = print_wants_memory (r.leaves.cause.no_memory refl) refl (in_report r.outcome r.part r.reaches r.step r.is_part r.gains r.punches.bytes)

  -- ---- a fault of the print and one of the punch have their own causes

  -- the end of a run by itself is neither
  no_fault : (end : End) (code : ℕ) → 25 ≤ code → code ≤ 26 → status_of (end_view end) ≡ code → ⊥
  no_fault Done code low high e = omega (arith, low, high, e)
  no_fault Infeasible code low high e = omega (arith, low, high, e)
  no_fault Unbounded code low high e = omega (arith, low, high, e)
  no_fault (Verb fault card) code low high e = omega (arith, low, high, e)
  no_fault (Singular card basis) code low high e = omega (arith, low, high, e)
  no_fault (WrongPrices card variable) code low high e = omega (arith, low, high, e)
  no_fault (Deck fault) code low high e = omega (arith, low, high, e)
  no_fault (Limit limit card) code low high e = omega (arith, low, high, e)
  no_fault Statements code low high e = omega (arith, low, high, e)
  no_fault (Overflow evidence place card) code low high e = omega (arith, low, high, e)
  no_fault Memory code low high e = omega (arith, low, high, e)

  -- the print stops in a report with 25 where it fails, and never with 26
  print_cut_rose : {old now punch_old punch_now : SinkState} (stop : WriteStop) → IsRunCut S program cards old now punch_old punch_now stop →
      cut_status stop ≡ PrintFault → Rose old.faults now.faults
  print_cut_rose Failed r is = r.leaves.cause.failed refl
  print_cut_rose NoMemory r is = absurd (apart 28 28 25 refl (ap code_of is) (λ n. omega (arith, n)))

  no_punch_cut : (stop : WriteStop) → cut_status stop ≡ PunchFault → ⊥
  no_punch_cut Failed is = apart 25 25 26 refl (ap code_of is) (λ n. omega (arith, n))
  no_punch_cut NoMemory is = apart 28 28 26 refl (ap code_of is) (λ n. omega (arith, n))

  -- the code of an end that the punch brings
  code_at : (result : Result (Unit {0}) WriteStop) (ending : Ending) (status : RunStatus) → IfErr result (λ stop. ending ≡ punch_end stop) →
      code_of status ≡ status_of ending → IfErr result (λ stop. code_of status ≡ status_of (punch_end stop))
  code_at (Ok done) ending status ends e = tt
  code_at (Err stop) ending status ends e = e ∙ ap status_of ends

  print_rose : {old now later punch_old punch_now : SinkState} {result : Result (Unit {0}) WriteStop} {ending : Ending} {status : RunStatus} →
      RunsTo S program cards old now punch_old punch_now result ending →
      Finishes now later ending status → (status_of ending ≡ 25 → ⊥) → status ≡ PrintFault → Rose old.faults later.faults
  print_rose r (printed e w) other is = absurd (other (sym e ∙ ap code_of is))
  print_rose r (cut_off Failed e w) other is = (writes_then r.prints w).cause.failed refl
  print_rose {status = status} r (cut_off NoMemory e w) other is = absurd (apart (code_of status) 28 25 (ap code_of e) (ap code_of is) (λ n. omega (arith, n)))

  no_punch_fault : {now later : SinkState} {ending : Ending} {status : RunStatus} → Finishes now later ending status → (status_of ending ≡ 26 → ⊥) →
      status ≡ PunchFault → ⊥
  no_punch_fault (printed e w) other is = other (sym e ∙ ap code_of is)
  no_punch_fault {status = status} (cut_off Failed e w) other is = apart (code_of status) 25 26 (ap code_of e) (ap code_of is) (λ n. omega (arith, n))
  no_punch_fault {status = status} (cut_off NoMemory e w) other is = apart (code_of status) 28 26 (ap code_of e) (ap code_of is) (λ n. omega (arith, n))

  -- ---- by what the run's result is

  -- how often print and punch have failed or found no memory; no job is read
  abbrev counted : SinkState → SinkState → Counts
  counted print punch = counts 0 print punch

  -- the status reports what has failed, and nothing was written after
  pub record IsNoted (old later punch_old punch_now : SinkState) (status : RunStatus) : Type 0 where
    pub reported : IsReported (counted old punch_old) (counted later punch_now) (code_of status)
    pub print_still : IsStill old later
    pub punch_still : IsStill punch_old punch_now

  noted_by_end : {old now later punch_old punch_now : SinkState} (result : Result (Unit {0}) WriteStop) {ending : Ending} {status : RunStatus} →
      IfErr result (λ stop. ending ≡ punch_end stop) →
      RunsTo S program cards old now punch_old punch_now result ending → Finishes now later ending status → IsNoted old later punch_old punch_now status
  noted_by_end {old = old} {later = later} {punch_old = punch_old} {punch_now = punch_now} result {ending = ending} {status = status} ends r (printed e w) =
      let l = left (writes_then r.prints w) in
      record {
        reported =
            reported_punch 0 0 old later punch_old punch_now result (code_of status) (code_at result ending status ends e) l.cause r.leaves.cause
            (λ more. none_more 0 0 refl more);
        print_still = stands_still (Ok tt) l;
        punch_still = stands_still result r.leaves;
      }
  noted_by_end {old = old} {later = later} {punch_old = punch_old} {punch_now = punch_now} result {status = status} ends r (cut_off stop e w) =
      let l = left (writes_then r.prints w) in
      record {
        reported = reported_print 0 0 old later punch_old punch_now stop (code_of status) (ap code_of e) l.cause;
        print_still = stands_still (Err stop) l;
        punch_still = stands_still result r.leaves;
      }

  noted_by_cut : {old now : SinkState} (later : SinkState) {punch_old punch_now : SinkState} (stop : WriteStop) {status : RunStatus} →
      IsRunCut S program cards old now punch_old punch_now stop →
      status ≡ cut_status stop → later ≡ now → IsNoted old later punch_old punch_now status
  noted_by_cut {old = old} {now = now} later {punch_old = punch_old} {punch_now = punch_now} stop {status = status} r e same =
      subst (λ (p : SinkState). IsNoted old p punch_old punch_now status) (sym same)
      (record {
        reported = reported_print 0 0 old now punch_old punch_now stop (code_of status) (ap code_of e) r.leaves.cause;
        print_still = stands_still (Err stop) r.leaves;
        punch_still = stands_still (Ok tt) (left r.punches);
      })

  pub record IsFinished (old later punch_old punch_now : SinkState) (status : RunStatus) : Type 0 where
    pub answer : IsAnswerNow old later punch_old punch_now status
    pub print_fault : status ≡ PrintFault → Rose old.faults later.faults
    pub punch_fault : status ≡ PunchFault → Rose punch_old.faults punch_now.faults
    pub noted : IsNoted old later punch_old punch_now status

  pub finished_by_end : {old now later punch_old punch_now : SinkState} (end : End) {status : RunStatus} →
      RunsTo S program cards old now punch_old punch_now (Ok tt) (end_view end) →
      Finishes now later (end_view end) status → IsFinished old later punch_old punch_now status
  finished_by_end end r f = record {
    answer = finished r f;
    print_fault = print_rose r f (no_fault end 25 (omega arith) (omega arith));
    punch_fault = λ is. absurd (no_punch_fault f (no_fault end 26 (omega arith) (omega arith)) is);
    noted = noted_by_end (Ok tt) tt r f;
  }

  pub finished_by_halt : {old : SinkState} (now : SinkState) {later punch_old punch_now : SinkState} (h : Halt) {status : RunStatus} →
      Runs S program cards old now punch_old punch_now (Err h) →
      FinishesHalted now later h status → IsFinished old later punch_old punch_now status
  finished_by_halt {old = old} now {later = later} {punch_old = punch_old} {punch_now = punch_now} (halt.Print stop) {status = status} r f = record {
    answer =
        subst (λ (s : RunStatus). IsAnswerNow old later punch_old punch_now s) (sym f.0)
        (subst (λ (p : SinkState). IsAnswerNow old p punch_old punch_now (cut_status stop)) (sym f.1) (cut_short stop r));
    print_fault = λ is. rw f.1 (print_cut_rose stop r (sym f.0 ∙ is));
    punch_fault = λ is. absurd (no_punch_cut stop (sym f.0 ∙ is));
    noted = noted_by_cut later stop r f.0 f.1;
  }
  finished_by_halt now (halt.Punch Failed) {status = status} r f = record {
    answer = finished r f;
    print_fault = print_rose r f (λ e. absurd (apart 26 26 25 refl e (λ n. omega (arith, n))));
    punch_fault = λ is. r.leaves.cause.failed refl;
    noted = noted_by_end (Err Failed) refl r f;
  }
  finished_by_halt now (halt.Punch NoMemory) {status = status} r f = record {
    answer = finished r f;
    print_fault = print_rose r f (λ e. absurd (apart 28 28 25 refl e (λ n. omega (arith, n))));
    punch_fault = λ is. absurd (no_punch_fault f (λ e. apart 28 28 26 refl e (λ n. omega (arith, n))) is);
    noted = noted_by_end (Err NoMemory) refl r f;
  }
  finished_by_halt now halt.NoMemory {status = status} r f = record {
    answer = finished r f;
    print_fault = print_rose r f (λ e. absurd (apart 28 28 25 refl e (λ n. omega (arith, n))));
    punch_fault = λ is. absurd (no_punch_fault f (λ e. apart 28 28 26 refl e (λ n. omega (arith, n))) is);
    noted = noted_by_end (Ok tt) tt r f;
  }

-- ---- the job

module _ (S : Solving) (program : Program) (job : Job) (failures : Failures) (bytes : List ℕ) (of_job : bytes_of job ≡ Some bytes)
    (is_program : IsProgramOf bytes program) (punch_failed punch_wanted : Type 0) (punch_fails_too : punch_failed → failures.punch) where
  may_end : {reports : List Report} {punched deck : List (List ℕ)} {ending : Ending} →
      CanEnd S program (cards_of bytes) punch_failed punch_wanted reports punched deck ending → MayEnd S job failures reports punched deck ending
  may_end (by_itself is_run) = ends_by_itself bytes of_job (run program is_program is_run)
  may_end (for_memory {state = state} reaches) = memory_in_run bytes program state of_job (record { is_program = is_program; reaches = reaches })
  may_end (for_memory_of_punch {state = state} deck wanted reaches punching) =
      memory_at_punch bytes program state deck of_job (record { is_program = is_program; reaches = reaches }) punching
  may_end (for_punch_fault {state = state} deck failed reaches punching) =
      punch_fails bytes program state deck (punch_fails_too failed) of_job (record { is_program = is_program; reaches = reaches }) punching

  module _ (old new punch_old punch_new : Option (List ℕ)) where
    -- what a listing is in which the print has stopped
    abbrev IsCutTo : ℕ → Type 0
    IsCutTo status =
        (printed : List ℕ) × (punched : List ℕ) × Appends old new printed × Appends punch_old punch_new punched × IsCutShort S job failures
        (record { status = status; printed = printed; punched = punched })

    cut : (status : ℕ) → IsCut S program (cards_of bytes) punch_failed punch_wanted old new punch_old punch_new → IsCutTo status
    cut status (in_report {reports} {punched} {state} outcome part reaches step is_part gains punch_gains) = (
      reports_text reports ++ part,
      card_text (punched ++ punched_by (gain_of outcome)),
      gains,
      punch_gains,
      answers.in_report bytes program state outcome part of_job (record { is_program = is_program; reaches = reaches }) step is_part refl refl,
    )
    cut status (in_end {reports} {punched} {deck} {ending} part can is_part gains punch_gains) =
        (reports_text reports ++ part, punch_gains.0, gains, punch_gains.1, answers.in_end ending part (may_end can) is_part refl punch_gains.2)

    answer_of : {failed wanted : Type 0} {status : ℕ} → (failed → failures.print) → (wanted → failures.memory) →
        IsRunAnswer S program (cards_of bytes) failed wanted punch_failed punch_wanted status old new punch_old punch_new →
        IsAnswered S job failures status (Appends old new) (Appends punch_old punch_new)
    answer_of fails wants (whole {reports = reports} {ending = ending} can e text gains) =
        (listing reports ending, gains.0, text, gains.1, answers.whole ending (may_end can) e refl gains.2)
    answer_of {status = status} fails wants (print_fails failed e is) =
        let c = cut status is in
        (c.0, c.1, c.2, c.3, answers.print_fails (fails failed) e c.4)
    answer_of {status = status} fails wants (print_wants_memory wanted e is) =
        let c = cut status is in
        (c.0, c.1, c.2, c.3, answers.print_wants_memory (wants wanted) e c.4)

-- What the run of a job's program is answered, the job is answered, in view of any failures among which are those of the run.
pub job_answered : (S : Solving) (program : Program) (cards : List (List ℕ))
    (failures : Failures) {failed wanted punch_failed punch_wanted : Type 0} {status : ℕ} {old new punch_old punch_new : Option (List ℕ)} →
    (failed → failures.print) → (wanted → failures.memory) → (punch_failed → failures.punch) →
    IsRunAnswer S program cards failed wanted punch_failed punch_wanted status old new punch_old punch_new →
    (job : Job) (bytes : List ℕ) → bytes_of job ≡ Some bytes → IsProgramOf bytes program → cards ≡ cards_of bytes →
    IsAnswered S job failures status (Appends old new) (Appends punch_old punch_new)
job_answered S program cards failures {failed = failed} {wanted = wanted} {punch_failed = punch_failed} {punch_wanted = punch_wanted} {status = status} {old =
    old} {new = new} {punch_old = punch_old} {punch_new = punch_new} fails wants punch_fails_too answer job bytes of_job is_program same =
    answer_of S program job failures bytes of_job is_program punch_failed punch_wanted punch_fails_too old new punch_old punch_new fails wants
    (subst (λ (c : List (List ℕ)). IsRunAnswer S program c failed wanted punch_failed punch_wanted status old new punch_old punch_new) same answer)

-- ---- the end of the run

module _ (S : Solving) (program : Program) (cards : List (List ℕ)) where
  ended : {old later punch_old punch_now : SinkState} {status : RunStatus} → IsFinished S program cards old later punch_old punch_now status →
      IsStatusOfRun status → IsEndOfRun S program cards old later punch_old punch_now status
  ended {old = old} {later = later} {punch_old = punch_old} {punch_now = punch_now} f own = record {
    run = f.answer;
    answer =
        job_answered S program cards
        (failures_in_run (Rose old.faults later.faults) (Rose punch_old.faults punch_now.faults) (Rose old.refusals later.refusals))
        (λ h. h) (λ h. h) (λ h. h) f.answer;
    print_fault = f.print_fault;
    punch_fault = f.punch_fault;
    reported = f.noted.reported;
    still = (f.noted.print_still, f.noted.punch_still);
    own = own;
  }

  pub ended_by_end : {old now later punch_old punch_now : SinkState} (end : End) {status : RunStatus} →
      RunsTo S program cards old now punch_old punch_now (Ok tt) (end_view end) →
      Finishes now later (end_view end) status → IsStatusOfRun status →
      IsEndOfRun S program cards old later punch_old punch_now status
  ended_by_end end r f own = ended (finished_by_end S program cards end r f) own

  pub ended_by_halt : {old : SinkState} (now : SinkState) {later punch_old punch_now : SinkState} (h : Halt) {status : RunStatus} →
      Runs S program cards old now punch_old punch_now (Err h) →
      FinishesHalted now later h status → IsStatusOfRun status →
      IsEndOfRun S program cards old later punch_old punch_now status
  ended_by_halt now h r f own = ended (finished_by_halt S program cards now h r f) own
