-- Where each answer and each evidence that is right by S is right by T, each run and each answer to a job by S is one by T.
use Rattle.std.proofs.Common.{ℕ, List, Option, inl, inr}
use Rattle.lp_definitions.specs.declared.Evidence.{Evidence}
use Rattle.listing_definitions.specs.Report.{Report}
use Rattle.listing_definitions.specs.Ending.{Place, Ending}
use Rattle.card_definitions.specs.Cards.{Card}
use Rattle.control_definitions.specs.Program.{Program}
use Rattle.question_definitions.specs.Answers.{Basis, Sheet, Question, AnswerTo}
use Rattle.question_definitions.specs.Solving.{Solving, IsRight}
use Rattle.run_definitions.specs.State.{State}
use Rattle.run_definitions.specs.Moves.{StatementOutcome, Refusals, InSelection, InAnswer, StatementMove, Does, MayStop, Asks, Shows, Gives}
use Rattle.run_definitions.specs.Run.{Step, IsOver, at_end, at_limit, Reaches, begun, stepped, IsRun, is_over, is_ended}
use Rattle.run_definitions.specs.Answer.{Job, Answer, Failures, job_decks, IsJobRun, card_fault, control_fault, run, IsSoFar, IsPunching, MayEnd, words_refused}
use Rattle.run_definitions.specs.Answer.{read_fails, by_itself, memory_at_start, memory_in_run, memory_at_punch, punch_fails, IsCutShort, in_report, in_end}
use Rattle.run_definitions.specs.Answer.{IsAnswer, whole, print_fails, print_wants_memory, IsAnswered}

module _ (S T : Solving)
    (right : (question : Question) (sheet : Sheet) (s : Basis) (answer : AnswerTo question) → IsRight S question sheet s answer →
    IsRight T question sheet s answer)
    (overflows : (question : Question) (sheet : Sheet) (bases : List Basis) (e : Evidence) (place : Option Place) → S.Overflows question sheet bases e place →
    T.Overflows question sheet bases e place) where
  shows : (refusals : Refusals) (e : Evidence) (place : Option Place) → Shows S refusals e place → Shows T refusals e place
  shows (InSelection problem choice) e place shown = shown
  shows (InAnswer question sheet bases) e place shown = overflows question sheet bases e place shown

  pub gives : (card : ℕ) (move : StatementMove) (outcome : StatementOutcome) → Gives S card move outcome → Gives T card move outcome
  gives card (Does other) outcome given = given
  gives card (MayStop refusals move) outcome (inl given) = inl (gives card move outcome given)
  gives card (MayStop refusals move) outcome (inr stop) = inr (stop.0, stop.1, shows refusals stop.0 stop.1 stop.2, stop.3)
  gives card (Asks question sheet s go) outcome given = (given.0, right question sheet s given.0 given.1, given.2)

  module _ (program : Program) where
    pub step : (s : State) (outcome : StatementOutcome) → Step S program s outcome → Step T program s outcome
    step s outcome does =
        record {
          statement = does.statement;
          is_at_position = does.is_at_position;
          is_within_limit = does.is_within_limit;
          gives = gives does.statement.card _
              outcome does.gives;
        }

    pub over : (s : State) (ending : Ending) → IsOver S program s ending → IsOver T program s ending
    over s _ (at_end past) = at_end past
    over s _ (at_limit within limit) = at_limit within limit

    module _ (decks : List (List Card)) where
      pub reaches : (reports : List Report) (cards : List (List ℕ)) (s : State) → Reaches S program decks reports cards s →
          Reaches T program decks reports cards s
      reaches _ _ _ begun = begun
      reaches _ _ _ (stepped {reports} {cards} {state} gain after before does) = stepped gain after (reaches reports cards state before) (step state _ does)

      pub is_run : (reports : List Report) (cards : List (List ℕ)) (ending : Ending) → IsRun S program decks reports cards ending →
          IsRun T program decks reports cards ending
      is_run _ _ ending (is_over {reports} {cards} {state} before is) = is_over (reaches reports cards state before) (over state ending is)
      is_run _ _ _ (is_ended {reports} {cards} {state} gain before does) = is_ended gain (reaches reports cards state before) (step state _ does)

    punching : (s : State) (deck : List (List ℕ)) → IsPunching S program s deck → IsPunching T program s deck
    punching s deck is = record { report = is.report; after = is.after; step = step s _ is.step }

  pub job_run : (bytes : List ℕ) (reports : List Report) (cards : List (List ℕ)) (ending : Ending) → IsJobRun S bytes reports cards ending →
      IsJobRun T bytes reports cards ending
  job_run bytes _ _ _ (card_fault fault is) = card_fault fault is
  job_run bytes _ _ _ (control_fault fault none is) = control_fault fault none is
  job_run bytes reports cards ending (run program is_program runs) = run program is_program (is_run program (job_decks program bytes) reports cards ending runs)

  so_far : (bytes : List ℕ) (reports : List Report) (cards : List (List ℕ)) (program : Program) (s : State) → IsSoFar S bytes reports cards program s →
      IsSoFar T bytes reports cards program s
  so_far bytes reports cards program s is =
      record { is_program = is.is_program; reaches = reaches program (job_decks program bytes) reports cards s is.reaches }

  module _ (job : Job) (failures : Failures) where
    may_end : (reports : List Report) (cards deck : List (List ℕ)) (ending : Ending) → MayEnd S job failures reports cards deck ending →
        MayEnd T job failures reports cards deck ending
    may_end _ _ _ _ (words_refused is) = words_refused is
    may_end _ _ _ _ (read_fails bytes is failed) = read_fails bytes is failed
    may_end reports cards _ ending (by_itself bytes is runs) = by_itself bytes is (job_run bytes reports cards ending runs)
    may_end _ _ _ _ memory_at_start = memory_at_start
    may_end reports cards _ _ (memory_in_run bytes program state is come) = memory_in_run bytes program state is (so_far bytes reports cards program state come)
    may_end reports cards _ _ (memory_at_punch bytes program state deck is come punches) =
        memory_at_punch bytes program state deck is (so_far bytes reports cards program state come) (punching program state deck punches)
    may_end reports cards _ _ (punch_fails bytes program state deck failed is come punches) =
        punch_fails bytes program state deck failed is (so_far bytes reports cards program state come) (punching program state deck punches)

    cut_short : (answer : Answer) → IsCutShort S job failures answer → IsCutShort T job failures answer
    cut_short answer (in_report bytes program state {reports} {cards} outcome part is come does is_part printed punched) =
        in_report bytes program state outcome part is (so_far bytes reports cards program state come) (step program state outcome does) is_part printed punched
    cut_short answer (in_end {reports} {cards} {deck} ending part ends is_part printed gained) =
        in_end ending part (may_end reports cards deck ending ends) is_part printed gained

    is_answer : (answer : Answer) → IsAnswer S job failures answer → IsAnswer T job failures answer
    is_answer answer (whole {reports} {cards} {deck} ending ends status printed gained) =
        whole ending (may_end reports cards deck ending ends) status printed gained
    is_answer answer (print_fails failed status cut) = print_fails failed status (cut_short answer cut)
    is_answer answer (print_wants_memory wanted status cut) = print_wants_memory wanted status (cut_short answer cut)

    pub is_answered : (status : ℕ) (PrintGains PunchGains : List ℕ → Type 0) → IsAnswered S job failures status PrintGains PunchGains →
        IsAnswered T job failures status PrintGains PunchGains
    is_answered status PrintGains PunchGains is = (is.0, is.1, is.2, is.3, is_answer (record { status = status; printed = is.0; punched = is.1 }) is.4)
