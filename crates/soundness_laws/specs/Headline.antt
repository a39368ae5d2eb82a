-- The headline of a job: its answer is that of a run, and each report of this run, and its end, holds of
-- the state in which it was made.
--     HoldSoFar, HoldInRun ..      each report of a run, and its end, says this of the state in which it was made
--     HoldInEnd may_end            so does each report of a job, however it ends
--     HoldInCut cut                and so of a listing in which the print has stopped
--     HoldInAnswer answer          and so of an answer to a job
--     IsTrueAnswer job ..          the headline
use Rattle.std.specs.Prelude.{ℕ, List, All}
use Rattle.card_definitions.specs.Cards.{Card}
use Rattle.control_definitions.specs.Program.{Program}
use Rattle.listing_definitions.specs.Report.{Report}
use Rattle.listing_definitions.specs.Ending.{Ending}
use Rattle.question_definitions.specs.Solving.{Solving}
use Rattle.run_definitions.specs.State.{State}
use Rattle.run_definitions.specs.Moves.{printed_by, gain_of}
use Rattle.run_definitions.specs.Run.{Reaches, begun, stepped, IsRun, is_over, is_ended}
use Rattle.run_definitions.specs.Answer.{Job, Failures, Answer, IsJobRun, run, MayEnd, by_itself, memory_in_run, memory_at_punch, punch_fails, IsCutShort}
use Rattle.run_definitions.specs.Answer.{in_report, in_end, IsAnswer, whole, print_fails, print_wants_memory}
use Rattle.soundness_laws.specs.Truth.{Holds, HoldsAtEnd}

-- What a report says of the state in which it is made is a parameter here, and so is what an end says.
module _ (S : Solving) (Says : State → Report → Type 0) where
  -- of a run so far: a report is made in the state before its statement
  abbrev pub HoldSoFar : (program : Program) (decks : List (List Card)) {reports : List Report} {cards : List (List ℕ)}
      {state : State} → Reaches S program decks reports cards state → Type 0
  HoldSoFar program decks begun = Unit {0}
  HoldSoFar program decks (stepped {reports} {cards} {state} gain after before step) =
      HoldSoFar program decks before × All (Says state) (printed_by gain)

  module _ (SaysAtEnd : State → Ending → Type 0) where
    -- of a whole run
    abbrev pub HoldInRun : (program : Program) (decks : List (List Card)) {reports : List Report} {cards : List (List ℕ)}
        {ending : Ending} → IsRun S program decks reports cards ending → Type 0
    HoldInRun program decks (is_over before over) = HoldSoFar program decks before
    HoldInRun program decks {ending = ending} (is_ended {reports} {cards} {state} gain before step) =
        HoldSoFar program decks before × All (Says state) (printed_by gain) × SaysAtEnd state ending

    -- of a job where nothing fails: a fault of its cards or a control fault comes without a report
    abbrev pub HoldInJob : {bytes : List ℕ} {reports : List Report} {cards : List (List ℕ)} {ending : Ending} →
        IsJobRun S bytes reports cards ending → Type 0
    HoldInJob (run program is_program runs) = HoldInRun program _ runs
    HoldInJob _ = Unit {0}

module _ (S : Solving) where
  -- of a job however it ends: where memory runs out or the punch fails, the reports are those of the run
  -- so far
  abbrev pub HoldInEnd : {job : Job} {failures : Failures} {reports : List Report} {cards deck : List (List ℕ)}
      {ending : Ending} → MayEnd S job failures reports cards deck ending → Type 0
  HoldInEnd (by_itself bytes is runs) = HoldInJob S Holds HoldsAtEnd runs
  HoldInEnd (memory_in_run bytes program state is so_far) = HoldSoFar S Holds program _ so_far.reaches
  HoldInEnd (memory_at_punch bytes program state deck is so_far punching) = HoldSoFar S Holds program _ so_far.reaches
  HoldInEnd (punch_fails bytes program state deck failed is so_far punching) = HoldSoFar S Holds program _ so_far.reaches
  HoldInEnd _ = Unit {0}

  -- of a listing in which the print has stopped: of the reports that stand whole, and of that of which a
  -- prefix stands
  abbrev pub HoldInCut : {job : Job} {failures : Failures} {answer : Answer} →
      IsCutShort S job failures answer → Type 0
  HoldInCut (in_report bytes program state outcome part is so_far step prefix printed punched) =
      HoldSoFar S Holds program _ so_far.reaches × All (Holds state) (printed_by (gain_of outcome))
  HoldInCut (in_end ending part may_end prefix printed punched) = HoldInEnd may_end

  -- of an answer: of the reports of its listing, or of the listing that is cut short
  abbrev pub HoldInAnswer : {job : Job} {failures : Failures} {answer : Answer} →
      IsAnswer S job failures answer → Type 0
  HoldInAnswer (whole ending may_end status printed punched) = HoldInEnd may_end
  HoldInAnswer (print_fails failed status cut) = HoldInCut cut
  HoldInAnswer (print_wants_memory wanted status cut) = HoldInCut cut

  -- THE HEADLINE. The print and the punch gain some bytes. With the status they are an answer to this job:
  -- the printed bytes are the listing of the reports and the end of a run of the job's program, or of its
  -- early stop; or the print has stopped in a report or in the lines of an end, and all that comes before
  -- stands with a prefix of it. And each report of this run holds of the state in which it was made.
  pub record IsTrueAnswer (job : Job) (failures : Failures) (status : ℕ) (PrintGains PunchGains : List ℕ → Type 0) :
      Type 0 where
    pub printed : List ℕ
    pub punched : List ℕ
    pub print_gains : PrintGains printed
    pub punch_gains : PunchGains punched
    pub is_answer : IsAnswer S job failures (record { status = status; printed = printed; punched = punched })
    pub each_holds : HoldInAnswer is_answer
