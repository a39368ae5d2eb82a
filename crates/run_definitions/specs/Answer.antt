-- What a job may be answered: the promise that the whole program keeps.
--     Job                          words that are refused, or the bytes of a job
--     IsPunchedTo cards deck ..    all cards of the reports before are punched, and then a prefix of the deck in hand
--     Gains ending cards deck ..   what the punch has gained by an end
--     IsJobRun bytes ..            what a job reports and punches and how it ends, where nothing fails
--     IsSoFar bytes ..             how far a job has come
--     MayEnd job ..                how a job may end, where devices and memory may fail
--     IsCutShort job .. answer     the print has stopped in a report or in the lines of an end
--     IsAnswer job .. answer       the status, and the bytes that the print and the punch gain
--     IsAnswered job ..            what a call answers to a job, so far as its print and its punch tell what they gain
use Rattle.std.specs.Prelude.{ℕ, ◌≡◌, ◌-◌, List, [], ◌++◌, Option, None, Some, Ok, Err, drop}
use Rattle.card_definitions.specs.declared.CardFault.{CardFault}
use Rattle.card_definitions.specs.Cards.{Card, cards_of, numbered_cards, job_fault}
use Rattle.deck_definitions.specs.Decks.{decks_of}
use Rattle.deck_definitions.specs.Written.{card_text}
use Rattle.control_definitions.specs.declared.ControlFault.{ControlFault}
use Rattle.control_definitions.specs.Program.{Program}
use Rattle.control_definitions.specs.Compiled.{compiled}
use Rattle.listing_definitions.specs.Report.{Report}
use Rattle.listing_definitions.specs.Ending.{Ending, WordsRefused, ControlStop, CardStop, ReadFault, PrintFault, PunchFault, Memory, status_of}
use Rattle.card_definitions.specs.Prefixes.{IsPrefix}
use Rattle.listing_definitions.specs.Listing.{ending_text, reports_text, listing}
use Rattle.question_definitions.specs.Solving.{Solving}
use Rattle.run_definitions.specs.State.{State}
use Rattle.run_definitions.specs.Moves.{Punches, printed_by, punched_by, StatementOutcome, Goes, gain_of}
use Rattle.run_definitions.specs.Run.{Step, Reaches, IsRun}

-- The words are refused; or the job is read from its source; or the words have made it.
pub data Job : Type 0 where
  WithoutBytes : Job
  Read Made : List ℕ → Job

abbrev pub bytes_of : Job → Option (List ℕ)
bytes_of WithoutBytes = None
bytes_of (Read bytes) = Some bytes
bytes_of (Made bytes) = Some bytes

-- the status, and the bytes that the print and the punch have gained
pub record Answer : Type 0 where
  pub status : ℕ
  pub printed : List ℕ
  pub punched : List ℕ

-- what has failed in a call: a read of the job, a write to the print, a write to the punch; or the print has run out of memory
pub record Failures : Type 1 where
  pub read : Type 0
  pub print : Type 0
  pub punch : Type 0
  pub memory : Type 0

-- The punch has gained the whole text of the cards of the reports before, and then a prefix of the text of the deck in hand, and no
-- more. Where no deck is in hand the deck is empty, and the text of the cards is all.
pub record IsPunchedTo (cards deck : List (List ℕ)) (gained : List ℕ) : Type 0 where
  pub part : List ℕ
  pub is_prefix : IsPrefix part (card_text deck)
  pub is_gained : gained ≡ card_text cards ++ part

-- What the punch has gained by an end: where a write to the punch fails, or memory runs out, all cards of the reports before and a
-- prefix of the deck in hand; else all cards, with no deck in hand.
abbrev pub Gains : Ending → List (List ℕ) → List (List ℕ) → List ℕ → Type 0
Gains PunchFault cards deck gained = IsPunchedTo cards deck gained
Gains Memory cards deck gained = IsPunchedTo cards deck gained
Gains _ cards deck gained = gained ≡ card_text cards

-- the decks of a job are those of the cards after its program
abbrev pub job_decks : Program → List ℕ → List (List Card)
job_decks program bytes = decks_of (drop (program.decks_from - 1) (numbered_cards (cards_of bytes)))

-- a job without a fault of its cards, whose cards compile to a program
pub record IsProgramOf (bytes : List ℕ) (program : Program) : Type 0 where
  pub is_read : job_fault bytes ≡ None
  pub is_compiled : compiled (cards_of bytes) ≡ Ok program

module _ (S : Solving) where
  -- What a job comes to where no device and no memory fails: a fault of its cards, a control fault, or a run of its program.
  pub data IsJobRun (bytes : List ℕ) : List Report → List (List ℕ) → Ending → Type 0 where
    card_fault : (fault : CardFault) → job_fault bytes ≡ Some fault → IsJobRun bytes [] [] (CardStop fault)
    control_fault : (fault : ControlFault) → job_fault bytes ≡ None → compiled (cards_of bytes) ≡ Err fault → IsJobRun bytes [] [] (ControlStop fault)
    run : (program : Program) {reports : List Report} {cards : List (List ℕ)} {ending : Ending} →
        IsProgramOf bytes program → IsRun S program (job_decks program bytes) reports cards ending → IsJobRun bytes reports cards ending

  -- the run of a job's program has come to a state, with these reports so far, and these cards punched
  pub record IsSoFar (bytes : List ℕ) (reports : List Report) (cards : List (List ℕ)) (program : Program) (state : State) : Type 0 where
    pub is_program : IsProgramOf bytes program
    pub reaches : Reaches S program (job_decks program bytes) reports cards state

  -- these cards are being punched: a statement that has not reported yet would punch them as its deck
  pub record IsPunching (program : Program) (state : State) (deck : List (List ℕ)) : Type 0 where
    pub report : Report
    pub after : State
    pub step : Step S program state (Goes (Punches report deck) after)

  -- How a job may end, with the reports so far, the cards of those reports, and the deck in hand: as it does by itself; or since the
  -- words are refused, a read of the job or a write to the punch has failed, or memory runs out. A deck is in hand only where a write to
  -- the punch fails, or memory runs out, at a statement that punches it and has not reported it yet; else it is empty.
  pub data MayEnd (job : Job) (failures : Failures) : List Report → List (List ℕ) → List (List ℕ) → Ending → Type 0 where
    words_refused : job ≡ WithoutBytes → MayEnd job failures [] [] [] WordsRefused
    read_fails : (bytes : List ℕ) → job ≡ Read bytes → failures.read → MayEnd job failures [] [] [] ReadFault
    by_itself : (bytes : List ℕ) {reports : List Report} {cards : List (List ℕ)} {ending : Ending} →
        bytes_of job ≡ Some bytes → IsJobRun bytes reports cards ending → MayEnd job failures reports cards [] ending
    memory_at_start : MayEnd job failures [] [] [] Memory
    memory_in_run : (bytes : List ℕ) (program : Program) (state : State) {reports : List Report} {cards : List (List ℕ)} →
        bytes_of job ≡ Some bytes → IsSoFar bytes reports cards program state → MayEnd job failures reports cards [] Memory
    memory_at_punch : (bytes : List ℕ) (program : Program) (state : State) {reports : List Report} {cards : List (List ℕ)} (deck : List (List ℕ)) →
        bytes_of job ≡ Some bytes → IsSoFar bytes reports cards program state → IsPunching program state deck → MayEnd job failures reports cards deck Memory
    punch_fails : (bytes : List ℕ) (program : Program) (state : State) {reports : List Report} {cards : List (List ℕ)} (deck : List (List ℕ)) →
        failures.punch → bytes_of job ≡ Some bytes → IsSoFar bytes reports cards program state → IsPunching program state deck →
        MayEnd job failures reports cards deck PunchFault

  -- The print has stopped in a report, or in the lines of an end. The reports before stand whole, and of the text in which it stopped a
  -- prefix stands. Where that is the report of a statement to which the run has come, the cards of the reports before and those of this
  -- statement are punched; where it is the end, what the punch has gained by this end.
  pub data IsCutShort (job : Job) (failures : Failures) (answer : Answer) : Type 0 where
    in_report : (bytes : List ℕ) (program : Program) (state : State) {reports : List Report} {cards : List (List ℕ)} (outcome : StatementOutcome)
        (part : List ℕ) →
        bytes_of job ≡ Some bytes → IsSoFar bytes reports cards program state → Step S program state outcome →
        IsPrefix part (reports_text (printed_by (gain_of outcome))) → answer.printed ≡ reports_text reports ++ part →
        answer.punched ≡ card_text (cards ++ punched_by (gain_of outcome)) → IsCutShort job failures answer
    in_end : {reports : List Report} {cards deck : List (List ℕ)} (ending : Ending) (part : List ℕ) → MayEnd job failures reports cards deck ending →
        IsPrefix part (ending_text ending) → answer.printed ≡ reports_text reports ++ part → Gains ending cards deck answer.punched →
        IsCutShort job failures answer

  -- What a job may be answered: the status of an end, with the whole listing, and with what the punch has gained by this end: all cards
  -- of the reports that stand, and a prefix of the deck in hand where that may be broken off. Or the print has failed, or run out of
  -- memory itself, and all is cut short.
  pub data IsAnswer (job : Job) (failures : Failures) (answer : Answer) : Type 0 where
    whole : {reports : List Report} {cards deck : List (List ℕ)} (ending : Ending) → MayEnd job failures reports cards deck ending →
        answer.status ≡ status_of ending → answer.printed ≡ listing reports ending → Gains ending cards deck answer.punched → IsAnswer job failures answer
    print_fails : failures.print → answer.status ≡ status_of PrintFault → IsCutShort job failures answer → IsAnswer job failures answer
    print_wants_memory : failures.memory → answer.status ≡ status_of Memory → IsCutShort job failures answer → IsAnswer job failures answer

  -- The print gains some bytes and the punch gains some, each so far as it tells them, and with the status they are an answer to the job
  -- in view of what has failed.
  abbrev pub IsAnswered : Job → Failures → ℕ → (List ℕ → Type 0) → (List ℕ → Type 0) → Type 0
  IsAnswered job failures status PrintGains PunchGains =
      (printed : List ℕ) × (punched : List ℕ) × PrintGains printed × PunchGains punched × IsAnswer job failures
      (record { status = status; printed = printed; punched = punched })
