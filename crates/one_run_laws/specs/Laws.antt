-- A job has one run of its own: the one that doesn't stop with an overflow. And what a job is answered, by it.
--     IsOwnRun S bytes ..          a run that doesn't stop with an overflow; and each other such run is the same
--     HasOwnRun S                  each job has one
--     IsOfRun reports cards ..     the status, and what print and punch gain, are those of a run
--     MeetsEvidence S bytes        at some moment of a run of the job evidence of an overflow holds
--     StoppedShort S bytes own ..  the own run was broken off at an overflow, of which evidence holds
--     IsAnsweredOnce S job ..      THE PROMISE: the job has its own run, and is answered as this run; or it was broken off; or it was
--                                  cut off, since a device fails or memory runs out
use Rattle.std.specs.Prelude.{◌≡◌, ◌⊎◌, ℕ, ◌-◌, ◌<◌, List, Some, slice_get}
use Rattle.deck_definitions.specs.Written.{card_text}
use Rattle.listing_definitions.specs.Report.{Report}
use Rattle.listing_definitions.specs.Ending.{Ending, status_of}
use Rattle.listing_definitions.specs.Listing.{listing}
use Rattle.question_definitions.specs.Solving.{Solving}
use Rattle.answer_definitions.specs.Real.{linear_programming}
use Rattle.control_definitions.specs.Program.{Statement, Program}
use Rattle.run_definitions.specs.State.{State}
use Rattle.run_definitions.specs.Verbs.{verb_move}
use Rattle.run_definitions.specs.Run.{max_executed, counted}
use Rattle.run_definitions.specs.Answer.{Job, bytes_of, Failures, IsJobRun, IsSoFar}
use Rattle.determinism_laws.specs.Laws.{IsOverflow, AreSame, HasEvidence}
use Rattle.determinism_laws.specs.Decided.{IsCutOff, IsBrokenOff}
use Rattle.one_run_laws.specs.Answers.{AnswersAlways}

module _ (S : Solving) (bytes : List ℕ) where
  pub record IsOwnRun (reports : List Report) (cards : List (List ℕ)) (ending : Ending) : Type 0 where
    pub runs : IsJobRun S bytes reports cards ending
    pub fits : IsOverflow ending → ⊥
    pub only : (others : List Report) (other_cards : List (List ℕ)) (other : Ending) → IsJobRun S bytes others other_cards other →
        (IsOverflow other → ⊥) → AreSame reports others cards other_cards ending other

  pub record OwnRun : Type 0 where
    pub reports : List Report
    pub cards : List (List ℕ)
    pub ending : Ending
    pub is_own : IsOwnRun reports cards ending

-- Each job has its own run, whatever its bytes are: where its cards or its program have a fault, that is how its own run ends.
abbrev pub HasOwnRun : Solving → Type 0
HasOwnRun S = (bytes : List ℕ) → OwnRun S bytes

-- The status is that of the run's end, the print gains its whole listing, and the punch all its cards.
pub record IsOfRun (reports : List Report) (cards : List (List ℕ)) (ending : Ending) (status : ℕ) (PrintGains PunchGains : List ℕ → Type 0) : Type 0 where
  pub is_status : status ≡ status_of ending
  pub print_gains : PrintGains (listing reports ending)
  pub punch_gains : PunchGains (card_text cards)

-- A run of the job has come so far, and at the statement that it executes next evidence holds that an operation doesn't fit.
pub record MeetsEvidence (S : Solving) (bytes : List ℕ) : Type 0 where
  pub program : Program
  pub reports : List Report
  pub cards : List (List ℕ)
  pub state : State
  pub statement : Statement ℕ
  pub so_far : IsSoFar S bytes reports cards program state
  pub is_next : slice_get program.statements (state.position - 1) ≡ Some statement
  pub within_limit : state.executed < max_executed
  pub evidence : HasEvidence S (verb_move statement.verb statement.card (counted state))

module _ (S : Solving) where
  -- The status is 20. The print gains the whole listing of a run that stops with an overflow, and the punch all its cards; the own run goes
  -- on where this one stops. And there is a moment at which evidence of an overflow holds.
  pub record StoppedShort (bytes : List ℕ) (own : OwnRun S bytes) (status : ℕ) (PrintGains PunchGains : List ℕ → Type 0) : Type 0 where
    pub broken_off : IsBrokenOff S bytes own.reports own.cards status PrintGains PunchGains
    pub meets : MeetsEvidence S bytes

  -- THE OWN RUN DECIDES. The answer is that of the job's own run; or the status is 20, and this run was broken off; or it is 24, 25, 26 or
  -- 28, since a device fails or memory runs out. So any other status is that of the own run's end.
  abbrev pub IsAnsweredOnce : Job → Failures → ℕ → (List ℕ → Type 0) → (List ℕ → Type 0) → Type 0
  IsAnsweredOnce job failures status PrintGains PunchGains = (bytes : List ℕ) → bytes_of job ≡ Some bytes →
      (own : OwnRun S bytes) ×
      (IsOfRun own.reports own.cards own.ending status PrintGains PunchGains ⊎
      (StoppedShort bytes own status PrintGains PunchGains ⊎ IsCutOff failures status))

-- Each question of linear programming has an answer where a run asks it, and so each job has its own run.
pub record OneRunLaws : Type 0 where
  pub answered : AnswersAlways linear_programming
  pub runs : HasOwnRun linear_programming
