-- Runs of a control program.
--     Step program state outcome               what executing the statement at the position may come to
--     Reaches program decks reports cards state     a run has come so far
--     IsRun program decks reports cards ending      a whole run: what it reports and punches, and how it ends
use Rattle.std.specs.Prelude.{ℕ, ◌≡◌, ◌+◌, ◌-◌, ◌≤◌, ◌<◌, List, [], ◌++◌, Some, length, slice_get}
use Rattle.card_definitions.specs.Cards.{Card}
use Rattle.control_definitions.specs.Program.{Statement, Program}
use Rattle.listing_definitions.specs.Report.{Report}
use Rattle.listing_definitions.specs.Ending.{Ending, Ended, StatementLimit}
use Rattle.question_definitions.specs.Solving.{Solving}
use Rattle.run_definitions.specs.State.{State, start}
use Rattle.run_definitions.specs.Moves.{Gain, printed_by, punched_by, StatementOutcome, Goes, Ends, Gives}
use Rattle.run_definitions.specs.Verbs.{verb_move}

-- a run executes at most so many statements
abbrev pub max_executed : ℕ
max_executed = 100000

-- the state, with one more statement counted as executed
abbrev pub counted : State → State
counted state = record state { executed = state.executed + 1 }

module _ (S : Solving) (program : Program) where
  -- the run isn't over, and the statement at its position comes to this
  pub record Step (state : State) (outcome : StatementOutcome) : Type 0 where
    pub statement : Statement ℕ
    pub is_at_position : slice_get program.statements (state.position - 1) ≡ Some statement
    pub is_within_limit : state.executed < max_executed
    pub gives : Gives S statement.card (verb_move statement.verb statement.card (counted state)) outcome

  -- The run is over before a statement: at the program's end, or else at the statement limit.
  pub data IsOver (state : State) : Ending → Type 0 where
    at_end : length program.statements < state.position → IsOver state (Ended 0)
    at_limit : state.position ≤ length program.statements → max_executed ≤ state.executed → IsOver state StatementLimit

  module _ (decks : List (List Card)) where
    -- A run over these decks has come to a state, with these reports so far, and these cards punched.
    pub data Reaches : List Report → List (List ℕ) → State → Type 0 where
      begun : Reaches [] [] (start decks)
      stepped : {reports : List Report} {cards : List (List ℕ)} {state : State} (gain : Gain) (after : State) →
          Reaches reports cards state → Step state (Goes gain after) → Reaches (reports ++ printed_by gain) (cards ++ punched_by gain) after

    -- The run is over, or its last statement ends it.
    pub data IsRun : List Report → List (List ℕ) → Ending → Type 0 where
      is_over : {reports : List Report} {cards : List (List ℕ)} {state : State} {ending : Ending} →
          Reaches reports cards state → IsOver state ending → IsRun reports cards ending
      is_ended : {reports : List Report} {cards : List (List ℕ)} {state : State} (gain : Gain) {ending : Ending} →
          Reaches reports cards state → Step state (Ends gain ending) → IsRun (reports ++ printed_by gain) (cards ++ punched_by gain) ending
