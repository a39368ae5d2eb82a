-- A basis that PUNCH has punched comes back by INSERT.
--     StandsForPresent setup cells deck    the cards stand for the present basis, and come back from their text
--     ComesBack present s outcome          INSERT makes this basis the present one, or it stops with an overflow
--     CarriedBasisLaws             what PUNCH punches in the run of a job stands for its present basis; and INSERT of such a deck gives it
--                                  back, in the same run or in another
use Rattle.std.specs.Prelude.{◌≡◌, ℕ, List, [], ◌∷◌, Option, Some, Ok}
use Rattle.card_definitions.specs.Cards.{Card, cards_of, numbered_from}
use Rattle.problem_definitions.specs.Names.{Name}
use Rattle.simplex_laws.specs.Laws.{IsNonsingularBasis}
use Rattle.deck_definitions.specs.Decks.{decks_of, deck_taken, name_of_deck}
use Rattle.deck_definitions.specs.Written.{card_text}
use Rattle.basis_deck_definitions.specs.Reading.{basis_reading}
use Rattle.control_definitions.specs.Program.{Program, Punch, Insert}
use Rattle.control_definitions.specs.Cells.{Cells}
use Rattle.listing_definitions.specs.Report.{Report, Inserted}
use Rattle.listing_definitions.specs.Ending.{Overflow, OverflowStop}
use Rattle.question_definitions.specs.Answers.{Basis}
use Rattle.answer_definitions.specs.Real.{linear_programming}
use Rattle.run_definitions.specs.State.{Present, present_basis, State}
use Rattle.run_definitions.specs.Moves.{Nothing, Prints, Punches, StatementOutcome, Goes, Ends}
use Rattle.run_definitions.specs.Run.{Step}
use Rattle.run_definitions.specs.Answer.{IsSoFar}
use Rattle.soundness_laws.specs.Truth.{PresentProgram}

-- The cards are one deck under the problem's name, whatever number the first of them has where they are read; in the linear program that
-- is selected they stand for the present basis, which is nonsingular; and they come back from their text.
pub record StandsForPresent (setup : Option Present) (cells : Cells) (deck : List (List ℕ)) : Type 0 where
  pub program : PresentProgram setup cells
  pub is_basis : IsNonsingularBasis program.lp (present_basis program.present)
  pub reads : (first : ℕ) → basis_reading program.present.problem program.lp (numbered_from first deck) ≡ Ok (present_basis program.present)
  pub is_one_deck : (first : ℕ) →
      (decks_of (numbered_from first deck) ≡ numbered_from first deck ∷ []) × (name_of_deck (numbered_from first deck) ≡ Some program.present.problem.name)
  pub reads_back : cards_of (card_text deck) ≡ deck

-- the basis becomes the present one, with which the path in hand begins anew; or an operation on the way to its inverse is refused
pub data ComesBack (present : Present) (s : Basis) : StatementOutcome → Type 0 where
  goes : (name : Name) (count : ℕ) (after : State) → after.setup ≡ Some (record present { opening = s; steps = [] }) →
      ComesBack present s (Goes (Prints (Inserted name count)) after)
  overflows : (overflow : Overflow) → ComesBack present s (Ends Nothing (OverflowStop overflow))

pub record CarriedBasisLaws : Type 0 where
  -- PUNCH, in the run of a job
  pub stands : (bytes : List ℕ) (program : Program) (reports : List Report) (cards : List (List ℕ)) (state after : State) (report : Report)
      (deck : List (List ℕ)) →
      IsSoFar linear_programming bytes reports cards program state → (step : Step linear_programming program state (Goes (Punches report deck) after)) →
      step.statement.verb ≡ Punch →
      StandsForPresent state.setup state.cells deck
  -- INSERT of a deck that stood for the basis of some state, where the same linear program is selected of the same problem
  pub comes_back : (punched : State) (deck : List (List ℕ)) (program : Program) (state : State) (first : ℕ) (rest : List (List Card))
      (outcome : StatementOutcome) →
      (from : StandsForPresent punched.setup punched.cells deck) → (to : PresentProgram state.setup state.cells) →
      to.present.problem ≡ from.program.present.problem → to.lp ≡ from.program.lp →
      deck_taken state.cells.xdata state.decks ≡ Some (numbered_from first deck, rest) →
      (step : Step linear_programming program state outcome) → step.statement.verb ≡ Insert → ComesBack to.present (present_basis from.program.present) outcome
