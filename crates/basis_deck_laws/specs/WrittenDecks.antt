-- The law of written decks, as a function of src/lib.rt promises it.
use Rattle.std.specs.Prelude.{◌≡◌, ℕ, [], ◌∷◌, Some, None, Ok, false}
use Rattle.std.specs.List.{All}
use Rattle.card_definitions.specs.Words.{is_empty}
use Rattle.card_definitions.specs.Cards.{cards_of, numbered_from}
use Rattle.problem_definitions.specs.Problem.{Problem}
use Rattle.problem_definitions.specs.Numbering.{by_names}
use Rattle.problem_definitions.specs.Valid.{IsProblem}
use Rattle.deck_definitions.specs.Conversion.{conversion}
use Rattle.deck_definitions.specs.Decks.{decks_of, name_of_deck}
use Rattle.deck_definitions.specs.Written.{written, card_text}

-- The deck that is written for a lawful problem in which each column has an entry converts to that problem, whatever
-- the number of its first card in a job.
abbrev pub ConvertsBack : Type 0
ConvertsBack =
    (problem : Problem ℕ) (first : ℕ) →
    IsProblem problem → All (λ column. is_empty column.items ≡ false) problem.columns →
    conversion (numbered_from first (written (by_names problem))) None ≡ Ok problem

-- The text of that deck, read as the cards of a job, is those cards again: also where a column has no entry.
abbrev pub ReadsBack : Type 0
ReadsBack = (problem : Problem ℕ) → IsProblem problem → cards_of (card_text (written (by_names problem))) ≡ written (by_names problem)

-- Those cards, as the cards of a job after its program, are one deck, and it has the problem's name: also where a
-- column has no entry.
abbrev pub IsOneDeck : Type 0
IsOneDeck =
    (problem : Problem ℕ) (first : ℕ) → IsProblem problem →
    let cards = numbered_from first (written (by_names problem)) in
    (decks_of cards ≡ cards ∷ []) × (name_of_deck cards ≡ Some problem.name)
