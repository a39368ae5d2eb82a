-- The law of revisions, as the function of src/lib.rt promises it.
use Rattle.std.specs.Prelude.{◌≡◌, ℕ, List, Option, Ok}
use Rattle.std.specs.Option.{IfSome}
use Rattle.card_definitions.specs.Cards.{Card}
use Rattle.problem_definitions.specs.Names.{Name}
use Rattle.problem_definitions.specs.Problem.{Problem}
use Rattle.problem_definitions.specs.Valid.{IsName, IsProblem}
use Rattle.deck_definitions.specs.Readings.{ArePrintableCards}
use Rattle.revise_definitions.specs.Revision.{revision}

-- What a REVISE deck of printable cards makes of a lawful problem, under a name or the deck's own, is a lawful problem.
abbrev pub KeepsProblems : Type 0
KeepsProblems =
    (old : Problem ℕ) (deck : List Card) (name : Option Name) (new : Problem ℕ) →
    IsProblem old → ArePrintableCards deck → IfSome name IsName → revision old deck name ≡ Ok new → IsProblem new
