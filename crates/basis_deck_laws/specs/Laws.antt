-- The laws of basis decks, as functions of src/lib.rt promise them.
--     BasisDeckLaws                a deck without a fault stands for a basis; the deck that is written for a basis stands for it, and
--                                  comes back from its text, as one deck under the problem's name
--     DependencyLaws               a set of variables has one dependency at most, and none where it is nonsingular
use Rattle.std.specs.Prelude.{◌≡◌, ℕ, List, [], ◌∷◌, Some, Ok}
use Rattle.lp_definitions.specs.LinearProgram.{Matrix, LinearProgram, Vector, IsVariable}
use Rattle.lp_definitions.specs.Basis.{Basics, IsNonsingular, IsBasis}
use Rattle.lp_definitions.specs.declared.Status.{Status}
use Rattle.card_definitions.specs.Cards.{Card, cards_of, numbered_from}
use Rattle.problem_definitions.specs.Problem.{Problem}
use Rattle.problem_definitions.specs.Valid.{IsProblem}
use Rattle.deck_definitions.specs.Decks.{decks_of, name_of_deck}
use Rattle.deck_definitions.specs.Written.{card_text}
use Rattle.basis_deck_definitions.specs.Placings.{HasNames}
use Rattle.basis_deck_definitions.specs.Reading.{basis_reading}
use Rattle.basis_deck_definitions.specs.Writing.{basis_deck}
use Rattle.basis_deck_definitions.specs.Dependencies.{IsDependency}

pub record BasisDeckLaws : Type 0 where
  pub lawful : (problem : Problem ℕ) (lp : LinearProgram) (deck : List Card) (s : List Status) → HasNames problem lp → basis_reading problem lp deck ≡ Ok s →
      IsBasis lp s
  pub gives_back : (problem : Problem ℕ) (lp : LinearProgram) (s : List Status) (first : ℕ) → IsProblem problem → HasNames problem lp → IsBasis lp s →
      basis_reading problem lp (numbered_from first (basis_deck problem lp s)) ≡ Ok s
  pub reads_back : (problem : Problem ℕ) (lp : LinearProgram) (s : List Status) → IsProblem problem → HasNames problem lp →
      cards_of (card_text (basis_deck problem lp s)) ≡ basis_deck problem lp s
  pub one_deck : (problem : Problem ℕ) (lp : LinearProgram) (s : List Status) (first : ℕ) → IsProblem problem →
      let cards = numbered_from first (basis_deck problem lp s) in
      (decks_of cards ≡ cards ∷ []) × (name_of_deck cards ≡ Some problem.name)

pub record DependencyLaws : Type 0 where
  pub one : (a : Matrix) (b : Basics) (c e : ℕ) (d f : Vector) → IsDependency a b c d → IsDependency a b e f → (c ≡ e) × ((k : ℕ) → IsVariable a k → d k ≡ f k)
  pub singular : (a : Matrix) (b : Basics) (c : ℕ) (d : Vector) → IsDependency a b c d → IsNonsingular a b → ⊥
