-- What there is of a set of variables: rates, or a first dependency.
--     HasTableOfRates a b          the set b is nonsingular, and this is its table of rates
--     HasDependency a b            a basic column of b depends on those before it, and this shows it of the first such column
--     BasisExistence               each set of as many variables as there are rows has rates or a dependency; each nonsingular basis has a
--                                  tableau
use Rattle.std.specs.Prelude.{◌≡◌, ◌⊎◌, ℕ, List, length, count_by}
use Rattle.exact_values.specs.Rational.{ℚ}
use Rattle.lp_definitions.specs.LinearProgram.{Matrix, LinearProgram, Vector, size}
use Rattle.lp_definitions.specs.Basis.{Basics, IsNonsingular, AreRates, IsBasis, basics_of}
use Rattle.lp_definitions.specs.declared.Status.{Status}
use Rattle.basis_deck_definitions.specs.Dependencies.{IsDependency}
use Rattle.simplex_laws.specs.Laws.{IsNonsingularBasis, HasTableau}

pub record HasTableOfRates (a : Matrix) (b : Basics) : Type 0 where
  pub nonsingular : IsNonsingular a b
  pub rate : ℕ → ℕ → ℚ
  pub are_rates : AreRates a b rate

abbrev pub HasDependency : Matrix → Basics → Type 0
HasDependency a b = (c : ℕ) × (d : Vector) × IsDependency a b c d

pub record BasisExistence : Type 0 where
  -- of a set of as many variables as there are rows
  pub rates_or_dependency : (a : Matrix) (b : Basics) → length b ≡ size a → count_by (λ mark. mark) b ≡ a.rows → HasTableOfRates a b ⊎ HasDependency a b
  -- so each nonsingular set has rates, and each nonsingular basis a tableau
  pub rates : (a : Matrix) (b : Basics) → IsNonsingular a b → HasTableOfRates a b
  pub tableau : (p : LinearProgram) (s : List Status) → IsNonsingularBasis p s → HasTableau p s
  -- and a basis that isn't nonsingular has a dependency
  pub nonsingular_or_dependency : (p : LinearProgram) (s : List Status) → IsBasis p s → IsNonsingularBasis p s ⊎ HasDependency p.matrix (basics_of s)
