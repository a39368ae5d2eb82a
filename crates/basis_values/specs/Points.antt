-- The point of a basis, summed up column by column.
--     nonbasics_to b n             the nonbasics among the first n variables, in order
--     sum_at b f n                 the sum of f over them
--     IsSoFar a b v n z            z has the values v at the nonbasics, and at the basics their sums over the first n variables
--     added_at b d v z k           z with v times d added at the basic k
--     ColumnTermRefused            a product or a sum of that is refused
use Rattle.std.specs.Prelude.{◌≡◌, ℕ, zero, suc, ◌≤◌, Bool, true, not, filter, if◌then◌else◌, List}
use Rattle.exact_values.specs.Rational.{ℚ, zero_ℚ, ◌+ℚ◌, ◌*ℚ◌}
use Rattle.lp_definitions.specs.LinearProgram.{Matrix, Vector, numbers_from}
use Rattle.lp_definitions.specs.Basis.{Basics, is_in, IsBasic, IsNonbasic, AreRates}
use Rattle.lp_definitions.specs.declared.Evidence.{Evidence}
use Rattle.basis_values.specs.Formulas.{formula_of_rate, IsTermRefusal}
use Rattle.basis_values.specs.declared.formula.Formula.{Formula}

abbrev pub nonbasics_to : Basics → ℕ → List ℕ
nonbasics_to b n = filter (λ k. not (is_in b k)) (numbers_from 1 n)

-- a term is left out at a basic
abbrev pub with_term : Bool → ℚ → ℚ → ℚ
with_term basic sum term = if basic then sum else sum +ℚ term

abbrev pub sum_at : Basics → Vector → ℕ → ℚ
sum_at b f zero = zero_ℚ
sum_at b f (suc n) = with_term (is_in b (suc n)) (sum_at b f n) (f (suc n))

pub record IsSoFar (a : Matrix) (b : Basics) (v : Vector) (n : ℕ) (z : Vector) : Type 0 where
  pub nonbasics : (k : ℕ) → IsNonbasic a b k → z k ≡ v k
  pub basics : (rate : ℕ → ℕ → ℚ) → AreRates a b rate → (k : ℕ) → IsBasic a b k → z k ≡ sum_at b (λ j. rate k j *ℚ v j) n

abbrev pub added_at : Basics → Vector → ℚ → Vector → Vector
added_at b d v z k = if is_in b k then z k +ℚ d k *ℚ v else z k

-- the formula of the sum of i, at the nonbasic j before which so many others stand
abbrev pub term_of : ℕ → ℕ → ℕ → Formula
term_of i j term = formula_of_rate 10 i j term

-- v times d is added at the first n variables
abbrev pub AreAdded : Basics → Vector → ℚ → Vector → ℕ → Vector → Type 0
AreAdded b d v z n w = (k : ℕ) → 1 ≤ k → k ≤ n → w k ≡ added_at b d v z k

-- the term of some basic i is refused
pub record ColumnTermRefused (b : Basics) (d : Vector) (v : ℚ) (z : Vector) (j term n : ℕ) (e : Evidence) : Type 0 where
  pub i : ℕ
  pub low : 1 ≤ i
  pub high : i ≤ n
  pub basic : is_in b i ≡ true
  pub refused : IsTermRefusal (term_of i j term) (z i) (d i) v e
