-- A variable that lowers a quantity is nonbasic.
use Rattle.std.proofs.Common.{◌≡◌, ◌≢◌, ℕ, true, List}
use Rattle.exact_values.specs.Rational.{zero_ℚ}
use Rattle.lp_definitions.specs.LinearProgram.{LinearProgram, Vector, IsVariable}
use Rattle.lp_definitions.specs.Basis.{basics_of, IsNonbasic}
use Rattle.lp_definitions.specs.declared.Status.{Status}
use Rattle.simplex_definitions.specs.Moves.{lowers}
use Rattle.simplex_laws.specs.Laws.{IsNonsingularBasis}
use Rattle.simplex_laws.proofs.UnboundedEnds.{lowering_enters}
use Rattle.simplex_laws.proofs.Steps.{rate_apart as entering_apart}

-- a variable that lowers a quantity is nonbasic, and has a rate other than 0
pub record IsEnteringVariable (p : LinearProgram) (s : List Status) (f : Vector) (q : ℕ) : Type 0 where
  pub nonbasic : IsNonbasic p.matrix (basics_of s) q
  pub rate_apart : f q ≢ zero_ℚ

pub is_entering_variable : (p : LinearProgram) (s : List Status) (f : Vector) (q : ℕ) → IsNonsingularBasis p s → IsVariable p.matrix q → lowers p s f q ≡ true →
    IsEnteringVariable p s f q
is_entering_variable p s f q at is e =
    let entering = lowering_enters p s f q at.is_basis is e in record { nonbasic = entering.nonbasic; rate_apart = entering_apart p s f q entering }
