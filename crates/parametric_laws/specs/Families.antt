-- What is asked of a family of linear programs, that there is one run from a nonsingular basis.
--     KeepsBases p family Face     its programs have the nonsingular bases of p, and its face steps lead from one to another
--     HasOneFace p family Face     besides, one thing is done at a breakpoint
use Rattle.std.specs.Prelude.{◌≡◌, List}
use Rattle.exact_values.specs.Rational.{ℚ}
use Rattle.lp_definitions.specs.LinearProgram.{LinearProgram, size, IsLinearProgram}
use Rattle.lp_definitions.specs.declared.Status.{Status}
use Rattle.simplex_definitions.specs.Path.{Move, after}
use Rattle.simplex_definitions.specs.Chain.{FaceTurn, FaceMoves}
use Rattle.simplex_laws.specs.Laws.{IsNonsingularBasis}

-- what is asked of a family: its programs have the nonsingular bases of p, and its face steps lead from one to another
pub record KeepsBases (p : LinearProgram) (family : ℚ → LinearProgram) (Face : ℚ → List Status → FaceTurn → Type 0) : Type 0 where
  pub to_family : (theta : ℚ) (s : List Status) → IsNonsingularBasis p s → IsNonsingularBasis (family theta) s
  pub from_family : (theta : ℚ) (s : List Status) → IsNonsingularBasis (family theta) s → IsNonsingularBasis p s
  pub face_leads : (theta : ℚ) (s : List Status) (m : Move) → IsNonsingularBasis p s → Face theta s (FaceMoves m) → IsNonsingularBasis p (after s m)

-- what is asked of a family: it keeps bases, each of its programs is one, of one size, and one thing is done at a breakpoint
pub record HasOneFace (p : LinearProgram) (family : ℚ → LinearProgram) (Face : ℚ → List Status → FaceTurn → Type 0) : Type 0 where
  pub keeps : KeepsBases p family Face
  pub lawful : (theta : ℚ) → IsLinearProgram (family theta)
  pub sized : (theta : ℚ) → size (family theta).matrix ≡ size p.matrix
  pub one_face : (theta : ℚ) (s : List Status) (turn other : FaceTurn) → IsNonsingularBasis p s → Face theta s turn → Face theta s other → turn ≡ other
