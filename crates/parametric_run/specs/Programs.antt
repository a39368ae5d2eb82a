-- A linear program with a parameter, as the parametric method sees it.
--     ParametricProgram            the program at 0 and at each value, what is done at a breakpoint, and what the code keeps of the change
--     IsParametric m               what is asked of it
use Rattle.std.specs.Prelude.{◌≡◌, List}
use Rattle.exact_values.specs.Rational.{ℚ, ◌<ℚ◌}
use Rattle.lp_definitions.specs.LinearProgram.{LinearProgram, Vector}
use Rattle.lp_definitions.specs.declared.Evidence.{Evidence}
use Rattle.lp_definitions.specs.declared.Status.{Status}
use Rattle.simplex_definitions.specs.Chain.{Part, FaceDone, IsPart}
use Rattle.simplex_definitions.specs.Statements.{SolvingStatement}
use Rattle.simplex_laws.specs.Laws.{IsNonsingularBasis}
use Rattle.parametric_laws.specs.Laws.{Faces, HasTrueRuns}
use Rattle.parametric_laws.specs.Families.{HasOneFace}

-- a run that begins at a value counts as this statement; is_change s v says that v is how the basis s moves with the parameter; and
-- the evidence of no_program shows that the program at a value can't be made
pub record ParametricProgram : Type 1 where
  pub program : LinearProgram
  pub family : ℚ → LinearProgram
  pub face : Faces
  pub statement : ℚ → SolvingStatement
  pub is_change : List Status → Vector → Type 0
  pub no_program : ℚ → Evidence → Type 0

-- all its programs are lawful and have one matrix, one thing is done at a breakpoint, each interval past one has a length, and what a
-- run reports is true
pub record IsParametric (m : ParametricProgram) : Type 0 where
  pub same_matrix : (theta : ℚ) → (m.family theta).matrix ≡ m.program.matrix
  pub one_face : HasOneFace m.program m.family m.face
  pub grows : (theta max : ℚ) (s : List Status) (part : Part) → IsNonsingularBasis m.program s → theta <ℚ max → m.face theta s FaceDone →
      IsPart m.family theta max s part → theta <ℚ part.to
  pub true_runs : HasTrueRuns m.program m.family m.face
