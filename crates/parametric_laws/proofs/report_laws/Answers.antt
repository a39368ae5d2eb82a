use Rattle.exact_values.specs.Rational.{ℚ}
use Rattle.lp_definitions.specs.LinearProgram.{LinearProgram}
use Rattle.lp_definitions.specs.declared.Status.{Status}
use Rattle.std.specs.Prelude.{List}
use Rattle.simplex_definitions.specs.Chain.{FaceTurn}
use Rattle.simplex_definitions.specs.ObjectiveRun.{objective_family, IsObjectiveFace}
use Rattle.simplex_definitions.specs.RhsRun.{rhs_family, IsRhsFace}
use Rattle.parametric_laws.specs.Laws.{HasOneReport}
use Rattle.parametric_laws.proofs.OneRun.{one_report, objective_faces, rhs_faces}
use Rattle.parametric_laws.specs.Families.{HasOneFace}
use Rattle.parametric_laws.proofs.NotBoth.{not_both}
use Rattle.parametric_laws.proofs.report_laws.Goals as goal

has_one_report : (p : LinearProgram) (family : ℚ → LinearProgram) (Face : ℚ → List Status → FaceTurn → Type 0) → HasOneFace p family Face →
    HasOneReport p family Face
has_one_report p family Face one = record { one_report = one_report p family Face one; not_both = not_both p family Face one }

pub returns : goal.returns
returns c = record {
  objective = λ p h lawful row free. has_one_report p (objective_family p h) (IsObjectiveFace p h) (objective_faces p h lawful row free);
  rhs = λ p shift lawful. has_one_report p (rhs_family p shift) (IsRhsFace p shift) (rhs_faces p shift lawful);
}
