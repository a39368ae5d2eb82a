-- The right-hand side as a parameter.
--     rhs_problem p shift          the linear program whose limits have theta times their shifts added
--     FitsRhs p shift moving       what is asked of it: a lawful program without a change row, a shift for each row, and the program
--                                  whose limits are the shifts
use Rattle.std.specs.Prelude.{◌≡◌, List, [], None, length}
use Rattle.exact_values.specs.Rational.{ℚ}
use Rattle.lp_definitions.specs.LinearProgram.{LinearProgram, IsLinearProgram}
use Rattle.simplex_definitions.specs.Evidence.{ShiftHolds}
use Rattle.simplex_definitions.specs.RhsRun.{rhs_family, IsSlope, IsRhsFace}
use Rattle.simplex_definitions.specs.Statements.{Pararhs}
use Rattle.parametric_run.specs.Programs.{ParametricProgram}
use Rattle.para_rhs.specs.Slopes.{slope_program}

-- a basis moves with its slope; a limit that can't be moved to a value is evidence of its own
abbrev pub rhs_problem : LinearProgram → List ℚ → ParametricProgram
rhs_problem p shift = record {
  program = p;
  family = rhs_family p shift;
  face = IsRhsFace p shift;
  statement = Pararhs p shift;
  is_change = λ s v. IsSlope p s shift v;
  no_program = λ theta e. ShiftHolds (Pararhs p shift theta) [] e;
}

pub record FitsRhs (p : LinearProgram) (shift : List ℚ) (moving : LinearProgram) : Type 0 where
  pub lawful : IsLinearProgram p
  pub no_change : p.change ≡ None
  pub shifts : length shift ≡ p.rows
  pub is_moving : moving ≡ slope_program p shift
