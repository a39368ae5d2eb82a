-- The objective as a parameter.
--     objective_problem p h        the linear program whose objective has theta times the row h added
--     FitsObjective p h            what is asked of it: a lawful program without a change row, and a row without limits
use Rattle.std.specs.Prelude.{◌≡◌, ℕ, None}
use Rattle.lp_definitions.specs.LinearProgram.{LinearProgram, IsRow, HasNoLimits, IsLinearProgram}
use Rattle.lp_definitions.specs.Basis.{basics_of}
use Rattle.lp_model.specs.RatesCalls.{IsRowOf}
use Rattle.simplex_definitions.specs.ObjectiveRun.{objective_family, IsObjectiveFace}
use Rattle.simplex_definitions.specs.Statements.{Paraobj}
use Rattle.parametric_run.specs.Programs.{ParametricProgram}

-- a basis's prices move with the rates of the row; the program at a value can always be made
abbrev pub objective_problem : LinearProgram → ℕ → ParametricProgram
objective_problem p h = record {
  program = p;
  family = objective_family p h;
  face = IsObjectiveFace p h;
  statement = Paraobj p h;
  is_change = λ s v. IsRowOf p.matrix (basics_of s) h v;
  no_program = λ theta e. ⊥;
}

pub record FitsObjective (p : LinearProgram) (h : ℕ) : Type 0 where
  pub lawful : IsLinearProgram p
  pub no_change : p.change ≡ None
  pub row : IsRow p.matrix h
  pub free : HasNoLimits p h
