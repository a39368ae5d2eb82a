-- A parametric run always has its report.
--     EndsRun family Face ..       the run from the basis s has ended after at most so many steps, with this report
--     HasReports p family Face     from each nonsingular basis of p it has ended within so many steps, or it goes on after them
--     RunsExist                    so it is with runs of the objective and of the right-hand side
use Rattle.std.specs.Prelude.{◌≡◌, ◌⊎◌, ◌≤◌, ℕ, List, length, None}
use Rattle.exact_values.specs.Rational.{ℚ, ◌≤ℚ◌}
use Rattle.lp_definitions.specs.LinearProgram.{LinearProgram, IsRow, HasNoLimits, IsLinearProgram}
use Rattle.lp_definitions.specs.declared.Status.{Status}
use Rattle.simplex_definitions.specs.Chain.{RunReport, IsReport, RunGoesOnFor}
use Rattle.simplex_definitions.specs.ObjectiveRun.{objective_family, IsObjectiveFace}
use Rattle.simplex_definitions.specs.RhsRun.{rhs_family, IsRhsFace}
use Rattle.simplex_laws.specs.Laws.{IsNonsingularBasis}
use Rattle.parametric_laws.specs.Laws.{Faces}

pub record EndsRun (family : ℚ → LinearProgram) (Face : Faces) (from max : ℚ) (s : List Status) (steps : ℕ) : Type 0 where
  pub report : RunReport
  pub path : List (List Status)
  pub is_report : IsReport family Face from max s report path
  pub within : length path ≤ steps

abbrev pub HasReports : LinearProgram → (ℚ → LinearProgram) → Faces → Type 0
HasReports p family Face = (from max : ℚ) (s : List Status) (steps : ℕ) → from ≤ℚ max → IsNonsingularBasis p s →
    EndsRun family Face from max s steps ⊎ RunGoesOnFor family Face from max s steps

pub record RunsExist : Type 0 where
  -- theta times a row without limits is added to the objective
  pub objective : (p : LinearProgram) (h : ℕ) → IsLinearProgram p → IsRow p.matrix h → HasNoLimits p h →
      HasReports p (objective_family p h) (IsObjectiveFace p h)
  -- theta times its shift is added to the limits of each row
  pub rhs : (p : LinearProgram) (shift : List ℚ) → IsLinearProgram p → p.change ≡ None →
      HasReports p (rhs_family p shift) (IsRhsFace p shift)
