-- What is reported of a run of either family is true.
use Rattle.std.proofs.Common.{ℕ, List}
use Rattle.exact_values.specs.Rational.{ℚ}
use Rattle.lp_definitions.specs.LinearProgram.{LinearProgram, IsRow, HasNoLimits, IsLinearProgram}
use Rattle.simplex_definitions.specs.ObjectiveRun.{objective_family, IsObjectiveFace}
use Rattle.simplex_definitions.specs.RhsRun.{rhs_family, IsRhsFace}
use Rattle.parametric_laws.proofs.Runs.{objective_keeps, rhs_keeps}
use Rattle.parametric_laws.proofs.OneObjective.{lawful_objective}
use Rattle.parametric_laws.proofs.OneRhs.{lawful_rhs}
use Rattle.parametric_laws.specs.Laws.{HasTrueRuns}
use Rattle.parametric_laws.proofs.Chains.{report_true}
use Rattle.parametric_laws.proofs.Motions.{HasFeasiblePoint}
use Rattle.parametric_laws.proofs.ObjectiveGrowth.{objective_grows}
use Rattle.parametric_laws.proofs.ObjectiveEnds.{objective_known, objective_kept, objective_closes}
use Rattle.parametric_laws.proofs.RhsGrowth.{rhs_grows}
use Rattle.parametric_laws.proofs.RhsEnds.{rhs_closes}

pub objective_runs : (p : LinearProgram) (h : ℕ) → IsLinearProgram p → IsRow p.matrix h → HasNoLimits p h →
    HasTrueRuns p (objective_family p h) (IsObjectiveFace p h)
objective_runs p h lawful row free =
    report_true p (objective_family p h) (IsObjectiveFace p h) (objective_keeps p h) (lawful_objective p h lawful row free) (λ theta s. HasFeasiblePoint p s)
    (λ theta s optimal. objective_known p h theta s optimal) (λ theta s m at have face. objective_kept p h theta s m at have face)
    (objective_grows p h lawful row free) (objective_closes p h lawful row free)

-- a ray needs no feasible point
pub rhs_runs : (p : LinearProgram) (shift : List ℚ) → IsLinearProgram p → HasTrueRuns p (rhs_family p shift) (IsRhsFace p shift)
rhs_runs p shift lawful =
    report_true p (rhs_family p shift) (IsRhsFace p shift) (rhs_keeps p shift) (lawful_rhs p shift lawful) (λ theta s. Unit {0})
    (λ theta s optimal. tt) (λ theta s m at have face. tt)
    (rhs_grows p shift lawful) (λ theta max s end at before have face. rhs_closes p shift theta max s end at before face)
