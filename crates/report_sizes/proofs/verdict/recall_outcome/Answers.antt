use Rattle.std.proofs.Common.{List, subst}
use Rattle.exact_values.specs.Rational.{ℚ}
use Rattle.lp_definitions.specs.LinearProgram.{value_at}
use Rattle.report_sizes.specs.Sizes.{VectorFits}
use Rattle.report_sizes.proofs.Tables.{pairs_fit, multipliers_fit}
use Rattle.report_sizes.proofs.verdict.recall_outcome.Goals as goal

pub returns-in-Infeasible : goal.returns-in-Infeasible
returns-in-Infeasible c =
    rw c.in-Infeasible.is (multipliers_fit c.args.sheet.problem.now c.args.sheet.lp.now c.in-Infeasible.ray
    (subst (λ (xs : List ℚ). VectorFits (value_at xs)) c.values-in-Infeasible.ensures c.recall_sizes-in-Infeasible.ensures))

pub returns-in-Unbounded : goal.returns-in-Unbounded
returns-in-Unbounded c =
    let point = subst (λ (xs : List ℚ). VectorFits (value_at xs)) c.values-in-Unbounded.ensures c.recall_sizes-in-Unbounded.ensures in
    let direction = subst (λ (xs : List ℚ). VectorFits (value_at xs)) c.values-in-Unbounded-2.ensures c.recall_sizes-in-Unbounded-2.ensures in
    rw c.in-Unbounded.is
    (point c.args.sheet.lp.now.objective, pairs_fit c.args.sheet.problem.now c.args.sheet.lp.now c.in-Unbounded.point c.in-Unbounded.direction point direction)
