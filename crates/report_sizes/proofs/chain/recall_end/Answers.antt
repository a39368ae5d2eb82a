use Rattle.std.proofs.Common.{List, subst}
use Rattle.exact_values.specs.Rational.{ℚ}
use Rattle.lp_definitions.specs.LinearProgram.{value_at}
use Rattle.report_sizes.specs.Sizes.{VectorFits}
use Rattle.report_sizes.proofs.Tables.{pairs_fit, multipliers_fit}
use Rattle.report_sizes.proofs.chain.recall_end.Goals as goal

pub returns-in-Unbounded : goal.returns-in-Unbounded
returns-in-Unbounded c =
    rw c.in-Unbounded.is (
      c.recall_size-in-Unbounded.ensures,
      pairs_fit c.args.sheet.problem.now c.args.sheet.lp.now c.in-Unbounded.point c.in-Unbounded.direction
          (subst (λ (xs : List ℚ). VectorFits (value_at xs)) c.values.ensures c.recall_sizes.ensures)
          (subst (λ (xs : List ℚ). VectorFits (value_at xs)) c.values-in-Unbounded.ensures c.recall_sizes-in-Unbounded.ensures),
    )

pub returns-in-Infeasible : goal.returns-in-Infeasible
returns-in-Infeasible c =
    rw c.in-Infeasible.is (
      c.recall_size-in-Infeasible.ensures,
      multipliers_fit c.args.sheet.problem.now c.args.sheet.lp.now c.in-Infeasible.ray
          (subst (λ (xs : List ℚ). VectorFits (value_at xs)) c.values-in-Infeasible.ensures c.recall_sizes-in-Infeasible.ensures),
    )
