use Rattle.std.proofs.Common.{ℕ, ◌-◌, List, Option, None, slice_index_or, ap, subst, ◌∙◌}
use Rattle.exact_values.specs.Rational.{ℚ}
use Rattle.lp_definitions.specs.LinearProgram.{LinearProgram, value_at}
use Rattle.report_sizes.specs.Sizes.{LimitFits, VectorFits}
use Rattle.report_sizes.proofs.Tables.{lines_of_solution_fit}
use Rattle.report_sizes.proofs.solution.recall_solution.Goals as goal

pub returns : goal.returns
returns c =
    lines_of_solution_fit c.args.sheet.problem.now c.args.sheet.lp.now c.args.basis.now c.args.point.now c.args.prices.now c.args.slack.now
    (subst (λ (limits : List (Option ℚ)). (k : ℕ) → LimitFits (slice_index_or limits (k - 1) None))
    (c.deref.ensures.value ∙ ap (λ (p : LinearProgram). p.lower) c.lp.view_is) c.recall_limits.ensures)
    (subst (λ (limits : List (Option ℚ)). (k : ℕ) → LimitFits (slice_index_or limits (k - 1) None))
    (c.deref-2.ensures.value ∙ ap (λ (p : LinearProgram). p.upper) c.lp.view_is) c.recall_limits-2.ensures)
    c.recall_costs.ensures
    (subst (λ (xs : List ℚ). VectorFits (value_at xs)) c.values.ensures c.recall_sizes.ensures)
    (subst (λ (xs : List ℚ). VectorFits (value_at xs)) c.values-2.ensures c.recall_sizes-2.ensures)
    c.recall_sizes-3.ensures
