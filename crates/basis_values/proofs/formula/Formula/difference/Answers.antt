use Rattle.std.proofs.Common.{◌∙◌}
use Rattle.basis_values.proofs.formula.Formula.difference.Goals as goal
use Rattle.lp_laws.proofs.Idle.{left_difference, right_difference}

pub returns-then-is_zero-clause-value : goal.returns-then-is_zero-clause-value
returns-then-is_zero-clause-value c = c.neg.ensures ∙ left_difference c.args.left c.args.right (c.is_zero.ensures.0 c.if-is_zero.true)

pub returns-then-is_zero-2-clause-value : goal.returns-then-is_zero-2-clause-value
returns-then-is_zero-2-clause-value c = right_difference c.args.left c.args.right (c.is_zero-2.ensures.0 c.if-is_zero-2.true)
