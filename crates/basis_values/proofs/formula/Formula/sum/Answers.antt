use Rattle.basis_values.proofs.formula.Formula.sum.Goals as goal
use Rattle.lp_laws.proofs.Idle.{left_sum, right_sum}

pub returns-then-is_zero-clause-value : goal.returns-then-is_zero-clause-value
returns-then-is_zero-clause-value c = left_sum c.args.left c.args.right (c.is_zero.ensures.0 c.if-is_zero.true)

pub returns-then-is_zero-2-clause-value : goal.returns-then-is_zero-2-clause-value
returns-then-is_zero-2-clause-value c = right_sum c.args.left c.args.right (c.is_zero-2.ensures.0 c.if-is_zero-2.true)
