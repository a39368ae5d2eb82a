use Rattle.basis_values.proofs.formula.Formula.quotient.Goals as goal
use Rattle.basis_values.proofs.formula.Formula.quotient.Goals.{then-is_zero-via-then-is_zero, then-is_zero-via-else-is_zero+then-is_one}
use Rattle.lp_laws.proofs.Idle.{left_nothing_over, over_once}

pub returns-then-is_zero-clause-value : goal.returns-then-is_zero-clause-value
returns-then-is_zero-clause-value c =
    elim c.then-is_zero.branch [
      | then-is_zero-via-then-is_zero w ↦ left_nothing_over c.args.left c.args.right (c.is_zero.ensures.0 w.if-is_zero.true)
      | then-is_zero-via-else-is_zero+then-is_one w ↦ over_once c.args.left c.args.right (w.is_one.ensures.0 w.if-is_one.true)
    ]
