use Rattle.basis_values.proofs.formula.Formula.product.Goals as goal
use Rattle.basis_values.proofs.formula.Formula.product.Goals.{then-is_zero-via-then-is_zero, then-is_zero-via-else-is_zero+then-is_one}
use Rattle.basis_values.proofs.formula.Formula.product.Goals.{then-is_zero-2-via-then-is_zero-2, then-is_zero-2-via-else-is_zero-2+then-is_one-2}
use Rattle.lp_laws.proofs.Idle.{left_nothing, right_nothing, left_once, right_once}

pub returns-then-is_zero-clause-value : goal.returns-then-is_zero-clause-value
returns-then-is_zero-clause-value c =
    elim c.then-is_zero.branch [
      | then-is_zero-via-then-is_zero w ↦ left_nothing c.args.left c.args.right (c.is_zero.ensures.0 w.if-is_zero.true)
      | then-is_zero-via-else-is_zero+then-is_one w ↦ right_once c.args.left c.args.right (w.is_one.ensures.0 w.if-is_one.true)
    ]

pub returns-then-is_zero-2-clause-value : goal.returns-then-is_zero-2-clause-value
returns-then-is_zero-2-clause-value c =
    elim c.then-is_zero-2.branch [
      | then-is_zero-2-via-then-is_zero-2 w ↦ right_nothing c.args.left c.args.right (c.is_zero-2.ensures.0 w.if-is_zero-2.true)
      | then-is_zero-2-via-else-is_zero-2+then-is_one-2 w ↦ left_once c.args.left c.args.right (w.is_one-else-is_zero-2.ensures.0 w.if-is_one-2.true)
    ]
