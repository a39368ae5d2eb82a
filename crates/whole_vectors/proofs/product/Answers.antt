use Rattle.exact_values.specs.Rational.{one_ℚ}
use Rattle.lp_laws.proofs.Idle.{left_nothing, right_once}
use Rattle.whole_vectors.proofs.Over.{same_reported}
use Rattle.whole_vectors.proofs.product.Goals as goal
use Rattle.whole_vectors.proofs.product.Goals.{then-is_zero-via-then-is_zero, then-is_zero-via-else-is_zero+then-eq}

pub returns-then-is_zero : goal.returns-then-is_zero
returns-then-is_zero c = elim c.then-is_zero.branch [
  | then-is_zero-via-then-is_zero w ↦ left_nothing c.args.x c.args.y (c.is_zero.ensures.0 w.if-is_zero.true)
  | then-is_zero-via-else-is_zero+then-eq w ↦ right_once c.args.x c.args.y
      (same_reported c.args.y one_ℚ w.whole.result w.eq.result w.eq.ensures w.if-eq.true w.whole.ensures)
]
