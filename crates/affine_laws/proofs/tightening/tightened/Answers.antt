use Rattle.affine_laws.proofs.Bounds.{high_tightened, low_tightened}
use Rattle.affine_laws.proofs.tightening.tightened.Goals as goal

pub returns-then-keeps_below-clause-tightened : goal.returns-then-keeps_below-clause-tightened
returns-then-keeps_below-clause-tightened c = high_tightened c.args.ends c.args.bound.now c.in_ok-high.high c.in_ok-high.ensures.nearer

pub returns-clause-tightened : goal.returns-clause-tightened
returns-clause-tightened c = low_tightened c.args.ends c.args.bound.now c.in_ok-low.low c.in_ok-low.ensures.nearer
