use Rattle.std.proofs.Common.{arith}
use Rattle.lp_definitions.specs.LinearProgram.{value_at}
use Rattle.ranging.proofs.RateBounds.{next_ends}
use Rattle.ranging.proofs.row_ends.row_ends.Goals as goal
use Rattle.lp_laws.proofs.Places.{value_next}

pub loop-k-preserved : goal.loop-k-preserved
loop-k-preserved c =
    next_ends c.args.lp.now c.args.basis.now (value_at c.args.prices.now)
    (value_at c.args.row.now) c.loop-k.k c.loop-k.ends c.in_ok-ends.ends c.index-prices-k.result c.index-row-k.result
    (value_next c.args.prices.now c.loop-k.k c.index-prices-k.result (omega arith) c.index-prices-k.is)
    (value_next c.args.row.now c.loop-k.k c.index-row-k.result (omega arith) c.index-row-k.is)
    c.loop-k.invariant c.in_ok-ends.ensures.ends
