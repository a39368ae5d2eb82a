use Rattle.std.proofs.Common.{arith}
use Rattle.lp_definitions.specs.LinearProgram.{value_at}
use Rattle.para_objective.proofs.Zeros.{none_above, next_above, skipped_above}
use Rattle.para_objective.proofs.reaching.least_computed.Goals as goal
use Rattle.lp_laws.proofs.Places.{value_next}

pub loop-k-init : goal.loop-k-init
loop-k-init c = none_above c.args.lp.now c.args.basis.now (value_at c.args.prices.now) (value_at c.args.change.now) c.args.max

pub loop-k-preserved : goal.loop-k-preserved
loop-k-preserved c =
    next_above c.args.lp.now c.args.basis.now (value_at c.args.prices.now) (value_at c.args.change.now) c.args.max c.loop-k.k c.loop-k.best c.in-Ok.now
    c.index-prices-k.result c.index-change-k.result
    (value_next c.args.prices.now c.loop-k.k c.index-prices-k.result (omega arith) c.index-prices-k.is)
    (value_next c.args.change.now c.loop-k.k c.index-change-k.result (omega arith) c.index-change-k.is)
    c.in-Ok.ensures.nearer c.loop-k.invariant

pub loop-k-preserved-in_default : goal.loop-k-preserved-in_default
loop-k-preserved-in_default c =
    skipped_above c.args.lp.now c.args.basis.now (value_at c.args.prices.now)
    (value_at c.args.change.now) c.args.max c.loop-k.k c.loop-k.best c.loop-k.invariant
