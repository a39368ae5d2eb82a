use Rattle.rates_dense.proofs.ChangingLines.{taken_next}
use Rattle.rates_dense.proofs.commit_lines.Goals as goal

pub loop-slot-preserved : goal.loop-slot-preserved
loop-slot-preserved c =
    taken_next c.args.exchange.now.p c.args.exchange.now.q c.args.changed.now c.args.changing.now c.args.lines.now c.loop-slot.lines c.loop-slot.slot-index
    c.index-lines-slot.result c.commit.new.self
    c.requires.changing c.loop-slot-test.true c.loop-slot.auto.lines c.commit.ensures c.loop-slot.invariant
