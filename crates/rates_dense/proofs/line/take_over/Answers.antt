use Rattle.std.proofs.Common.{length, arith}
use Rattle.rates_dense.specs.Lines.{AreNumbers}
use Rattle.rates_dense.proofs.Fills.{read_filled}
use Rattle.rates_dense.proofs.Changes.{taken_more, taken_to_end}
use Rattle.rates_dense.proofs.line.take_over.Goals as goal

pub loop-place-preserved : goal.loop-place-preserved
loop-place-preserved c f filled =
    let within = c.loop-place-test.true in
    let numbers : AreNumbers (length c.loop-place.rates) c.args.changed.now = λ place below. let h = c.requires.variables place below in
    (h.0, omega (arith, h.1, c.loop-place.auto.rates)) in
    taken_more c.args.changed.now c.args.rates.now c.loop-place.rates f c.loop-place.place c.index-next-place.result numbers within
    (read_filled c.args.changed.now c.args.next.now f c.loop-place.place c.index-next-place.result within c.requires.room filled c.index-next-place.is)
    (c.loop-place.invariant f filled)

pub returns : goal.returns
returns c f filled = taken_to_end c.args.changed.now c.args.rates.now c.loop-place.rates f c.loop-place.place (omega arith) (c.loop-place.invariant f filled)
