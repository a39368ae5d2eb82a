-- The cards are read from PROGRAM on, up to the job's end.
use Rattle.std.proofs.Common.{sym}
use Rattle.control_compiler.proofs.Passing.{underway_first, read_to_the_end}
use Rattle.control_compiler.proofs.reading.Reading.after.Goals as goal

pub loop-number-init : goal.loop-number-init
loop-number-init c = underway_first c.args.cards.now c.args.first c.args.draft c.requires

pub returns : goal.returns
returns c =
    read_to_the_end c.args.cards.now c.loop-number.number c.loop-number.draft (rw (sym c.count.ensures.count) c.loop-number-test.false) c.loop-number.invariant
