use Rattle.std.proofs.Common.{rules, arith, ◌≡◌, ◌<◌, Err, length, get_or}
use Rattle.rates_dense.proofs.ChangingLines.{same_more, ready_more, refused_same}
use Rattle.rates_dense.proofs.prepare_lines.Goals as goal

pub returns-in_err-prepare-clause-same : goal.returns-in_err-prepare-clause-same
returns-in_err-prepare-clause-same c =
    let slot = get_or c.args.changing.now c.loop-slot.slot-index 0 in
    let inside : slot < length c.loop-slot.lines =
    omega (arith, c.requires.changing.within c.loop-slot.slot-index c.loop-slot-test.true, c.loop-slot.auto.lines) in
    same_more c.args.lines.now c.loop-slot.lines slot c.index-lines-slot.result c.prepare.new.self inside c.loop-slot.invariant.same c.prepare.ensures.same

pub returns-in_err-prepare-clause-refused : goal.returns-in_err-prepare-clause-refused
returns-in_err-prepare-clause-refused c =
    let slot = get_or c.args.changing.now c.loop-slot.slot-index 0 in
    let is_err : c.from_residual.result ≡ Err c.in_err-prepare.field-0.0 = search rules in
    rw is_err
    (refused_same c.args.exchange.now.p c.args.exchange.now.q c.args.quotients.now c.args.lines.now c.loop-slot.lines slot c.index-lines-slot.result
    c.in_err-prepare.field-0.0
    (c.requires.changing.within c.loop-slot.slot-index c.loop-slot-test.true) c.loop-slot.auto.lines c.loop-slot.invariant.same
    c.in_err-prepare.ensures.stays c.in_err-prepare.ensures.refused)

pub loop-slot-preserved : goal.loop-slot-preserved
loop-slot-preserved c =
    let slot = get_or c.args.changing.now c.loop-slot.slot-index 0 in
    let inside : slot < length c.loop-slot.lines =
    omega (arith, c.requires.changing.within c.loop-slot.slot-index c.loop-slot-test.true, c.loop-slot.auto.lines) in
    ready_more c.args.exchange.now.p c.args.exchange.now.q c.args.quotients.now c.args.changed.now c.args.changing.now c.args.lines.now c.loop-slot.lines
    c.loop-slot.slot-index c.index-lines-slot.result c.prepare.new.self
    inside c.prepare.ensures.same c.in_ok-prepare.ensures.ready c.loop-slot.invariant
