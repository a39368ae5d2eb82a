use Rattle.std.proofs.Common.{ap, rules}
use Rattle.std.proofs.lemmas.Result.{err_from_is_err_and}
use Rattle.job_devices.proofs.TextLemmas.{writes_item, writes_same}
use Rattle.bcd_out.proofs.InTurn.{writes_next, writes_whole}
use Rattle.bcd_out.proofs.sections.put_in_turn.Goals as goal

pub loop-item-preserved : goal.loop-item-preserved
loop-item-preserved g c = λ lines writes.
    writes_next lines c.args.items.now c.loop-item.item-index c.item-item.result c.loop-item-test.true (c.loop-item.invariant lines writes)
    (writes_same (ap lines c.item-item.is) (writes _ _ _ _ c.in_ok-put.ensures))

pub returns-in_err-put : goal.returns-in_err-put
returns-in_err-put g c = λ lines writes.
    let p = err_from_is_err_and c.from_residual.result c.from_residual.ensures.1 in
    rw (p.1, p.2)
    (writes_item lines c.args.items.now c.loop-item.item-index c.item-item.result c.loop-item-test.true (c.loop-item.invariant lines writes)
    (writes_same (ap lines c.item-item.is) (writes _ _ _ _ c.in_err-put.ensures)))

pub returns : goal.returns
returns g c = λ lines writes. writes_whole lines c.args.items.now c.loop-item.item-index (search rules) (c.loop-item.invariant lines writes)
