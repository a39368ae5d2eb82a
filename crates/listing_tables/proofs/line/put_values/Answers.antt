use Rattle.std.proofs.Common.{ap}
use Rattle.std.proofs.lemmas.Result.{err_from_is_err_and}
use Rattle.job_devices.proofs.TextLemmas.{writes_item, writes_same}
use Rattle.listing_tables.specs.Values.{value_after_blank}
use Rattle.listing_tables.proofs.line.put_values.Goals as goal

pub returns-in_err-put_value : goal.returns-in_err-put_value
returns-in_err-put_value g c =
    let p = err_from_is_err_and c.from_residual.result c.from_residual.ensures.1 in
    rw (p.1, p.2) (writes_item value_after_blank c.args.values.now c.loop-value.value-index c.value-item.result c.loop-value-test.true c.loop-value.invariant
    (writes_same (ap value_after_blank c.value-item.is) c.in_err-put_value.ensures))
