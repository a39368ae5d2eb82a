use Rattle.std.specs.List.{flat_map}
use Rattle.std.proofs.lemmas.Result.{err_from_is_err_and}
use Rattle.job_devices.proofs.TextLemmas.{writes_then, writes_more}
use Rattle.bcd_out.proofs.sections.put_under.Goals as goal

pub returns-in_err-put_each : goal.returns-in_err-put_each
returns-in_err-put_each g c = λ lines writes.
    let p = err_from_is_err_and c.from_residual.result c.from_residual.ensures.1 in
    rw (p.1, p.2) (writes_more (flat_map lines c.args.items.now) c.in_err-put_each.ensures)

pub returns : goal.returns
returns g c = λ lines writes. writes_then c.in_ok-put_each.ensures (c.put_in_turn.ensures lines writes)
