use Rattle.std.proofs.Common.{rules, arith, ◌≡◌, Err, ◌<◌, length, get_or}
use Rattle.rates_dense.proofs.Fills.{rest_refused_at}
use Rattle.rates_dense.proofs.line.fill_staying.Goals as goal
use Rattle.lp_laws.proofs.Places.{value_at_place}

pub returns-in_err-next-clause-refused : goal.returns-in_err-next-clause-refused
returns-in_err-next-clause-refused c =
    let is_err : c.from_residual-in_err-next.result ≡ Err c.in_err-next.field-0.0 = search rules in
    let within : c.loop-place.place < length c.args.changed.now = c.loop-place-test.true in
    let number = c.requires.variables c.loop-place.place within in
    rw is_err
    (rest_refused_at c.args.i c.args.exchange.now.p c.args.exchange.now.q c.args.quotients.now c.args.rates.now
    (get_or c.args.changed.now c.loop-place.place 0) c.index-rates-j.result c.index-quotients-j.result c.index-rates-q.result c.in_err-next.field-0.0
    number.0 (omega (arith, number.1, c.requires.places))
    (value_at_place c.args.rates.now (get_or c.args.changed.now c.loop-place.place 0) c.index-rates-j.result number.0
    (omega (arith, number.1, c.requires.places)) c.index-rates-j.is)
    (value_at_place c.args.quotients.now (get_or c.args.changed.now c.loop-place.place 0) c.index-quotients-j.result number.0 number.1 c.index-quotients-j.is)
    (value_at_place c.args.rates.now c.args.exchange.now.q c.index-rates-q.result c.requires.q_low c.requires.q_high c.index-rates-q.is)
    c.if-j-p.false c.in_err-next.ensures.refused)
