use Rattle.std.proofs.Common.{◌∙◌, arith}
use Rattle.std.proofs.lemmas.Result.{err_from_is_err_and}
use Rattle.job_devices.proofs.TextLemmas.{writes_then, writes_more, writes_same}
use Rattle.basis_deck.proofs.Punched.{after_limits, after_exchanges, after_name, deck_text, deck_length, writes_done, stops_so}
use Rattle.basis_deck.proofs.punching.punch_basis.Goals as goal

pub returns-in_err-put_name-clause-writes : goal.returns-in_err-put_name-clause-writes
returns-in_err-put_name-clause-writes g c =
    let p = err_from_is_err_and c.from_residual.result c.from_residual.ensures.1 in
    rw (p.1, p.2)
    (writes_same (deck_text c.args.problem.now c.args.lp.now c.args.basis.now c.bytes.result.now (c.bytes.ensures.bytes ∙ c.name-name.ensures.name))
    (writes_more (after_name c.args.problem.now c.args.lp.now c.args.basis.now) (stops_so c.in_err-put_name.ensures)))

pub returns-in_err-exchanges-clause-writes : goal.returns-in_err-exchanges-clause-writes
returns-in_err-exchanges-clause-writes g c =
    let p = err_from_is_err_and c.from_residual-in_err-exchanges.result c.from_residual-in_err-exchanges.ensures.1 in
    rw (p.1, p.2)
    (writes_same (deck_text c.args.problem.now c.args.lp.now c.args.basis.now c.bytes.result.now (c.bytes.ensures.bytes ∙ c.name-name.ensures.name))
    (writes_then c.in_ok-put_name.ensures (writes_more (after_exchanges c.args.problem.now c.args.lp.now c.args.basis.now) c.in_err-exchanges.ensures.writes)))

pub returns-in_err-limits-clause-writes : goal.returns-in_err-limits-clause-writes
returns-in_err-limits-clause-writes g c =
    let p = err_from_is_err_and c.from_residual-in_err-limits.result c.from_residual-in_err-limits.ensures.1 in
    rw (p.1, p.2)
    (writes_same (deck_text c.args.problem.now c.args.lp.now c.args.basis.now c.bytes.result.now (c.bytes.ensures.bytes ∙ c.name-name.ensures.name))
    (writes_then c.in_ok-put_name.ensures
    (writes_then c.in_ok-exchanges.ensures.writes
    (writes_more (after_limits c.args.problem.now c.args.lp.now c.args.basis.now) c.in_err-limits.ensures.writes))))

pub returns-in_err-put_all-clause-writes : goal.returns-in_err-put_all-clause-writes
returns-in_err-put_all-clause-writes g c =
    let p = err_from_is_err_and c.from_residual-in_err-put_all.result c.from_residual-in_err-put_all.ensures.1 in
    rw (p.1, p.2)
    (writes_same (deck_text c.args.problem.now c.args.lp.now c.args.basis.now c.bytes.result.now (c.bytes.ensures.bytes ∙ c.name-name.ensures.name))
    (writes_then c.in_ok-put_name.ensures
    (writes_then c.in_ok-exchanges.ensures.writes (writes_then c.in_ok-limits.ensures.writes (stops_so c.in_err-put_all.ensures)))))

pub returns-clause-writes : goal.returns-clause-writes
returns-clause-writes g c =
    writes_done c.saturating_add-2.result
    (writes_same (deck_text c.args.problem.now c.args.lp.now c.args.basis.now c.bytes.result.now (c.bytes.ensures.bytes ∙ c.name-name.ensures.name))
    (writes_then c.in_ok-put_name.ensures (writes_then c.in_ok-exchanges.ensures.writes (writes_then c.in_ok-limits.ensures.writes c.in_ok-put_all.ensures))))

pub returns-clause-counted : goal.returns-clause-counted
returns-clause-counted g c =
    omega (
      arith,
      deck_length c.args.problem.now c.args.lp.now c.args.basis.now,
      c.in_ok-exchanges.ensures.counted,
      c.in_ok-limits.ensures.counted,
      c.saturating_add.ensures,
      c.saturating_add-2.ensures,
    )
