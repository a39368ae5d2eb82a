use Rattle.std.proofs.Common.{◌≡◌, ap, rules}
use Rattle.std.specs.List.{flat_map}
use Rattle.std.proofs.lemmas.Result.{err_from_is_err_and}
use Rattle.deck_definitions.specs.Transport.{up_to}
use Rattle.job_devices.proofs.TextLemmas.{writes_same}
use Rattle.generated_job.proofs.Numbered.{writes_next, stops_at}
use Rattle.generated_job.proofs.sections.put_numbered.Goals as goal

pub loop-before-preserved : goal.loop-before-preserved
loop-before-preserved g c = λ lines writes.
    writes_next lines c.loop-before.before (c.loop-before.invariant lines writes) (writes _ _ _ _ (search rules) c.in_ok-put.ensures)

pub returns-in_err-put : goal.returns-in_err-put
returns-in_err-put g c = λ lines writes.
    let p = err_from_is_err_and c.from_residual.result c.from_residual.ensures.1 in
    rw (p.1, p.2)
    (stops_at lines c.loop-before.before c.args.n c.loop-before-test.true (c.loop-before.invariant lines writes)
    (writes _ _ _ _ (search rules) c.in_err-put.ensures))

pub returns : goal.returns
returns g c = λ lines writes.
    let all : c.loop-before.before ≡ c.args.n = search rules in
    writes_same (ap (λ n. flat_map lines (up_to n)) all) (c.loop-before.invariant lines writes)
