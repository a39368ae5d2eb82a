use Rattle.std.proofs.lemmas.Result.{err_from_is_err_and}
use Rattle.job_devices.proofs.TextLemmas.{writes_then, writes_more, writes_same}
use Rattle.deck_definitions.specs.Written.{card_text}
use Rattle.deck_definitions.specs.Transport.{deck_fields}
use Rattle.generated_job.proofs.Deck.{job_text}
use Rattle.generated_job.proofs.job.put_job.Goals as goal

pub returns-in_err-put_program : goal.returns-in_err-put_program
returns-in_err-put_program g c =
    let p = err_from_is_err_and c.from_residual.result c.from_residual.ensures.1 in
    rw (p.1, p.2) (writes_same (job_text c.args.n) (writes_more (card_text (deck_fields c.args.n)) c.in_err-put_program.ensures))

pub returns : goal.returns
returns g c = writes_same (job_text c.args.n) (writes_then c.in_ok-put_program.ensures c.put_deck.ensures)
