use Rattle.std.proofs.Common.{◌≡◌, ◌∙◌, arith, None}
use Rattle.std.proofs.lemmas.Result.{err_from_is_err_and}
use Rattle.card_definitions.specs.Cards.{cards_of, job_fault}
use Rattle.card_reader.specs.Reading.{ReportsCardFault}
use Rattle.card_reader.proofs.ReadLemmas.{holds_of_job, reads_at_stop, too_long_by_bytes}
use Rattle.card_reader.proofs.read.read_job.Goals as goal

pub returns-then-len-gt-MAX_JOB_BYTES-clause-fault : goal.returns-then-len-gt-MAX_JOB_BYTES-clause-fault
returns-then-len-gt-MAX_JOB_BYTES-clause-fault g c = too_long_by_bytes _ c.in_ok-bytes.bytes.items c.in_ok-bytes.ensures.bytes (omega arith)

pub returns-in_err-spans-clause-fault : goal.returns-in_err-spans-clause-fault
returns-in_err-spans-clause-fault g c =
    let p = err_from_is_err_and c.from_residual-in_err-spans.result c.from_residual-in_err-spans.ensures.1 in
    let stop = c.in_err-spans.field-0.0 in
    rw (p.1, p.2) (holds_of_job (λ job. ReportsCardFault stop (job_fault job)) _ c.in_ok-bytes.bytes.items c.in_ok-bytes.ensures.bytes (omega arith)
    (rw c.deref.ensures.value at c.in_err-spans.ensures.fault))

pub returns-in_err-spans-clause-reads : goal.returns-in_err-spans-clause-reads
returns-in_err-spans-clause-reads g c =
    let p = err_from_is_err_and c.from_residual-in_err-spans.result c.from_residual-in_err-spans.ensures.1 in
    rw (p.1, p.2) (reads_at_stop c.in_err-spans.field-0.0 _ _ c.in_ok-bytes.ensures.reads)

pub returns-clause-cards : goal.returns-clause-cards
returns-clause-cards g c =
    holds_of_job (λ job. c.new.result ≡ cards_of job) _ c.in_ok-bytes.bytes.items c.in_ok-bytes.ensures.bytes (omega arith)
    (c.new.ensures ∙ (rw c.deref.ensures.value at c.in_ok-spans.ensures.cards))

pub returns-clause-fault : goal.returns-clause-fault
returns-clause-fault g c =
    holds_of_job (λ job. job_fault job ≡ None) _ c.in_ok-bytes.bytes.items c.in_ok-bytes.ensures.bytes (omega arith)
    (rw c.deref.ensures.value at c.in_ok-spans.ensures.fault)
