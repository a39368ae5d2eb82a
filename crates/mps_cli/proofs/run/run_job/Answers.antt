use Rattle.std.proofs.Common.{map, string_bytes, refl, ap, subst, ◌∙◌, Some, Err}
use Rattle.command_line.specs.Requests.{asked}
use Rattle.command_line.specs.declared.request.Request.{Request}
use Rattle.job_program.specs.declared.stop.EarlyStop.{EarlyStop}
use Rattle.mps_cli.specs.Endings.{EndsWith}
use Rattle.determinism_laws.proofs.Standing.{stands_after}
use Rattle.answer_definitions.specs.Real.{linear_programming}
use Rattle.mps_cli.specs.Causes.{nothing}
use Rattle.mps_cli.proofs.Why.{why_words, same_punch}
use Rattle.mps_cli.proofs.Accounted.{untouched_accounted, same_accounted}
use Rattle.mps_cli.proofs.Truth.{true_answer, once_answer, stopped_answer, same_answer}
use Rattle.mps_cli.proofs.run.run_job.Goals as goal

-- ---- a job is asked for

pub returns-in-Ok-clause-sizes : goal.returns-in-Ok-clause-sizes
returns-in-Ok-clause-sizes g c =
    same_answer (asked (map string_bytes c.args.words.now))
    (g.S.Source.given c.args.job.now).left c.run_request.result _ _ _ c.in-Ok.request c.in-Ok.ensures.accepted c.run_request.ensures.sizes

pub returns-in-Ok-clause-headline : goal.returns-in-Ok-clause-headline
returns-in-Ok-clause-headline g c job is = true_answer (returns-in-Ok-clause-sizes g c job is)

pub returns-in-Ok-clause-one_run : goal.returns-in-Ok-clause-one_run
returns-in-Ok-clause-one_run g c job is = once_answer (returns-in-Ok-clause-headline g c job is)

pub returns-in-Ok-clause-stands : goal.returns-in-Ok-clause-stands
returns-in-Ok-clause-stands g c job is = stands_after linear_programming (returns-in-Ok-clause-headline g c job is)

pub returns-in-Ok-clause-punch : goal.returns-in-Ok-clause-punch
returns-in-Ok-clause-punch g c = same_punch c.in-Ok.request _ _ _ c.run_request.result c.in-Ok.ensures.accepted c.run_request.ensures.punch

pub returns-in-Ok-clause-accounted : goal.returns-in-Ok-clause-accounted
returns-in-Ok-clause-accounted g c = same_accounted c.in-Ok.request c.run_request.result c.in-Ok.ensures.accepted c.run_request.ensures.accounted

pub returns-in-Ok-clause-unread : goal.returns-in-Ok-clause-unread
returns-in-Ok-clause-unread g c differs = c.run_request.ensures.unread (λ e. differs (c.in-Ok.ensures.accepted ∙ ap (λ (r : Request). Some r) e))

-- ---- the words ask for nothing

pub returns-in-Err-clause-sizes : goal.returns-in-Err-clause-sizes
returns-in-Err-clause-sizes g c =
    stopped_answer (asked (map string_bytes c.args.words.now)) (g.S.Source.given c.args.job.now).left c.end_job.result _ _
    (g.U.Sink.taken c.args.punch.now).written
    c.in-Err.stop (λ e. c.in-Err.ensures.refused (ap (λ s. Err s) e))
    (subst (λ (stop : EarlyStop). EndsWith (g.P.Sink.taken c.args.print.now)
    (g.P.Sink.taken c.end_job.new.print) stop c.end_job.result) c.from.ensures c.end_job.ensures)

pub returns-in-Err-clause-headline : goal.returns-in-Err-clause-headline
returns-in-Err-clause-headline g c job is = true_answer (returns-in-Err-clause-sizes g c job is)

pub returns-in-Err-clause-one_run : goal.returns-in-Err-clause-one_run
returns-in-Err-clause-one_run g c job is = once_answer (returns-in-Err-clause-headline g c job is)

pub returns-in-Err-clause-stands : goal.returns-in-Err-clause-stands
returns-in-Err-clause-stands g c job is = stands_after linear_programming (returns-in-Err-clause-headline g c job is)

pub returns-in-Err-clause-punch : goal.returns-in-Err-clause-punch
returns-in-Err-clause-punch g c = nothing refl

pub returns-in-Err-clause-accounted : goal.returns-in-Err-clause-accounted
returns-in-Err-clause-accounted g c =
    untouched_accounted (asked (map string_bytes c.args.words.now)) (g.S.Source.given c.args.job.now) (g.U.Sink.taken c.args.punch.now) _ c.end_job.result
    (why_words (asked (map string_bytes c.args.words.now)) _ _ c.in-Err.stop (λ e. c.in-Err.ensures.refused (ap (λ s. Err s) e)))
    (subst (λ (stop : EarlyStop). EndsWith (g.P.Sink.taken c.args.print.now)
    (g.P.Sink.taken c.end_job.new.print) stop c.end_job.result) c.from.ensures c.end_job.ensures)
