use Rattle.std.proofs.Common.{refl, Some}
use Rattle.fitting_answers.specs.Real.{linear_programming_of_128_bits}
use Rattle.command_line.specs.declared.request.Request.TheVariants.{Read}
use Rattle.mps_cli.proofs.EndingAnswers.{ending_answer}
use Rattle.mps_cli.specs.Causes.{nothing, in_run}
use Rattle.mps_cli.proofs.MayEnd.{may_stop, prepared_of, program_of, answered_too}
use Rattle.mps_cli.proofs.Why.{why, run_cause}
use Rattle.mps_cli.proofs.Reported.{reported_unread, stops_reading}
use Rattle.mps_cli.proofs.Accounted.{stopped_accounted}
use Rattle.mps_cli.proofs.run.run_source.Goals as goal

pub returns-in-Ok-clause-answer : goal.returns-in-Ok-clause-answer
returns-in-Ok-clause-answer g c given bytes is =
    let are = prepared_of bytes c.in-Ok.prepared is.is_reported c.in-Ok.ensures.prepared in
    answered_too linear_programming_of_128_bits given _ _ (λ e. absurd e) (λ e. e) (λ e. e) (λ e. e) _ _ _
    (c.run_on.ensures.answer given bytes is.has_bytes are.1 are.0)

pub returns-in-Ok-clause-accounted : goal.returns-in-Ok-clause-accounted
returns-in-Ok-clause-accounted g c = record {
  cause =
      run_cause (Some Read) _ _ _ _ _ c.run_on.result c.in-Ok.ensures.read c.run_on.ensures.own c.run_on.ensures.print_fault
      c.run_on.ensures.punch_fault;
  reported = reported_unread _ _ _ _ _ (c.in-Ok.ensures.quiet (λ e. absurd (cc e))) c.run_on.ensures.reported;
  still = c.run_on.ensures.still;
  no_further = c.in-Ok.ensures.no_further;
}

pub returns-in-Err-clause-answer : goal.returns-in-Err-clause-answer
returns-in-Err-clause-answer g c given bytes is =
    ending_answer linear_programming_of_128_bits given _ c.in-Err.stop
    (may_stop linear_programming_of_128_bits given bytes _ _ is.has_bytes is.is_read c.in-Err.stop is.is_reported c.in-Err.ensures.stop
    c.in-Err.ensures.cause) (g.U.Sink.taken c.args.punch.now).written c.end_job.result (λ e. e) (λ e. e) c.end_job.ensures

pub returns-in-Err-clause-accounted : goal.returns-in-Err-clause-accounted
returns-in-Err-clause-accounted g c =
    stopped_accounted (Some Read) (g.S.Source.given c.args.job.now) (g.S.Source.given c.prepare.new.job)
    (g.U.Sink.taken c.args.punch.now) c.in-Err.stop c.end_job.result
    (why _ _ c.in-Err.stop c.in-Err.ensures.cause)
    (stops_reading c.in-Err.stop _ _ (λ other. c.in-Err.ensures.quiet (λ e. other (cc e)))) c.in-Err.ensures.no_further c.end_job.ensures

pub returns-in-Ok-clause-punch : goal.returns-in-Ok-clause-punch
returns-in-Ok-clause-punch g c =
    in_run c.in-Ok.prepared.program c.in-Ok.ensures.read
    (program_of (g.S.Source.given c.args.job.now).left c.in-Ok.prepared c.in-Ok.ensures.prepared) c.run_on.ensures.own

pub returns-in-Err-clause-punch : goal.returns-in-Err-clause-punch
returns-in-Err-clause-punch g c = nothing refl
