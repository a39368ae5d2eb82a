use Rattle.std.proofs.Common.{refl, ap, Some, arith}
use Rattle.job_devices.specs.States.{untold_source}
use Rattle.deck_definitions.specs.Transport.{made_job}
use Rattle.run_definitions.specs.Answer.{Made, memory_at_start}
use Rattle.fitting_answers.specs.Real.{linear_programming_of_128_bits}
use Rattle.command_line.specs.declared.request.Request.TheVariants.{Make}
use Rattle.job_program.specs.declared.stop.EarlyStop.TheVariants.{Memory}
use Rattle.mps_cli.proofs.EndingAnswers.{ending_answer}
use Rattle.mps_cli.specs.Causes.{nothing}
use Rattle.mps_cli.proofs.Why.{source_punch}
use Rattle.mps_cli.proofs.Accounted.{source_accounted, untouched_accounted}
use Rattle.mps_cli.proofs.run.run_made.Goals as goal

pub returns-in-Ok-clause-answer : goal.returns-in-Ok-clause-answer
returns-in-Ok-clause-answer g c =
    let bytes = made_job c.args.size in
    c.run_source.ensures.answer (Made bytes) bytes
    (record { has_bytes = refl; is_reported = ap (λ b. Some b) c.in-Ok.ensures; is_read = λ e. absurd (omega (arith, e)) })

pub returns-in-Ok-clause-accounted : goal.returns-in-Ok-clause-accounted
returns-in-Ok-clause-accounted g c = source_accounted c.run_source.result c.args.size c.in-Ok.job c.run_source.new.job c.run_source.ensures.accounted

pub returns-in-Err-clause-answer : goal.returns-in-Err-clause-answer
returns-in-Err-clause-answer g c =
    ending_answer linear_programming_of_128_bits (Made (made_job c.args.size)) _ Memory memory_at_start
    (g.U.Sink.taken c.args.punch.now).written c.end_job.result (λ e. e) (λ e. e) c.end_job.ensures

pub returns-in-Err-clause-accounted : goal.returns-in-Err-clause-accounted
returns-in-Err-clause-accounted g c =
    untouched_accounted (Some (Make c.args.size)) (untold_source 0) (g.U.Sink.taken c.args.punch.now) Memory c.end_job.result tt c.end_job.ensures

pub returns-in-Ok-clause-punch : goal.returns-in-Ok-clause-punch
returns-in-Ok-clause-punch g c = source_punch c.args.size _ _ _ _ _ c.run_source.result (ap (λ b. Some b) c.in-Ok.ensures) c.run_source.ensures.punch

pub returns-in-Err-clause-punch : goal.returns-in-Err-clause-punch
returns-in-Err-clause-punch g c = nothing refl
