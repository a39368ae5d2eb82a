use Rattle.std.proofs.Common.{ap, Some, arith}
use Rattle.command_line.specs.declared.request.Request.{Request}
use Rattle.command_line.specs.declared.request.Request.TheVariants.{Read, Make}
use Rattle.mps_cli.proofs.Why.{read_punch, made_punch}
use Rattle.mps_cli.proofs.Accounted.{same_accounted, made_accounted}
use Rattle.mps_cli.proofs.Truth.{read_answer, made_answer}
use Rattle.mps_cli.proofs.run.run_request.Goals as goal

-- ---- the job is read

pub returns-in-Read-clause-sizes : goal.returns-in-Read-clause-sizes
returns-in-Read-clause-sizes g c =
    read_answer (Some c.args.request) (g.S.Source.given c.args.job.now).left c.run_source.result _ _ _
    (ap (λ (r : Request). Some r) c.in-Read.is) c.run_source.ensures.answer

pub returns-in-Read-clause-accounted : goal.returns-in-Read-clause-accounted
returns-in-Read-clause-accounted g c = same_accounted Read c.run_source.result (ap (λ (r : Request). Some r) c.in-Read.is) c.run_source.ensures.accounted

pub returns-in-Read-clause-unread : goal.returns-in-Read-clause-unread
returns-in-Read-clause-unread g c differs = absurd (differs c.in-Read.is)

-- ---- the job is made

pub returns-in-Make-clause-sizes : goal.returns-in-Make-clause-sizes
returns-in-Make-clause-sizes g c =
    made_answer (Some c.args.request) (g.S.Source.given c.args.job.now).left c.run_made.result _ (λ e. absurd (omega (arith, e))) _ _ _ _ _ _ c.in-Make.size
    (ap (λ (r : Request). Some r) c.in-Make.is) c.run_made.ensures.answer

pub returns-in-Make-clause-accounted : goal.returns-in-Make-clause-accounted
returns-in-Make-clause-accounted g c =
    same_accounted (Make c.in-Make.size) c.run_made.result (ap (λ (r : Request). Some r) c.in-Make.is)
    (made_accounted c.run_made.result c.in-Make.size (g.S.Source.given c.args.job.now) c.run_made.ensures.accounted)

pub returns-in-Read-clause-punch : goal.returns-in-Read-clause-punch
returns-in-Read-clause-punch g c = read_punch _ _ _ c.run_source.result c.in-Read.is c.run_source.ensures.punch

pub returns-in-Make-clause-punch : goal.returns-in-Make-clause-punch
returns-in-Make-clause-punch g c = made_punch _ _ _ _ _ c.run_made.result c.in-Make.size c.in-Make.is c.run_made.ensures.punch
