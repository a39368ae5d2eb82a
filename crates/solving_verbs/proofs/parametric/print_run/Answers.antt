-- Each kind of answer.
use Rattle.std.proofs.Common.{subst}
use Rattle.lp_model.specs.declared.reports.ParaReport.{ParaReport}
use Rattle.verb_answers.specs.RunReports.{IsPrintable, IsAnswered}
use Rattle.solving_verbs.specs.ParametricVerbs.{parametric_run_view}
use Rattle.solving_verbs.proofs.parametric.print_run.Goals as goal

pub print_opening-requires : goal.print_opening-requires
print_opening-requires g c = subst (IsPrintable c.args.sheet) c.in-Opening.is c.requires

pub print_chain-requires : goal.print_chain-requires
print_chain-requires g c = subst (IsPrintable c.args.sheet) c.in-Run.is c.requires

pub returns-in-Opening : goal.returns-in-Opening
returns-in-Opening g c = λ s reached before after a.
    c.print_opening.ensures s reached before after
    (subst (λ (r : ParaReport). IsAnswered c.args.sheet (parametric_run_view c.args.parametric_run.now) s reached before after
    (record { report = r; refused = c.args.answer.now.refused })) c.in-Opening.is a)

pub returns-in-Run : goal.returns-in-Run
returns-in-Run g c = λ s reached before after a.
    c.print_chain.ensures c.args.answer.now.refused s reached before after
    (subst (λ (r : ParaReport). IsAnswered c.args.sheet (parametric_run_view c.args.parametric_run.now) s reached before after
    (record { report = r; refused = c.args.answer.now.refused })) c.in-Run.is a)
