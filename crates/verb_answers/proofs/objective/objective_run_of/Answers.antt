use Rattle.std.proofs.lemmas.Result.{err_from_is_err_and}
use Rattle.verb_answers.proofs.Printable.{objective_printable}
use Rattle.verb_answers.proofs.Facts.{objective_answered, objective_stops, objective_unchecked}
use Rattle.verb_answers.proofs.objective.objective_run_of.Goals as goal

pub returns-in_err-report-clause-stops : goal.returns-in_err-report-clause-stops
returns-in_err-report-clause-stops g c =
    let p = err_from_is_err_and c.from_residual.result c.from_residual.ensures.1 in
    rw (p.1, p.2)
    (objective_stops c.args.sheet c.args.run.now c.args.basis.now c.para_obj.new.basis (g.R.Rates.state c.args.rates.now).waypoints
    (g.R.Rates.state c.para_obj.new.rates).waypoints c.in_err-report.field-0.0 c.in_err-report.ensures.stops)

pub returns-in_err-refused-clause-stops : goal.returns-in_err-refused-clause-stops
returns-in_err-refused-clause-stops g c =
    let p = err_from_is_err_and c.from_residual-in_err-refused.result c.from_residual-in_err-refused.ensures.1 in
    rw (p.1, p.2)
    (objective_unchecked c.args.sheet c.args.run.now c.args.basis.now c.para_obj.new.basis (g.R.Rates.state c.args.rates.now).waypoints
    (g.R.Rates.state c.para_obj.new.rates).waypoints c.in_ok-report.report c.in_err-refused.ensures.opening c.in_ok-report.ensures.ends)

pub returns-clause-answered : goal.returns-clause-answered
returns-clause-answered g c =
    objective_answered c.args.sheet c.args.run.now c.args.basis.now c.para_obj.new.basis (g.R.Rates.state c.args.rates.now).waypoints
    (g.R.Rates.state c.para_obj.new.rates).waypoints c.in_ok-report.report c.in_ok-refused.refused c.in_ok-report.ensures.ends c.in_ok-refused.ensures.checked

pub returns-clause-printable : goal.returns-clause-printable
returns-clause-printable g c =
    objective_printable c.args.sheet c.requires.sheet c.args.run.now.row c.args.run.now.from c.args.run.now.to c.args.basis.now c.para_obj.new.basis
    c.args.run.now.limit c.args.sheet.lp.now.matrix
    (g.R.Rates.state c.args.rates.now).waypoints
    (g.R.Rates.state c.para_obj.new.rates).waypoints c.in_ok-report.report c.in_ok-report.ensures.ends c.in_ok-report.ensures.truth
