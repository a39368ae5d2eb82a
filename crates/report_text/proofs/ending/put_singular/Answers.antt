use Rattle.std.proofs.Common.{◌∙◌, ap}
use Rattle.std.proofs.lemmas.Result.{err_from_is_err_and}
use Rattle.job_devices.proofs.TextLemmas.{writes_then, writes_more, writes_same}
use Rattle.listing_definitions.specs.Text.{table_text}
use Rattle.listing_tables.specs.Lines.{ray_lines}
use Rattle.report_text.proofs.Verdicts.{ray_table}
use Rattle.report_text.proofs.ending.put_singular.Goals as goal

pub returns-in_err-put_verb_fault : goal.returns-in_err-put_verb_fault
returns-in_err-put_verb_fault g c =
    let p = err_from_is_err_and c.from_residual.result c.from_residual.ensures.1 in
    rw (p.1, p.2) (writes_more (table_text (ray_lines c.args.sheet.problem.now c.args.sheet.lp.now c.args.dependency.now)) c.in_err-put_verb_fault.ensures)

pub returns : goal.returns
returns g c =
    writes_then c.in_ok-put_verb_fault.ensures
    (writes_same (ray_table c.args.sheet c.number_of_variables-last.result c.number_of_variables-last.ensures.size c.values.result
    ∙ ap (λ ray. table_text (ray_lines c.args.sheet.problem.now c.args.sheet.lp.now ray)) c.values.ensures) c.put_table.ensures)
