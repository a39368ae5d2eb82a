use Rattle.std.proofs.Common.{◌∙◌, ap}
use Rattle.job_devices.proofs.TextLemmas.{writes_same}
use Rattle.listing_definitions.specs.Text.{table_text}
use Rattle.listing_tables.specs.Lines.{ray_lines, pair_lines}
use Rattle.report_text.proofs.Verdicts.{ray_table, pair_table}
use Rattle.report_text.proofs.verdict.put_verdict_lines.Goals as goal

pub returns-in-Infeasible : goal.returns-in-Infeasible
returns-in-Infeasible g c =
    rw c.in-Infeasible.is (writes_same (ray_table c.args.sheet c.number_of_variables-last.result c.number_of_variables-last.ensures.size c.values.result
    ∙ ap (λ ray. table_text (ray_lines c.args.sheet.problem.now c.args.sheet.lp.now ray)) c.values.ensures) c.put_table.ensures)

pub returns-in-Unbounded : goal.returns-in-Unbounded
returns-in-Unbounded g c =
    rw c.in-Unbounded.is
    (writes_same
    (pair_table c.args.sheet c.number_of_variables-last.result c.number_of_variables-last.ensures.size c.values-in-Unbounded.result
    c.values-in-Unbounded-2.result
    ∙ ap (λ point. table_text (pair_lines c.args.sheet.problem.now c.args.sheet.lp.now point c.values-in-Unbounded-2.result.now)) c.values-in-Unbounded.ensures
    ∙ ap (λ direction. table_text
    (pair_lines c.args.sheet.problem.now c.args.sheet.lp.now c.in-Unbounded.point direction)) c.values-in-Unbounded-2.ensures) c.put_table-in-Unbounded.ensures)
