use Rattle.std.proofs.Common.{ap, ◌∙◌}
use Rattle.job_devices.proofs.TextLemmas.{writes_same}
use Rattle.listing_definitions.specs.Report.{UnboundedPast, InfeasiblePast}
use Rattle.listing_definitions.specs.Text.{chain_end_text}
use Rattle.listing_tables.specs.Lines.{pair_lines, ray_lines}
use Rattle.report_text.proofs.ParametricParts.{unbounded_text, infeasible_text}
use Rattle.report_text.proofs.parametric.put_run_end.Goals as goal

pub returns-in-Unbounded : goal.returns-in-Unbounded
returns-in-Unbounded g c =
    let past = c.in-Unbounded.past in
    rw c.in-Unbounded.is
    (writes_same
    (unbounded_text c.args.sheet c.args.by past c.values.result c.values-in-Unbounded.result
    ∙ (λ i. chain_end_text c.args.by (UnboundedPast past
    (pair_lines c.args.sheet.problem.now c.args.sheet.lp.now (c.values.ensures i) (c.values-in-Unbounded.ensures i))))) c.put_past.ensures)

pub returns-in-Infeasible : goal.returns-in-Infeasible
returns-in-Infeasible g c =
    let past = c.in-Infeasible.past in
    rw c.in-Infeasible.is
    (writes_same
    (infeasible_text c.args.sheet c.args.by past c.values-in-Infeasible.result
    ∙ ap (λ ray. chain_end_text c.args.by (InfeasiblePast past
    (ray_lines c.args.sheet.problem.now c.args.sheet.lp.now ray))) c.values-in-Infeasible.ensures) c.put_past-in-Infeasible.ensures)
