use Rattle.std.proofs.Common.{codes, ◌∙◌, ap}
use Rattle.job_devices.proofs.TextLemmas.{writes_same}
use Rattle.lp_definitions.specs.LinearProgram.{value_at}
use Rattle.report_text.proofs.Verdicts.{same_objective, crossed_head}
use Rattle.report_text.proofs.verdict.put_verdict_head.Goals as goal

pub returns-in-Optimal : goal.returns-in-Optimal
returns-in-Optimal g c =
    rw c.in-Optimal.is (writes_same (same_objective c.args.by (codes "OPTIMAL STEPS ") c.in-Optimal.steps _ _
    (c.objective_of-value.ensures ∙ ap (λ point. value_at point c.args.sheet.lp.now.objective) c.values.ensures)) c.put_objective.ensures)

pub returns-in-Crossed : goal.returns-in-Crossed
returns-in-Crossed g c = rw c.in-Crossed.is (writes_same (crossed_head c.args.by c.in-Crossed.k) c.put_found.ensures)

pub returns-in-Infeasible : goal.returns-in-Infeasible
returns-in-Infeasible g c = rw c.in-Infeasible.is c.put_found-in-Infeasible.ensures

pub returns-in-Unbounded : goal.returns-in-Unbounded
returns-in-Unbounded g c =
    rw c.in-Unbounded.is (writes_same (same_objective c.args.by (codes "UNBOUNDED STEPS ") c.in-Unbounded.steps _ _
    (c.objective_of-value-in-Unbounded.ensures
    ∙ ap (λ point. value_at point c.args.sheet.lp.now.objective) c.values-in-Unbounded.ensures)) c.put_objective-in-Unbounded.ensures)
