use Rattle.std.proofs.Common.{◌≡◌, ◌+◌, ◌∙◌, ap, [], ◌∷◌}
use Rattle.exact_values.specs.Tests.{eq_ℚ}
use Rattle.lp_definitions.specs.LinearProgram.{LinearProgram, value_at}
use Rattle.check_definitions.specs.Steps.{comparison, verdict_of}
use Rattle.certificate_check.proofs.Columns.{ray_exit, ray_done}
use Rattle.certificate_check.proofs.ray.vanishes_on.Goals as goal
use Rattle.certificate_check.proofs.ray.vanishes_on.Goals.{After-column_sum}

variable_is : (c : After-column_sum) → c.lp.inside.rows + c.args.column ≡ c.args.lp.now.rows + c.args.column
variable_is c = ap (λ (p : LinearProgram). p.rows + c.args.column) c.lp.view_is

pub returns-in_err-sum : goal.returns-in_err-sum
returns-in_err-sum c =
    let n = variable_is (goal.at.returns-in_err-sum c).After-column_sum in
    ray_exit c.args.lp.now (value_at c.args.ray.now) c.args.column c.column.result.now c.column.ensures
    c.value_of.result
    (c.value_of.ensures ∙ ap (value_at c.args.ray.now) n) c.from_residual.result c.in_err-sum.field-0.0 c.in_err-sum.ensures c.from_residual.ensures.1

pub returns : goal.returns
returns c =
    let n = variable_is (goal.at.returns c).After-column_sum in
    c.compare.ensures
    ∙ ap (λ b. verdict_of (comparison 1 (c.lp.inside.rows + c.args.column) b ∷ [])) (c.is_equal.ensures ∙ ap (eq_ℚ c.in_ok-sum.sum) c.whole.ensures)
    ∙ ray_done c.args.lp.now (value_at c.args.ray.now) c.args.column c.column.result.now c.column.ensures
    c.value_of.result (c.value_of.ensures ∙ ap (value_at c.args.ray.now) n) c.in_ok-sum.sum c.in_ok-sum.ensures (c.lp.inside.rows + c.args.column) n
