use Rattle.std.proofs.Common.{◌≡◌, ◌+◌, ◌∙◌, ap, [], ◌∷◌}
use Rattle.lp_definitions.specs.LinearProgram.{LinearProgram, value_at}
use Rattle.check_definitions.specs.Steps.{comparison, verdict_of}
use Rattle.certificate_check.proofs.Columns.{sum_exit, difference_exit, cost_done}
use Rattle.certificate_check.proofs.prices.is_reduced_cost.Goals as goal

pub returns-in_err-sum : goal.returns-in_err-sum
returns-in_err-sum c =
    sum_exit c.args.lp.now
    (value_at c.args.prices.now) c.args.column c.column-entries.result.now c.column-entries.ensures c.in_ok-cost.cost c.in_ok-cost.ensures
    c.whole.result c.whole.ensures c.from_residual-in_err-sum.result c.in_err-sum.field-0.0 c.in_err-sum.ensures c.from_residual-in_err-sum.ensures.1

pub returns-in_err-reduced : goal.returns-in_err-reduced
returns-in_err-reduced c =
    difference_exit c.args.lp.now
    (value_at c.args.prices.now) c.args.column c.column-entries.result.now c.column-entries.ensures c.in_ok-cost.cost c.in_ok-cost.ensures
    c.whole.result c.whole.ensures c.in_ok-sum.sum c.in_ok-sum.ensures
    c.from_residual-in_err-reduced.result c.in_err-reduced.field-0.0 c.in_err-reduced.ensures c.from_residual-in_err-reduced.ensures.1

pub returns : goal.returns
returns c =
    let n : c.lp.inside.rows + c.args.column ≡ c.args.lp.now.rows + c.args.column = ap (λ (p : LinearProgram). p.rows + c.args.column) c.lp.view_is in
    c.compare.ensures ∙ ap (λ b. verdict_of (comparison 3 (c.lp.inside.rows + c.args.column) b ∷ [])) c.is_equal.ensures
    ∙ cost_done c.args.lp.now
    (value_at c.args.prices.now) c.args.column c.column-entries.result.now c.column-entries.ensures c.in_ok-cost.cost c.in_ok-cost.ensures
    c.whole.result c.whole.ensures c.in_ok-sum.sum c.in_ok-sum.ensures c.in_ok-reduced.reduced c.in_ok-reduced.ensures
    (c.lp.inside.rows + c.args.column) c.value_of.result n c.value_of.ensures
