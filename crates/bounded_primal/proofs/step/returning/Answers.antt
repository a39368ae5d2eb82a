use Rattle.std.proofs.Common.{◌≡◌, ◌∙◌, Err, rules, arith}
use Rattle.std.specs.Prelude.{unwrap_or}
use Rattle.exact_values.specs.Rational.{zero_ℚ}
use Rattle.lp_definitions.specs.LinearProgram.{value_at}
use Rattle.simplex_definitions.specs.Formulas.{limit_numbered, number_of_limit}
use Rattle.bounded_primal.proofs.Returns.{distance_refused, change_refused}
use Rattle.bounded_primal.proofs.step.returning.Goals as goal
use Rattle.lp_laws.proofs.Places.{value_read}

pub returns-in_err-distance-clause-refused : goal.returns-in_err-distance-clause-refused
returns-in_err-distance-clause-refused c =
    let is_err : c.from_residual.result ≡ Err c.in_err-distance.field-0.0 = search rules in
    let limit_is : c.unwrap_or-limit.result ≡ unwrap_or (limit_numbered c.args.lp.now c.args.p (number_of_limit c.args.to)) zero_ℚ = search rules in
    rw is_err (distance_refused c.args.lp.now (value_at c.args.point.now)
    (value_at c.args.direction.now) c.args.q c.args.p c.args.to c.in_err-distance.field-0.0 c.number_of-number.result c.unwrap_or-limit.result
    c.reduced-value.result
    c.requires.limit c.number_of-number.ensures limit_is
    (c.reduced-value.ensures
    ∙ value_read c.args.point.now c.args.p c.index-point-p.result (omega (arith, c.requires.variable.0, c.requires.variable.1)) c.index-point-p.is)
    c.formula.result c.formula.ensures c.in_err-distance.ensures.refused)

pub returns-in_err-step-clause-refused : goal.returns-in_err-step-clause-refused
returns-in_err-step-clause-refused c =
    let is_err : c.from_residual-in_err-step.result ≡ Err c.in_err-step.field-0.0 = search rules in
    let limit_is : c.unwrap_or-limit.result ≡ unwrap_or (limit_numbered c.args.lp.now c.args.p (number_of_limit c.args.to)) zero_ℚ = search rules in
    rw is_err (change_refused c.args.lp.now (value_at c.args.point.now)
    (value_at c.args.direction.now) c.args.q c.args.p c.args.to c.in_err-step.field-0.0 c.number_of-number.result c.unwrap_or-limit.result
    c.reduced-value.result
    c.requires.limit c.number_of-number.ensures limit_is
    (c.reduced-value.ensures
    ∙ value_read c.args.point.now c.args.p c.index-point-p.result (omega (arith, c.requires.variable.0, c.requires.variable.1)) c.index-point-p.is)
    c.in_ok-distance.distance c.reduced-rate.result c.in_ok-distance.ensures.value
    (c.reduced-rate.ensures
    ∙ value_read c.args.direction.now c.args.p c.index-direction-p.result
    (omega (arith, c.requires.variable.0, c.requires.variable.1)) c.index-direction-p.is)
    c.formula-2.result c.formula-2.ensures c.in_err-step.ensures.refused c.in_err-step.ensures.divides)
