use Rattle.std.proofs.Common.{rules}
use Rattle.lp_definitions.specs.LinearProgram.{value_at, size}
use Rattle.check_definitions.specs.Checks.{standing_price}
use Rattle.certificate_check.proofs.Each.{each_passed, each_exit}
use Rattle.certificate_check.proofs.prices.prices_stand.Goals as goal

pub returns-in_err-price_stands : goal.returns-in_err-price_stands
returns-in_err-price_stands c =
    each_exit c.from_residual.result (standing_price c.args.lp.now (value_at c.args.point.now) (value_at c.args.prices.now))
    (size c.args.lp.now.matrix) c.loop-i.i c.loop-i.invariant (search rules)
    c.in_err-price_stands.field-0.0 c.in_err-price_stands.ensures c.from_residual.ensures.1

pub loop-i-preserved : goal.loop-i-preserved
loop-i-preserved c =
    each_passed (standing_price c.args.lp.now (value_at c.args.point.now) (value_at c.args.prices.now))
    (size c.args.lp.now.matrix) c.loop-i.i c.loop-i.invariant (search rules) c.in_ok-price_stands.ensures
