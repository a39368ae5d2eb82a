use Rattle.std.proofs.Common.{rules, ◌≡◌, ℕ, map, sym, subst}
use Rattle.exact_values.specs.Rational.{ℚ, zero_ℚ}
use Rattle.lp_definitions.specs.LinearProgram.{value_at, size}
use Rattle.check_definitions.specs.Steps.{verdict_of, sum_of}
use Rattle.check_definitions.specs.Checks.{limit_product, ray_limits, multiplied}
use Rattle.certificate_check.proofs.Limits.{LimitsLeft, limits_left, limits_next, limits_done}
use Rattle.checks_of_128_bits.proofs.Passing.{made_handed}
use Rattle.checks_of_128_bits.proofs.ClosingSums.{limits_stop}
use Rattle.checks_of_128_bits.proofs.closing_tests.limit_sum.Goals as goal

pub returns-in_err-sum : goal.returns-in_err-sum
returns-in_err-sum c =
    let p = c.args.lp.now in
    let w = value_at c.args.ray.now in
    let stop = c.in_err-sum.field-0.0 in
    made_handed (λ (sum : ℚ). sum ≡ sum_of zero_ℚ (map (limit_product p w) (multiplied p w)))
    (verdict_of (ray_limits p w zero_ℚ (multiplied p w))) c.from_residual.result stop
    (limits_stop p w c.loop-i.i c.loop-i.sum c.loop-i.invariant (search rules) stop c.in_err-sum.ensures) c.from_residual.ensures.1

pub loop-i-init : goal.loop-i-init
loop-i-init c =
    subst (λ (s : ℚ). LimitsLeft c.args.lp.now (value_at c.args.ray.now) 0 s) (sym c.whole-sum.ensures) (limits_left c.args.lp.now (value_at c.args.ray.now))

pub loop-i-preserved : goal.loop-i-preserved
loop-i-preserved c =
    limits_next c.args.lp.now (value_at c.args.ray.now) c.loop-i.i c.loop-i.sum c.loop-i.invariant (search rules) c.in_ok-sum.sum c.in_ok-sum.ensures

pub returns : goal.returns
returns c =
    let at_end : c.loop-i.i ≡ size c.args.lp.now.matrix = search rules in
    limits_done c.args.lp.now (value_at c.args.ray.now) c.loop-i.sum
    (subst (λ (k : ℕ). LimitsLeft c.args.lp.now (value_at c.args.ray.now) k c.loop-i.sum) at_end c.loop-i.invariant)
