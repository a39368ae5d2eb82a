use Rattle.std.proofs.Common.{rules, ◌≡◌, ℕ, sym, subst}
use Rattle.std.proofs.lemmas.Result.{err_from_is_err_and}
use Rattle.exact_values.specs.Rational.{ℚ}
use Rattle.lp_definitions.specs.LinearProgram.{value_at, size}
use Rattle.certificate_check.proofs.Limits.{LimitsLeft, limits_left, limits_next, limits_stopped, limits_done}
use Rattle.certificate_check.proofs.ray.limit_sum.Goals as goal

pub returns-in_err-sum : goal.returns-in_err-sum
returns-in_err-sum c =
    let p = err_from_is_err_and c.from_residual.result c.from_residual.ensures.1 in
    rw (p.1, p.2)
    (limits_stopped c.args.lp.now (value_at c.args.ray.now) c.loop-i.i c.loop-i.sum c.loop-i.invariant
    (search rules) c.in_err-sum.field-0.0 c.in_err-sum.ensures)

pub loop-i-init : goal.loop-i-init
loop-i-init c =
    subst (λ (s : ℚ). LimitsLeft c.args.lp.now (value_at c.args.ray.now) 0 s) (sym c.whole-sum.ensures) (limits_left c.args.lp.now (value_at c.args.ray.now))

pub loop-i-preserved : goal.loop-i-preserved
loop-i-preserved c =
    limits_next c.args.lp.now (value_at c.args.ray.now) c.loop-i.i c.loop-i.sum c.loop-i.invariant (search rules) c.in_ok-sum.sum c.in_ok-sum.ensures

pub returns : goal.returns
returns c =
    let at_end : c.loop-i.i ≡ size c.args.lp.now.matrix = search rules in
    limits_done c.args.lp.now (value_at c.args.ray.now) c.loop-i.sum
    (subst (λ (k : ℕ). LimitsLeft c.args.lp.now (value_at c.args.ray.now) k c.loop-i.sum) at_end c.loop-i.invariant)
