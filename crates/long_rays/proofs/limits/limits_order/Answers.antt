use Rattle.std.proofs.Common.{◌≡◌, ◌+◌, true, false, ap, sym, ◌∙◌, arith, rules}
use Rattle.exact_values.specs.Rational.{whole, ◌*ℚ◌}
use Rattle.exact_values.proofs.Order.{mul-positive}
use Rattle.lp_definitions.specs.LinearProgram.{value_at, size}
use Rattle.long_programs.specs.Programs.{program_of}
use Rattle.long_programs.proofs.Moves.{matrix_at}
use Rattle.long_rays.proofs.Meeting.{met_begins, met_goes_on, all_sum, one_unmet}
use Rattle.long_rays.proofs.limits.limits_order.Goals as goal

pub loop-i-init : goal.loop-i-init
loop-i-init c = λ w x over is.
    met_begins (program_of c.args.at.now.program.lp.now c.args.at.now.program.change x) (value_at w) c.in_ok-sum.sum
    (whole c.args.ray.now.bottom *ℚ whole c.args.at.now.theta.now.bottom) c.in_ok-sum.ensures

pub loop-i-preserved : goal.loop-i-preserved
loop-i-preserved c = λ w x over is.
    let q = program_of c.args.at.now.program.lp.now c.args.at.now.program.change x in
    let passed : c.in_ok-met.met ≡ true = search rules in
    met_goes_on q (value_at w) c.loop-i.i c.in_ok-met.met c.loop-i.sum c.add_met.new.sum (whole c.args.ray.now.bottom *ℚ whole c.args.at.now.theta.now.bottom)
    (c.loop-i.invariant w x over is) passed
    (c.in_ok-met.ensures w x over is)

pub returns-then-not-met : goal.returns-then-not-met
returns-then-not-met c = λ w x over is.
    let q = program_of c.args.at.now.program.lp.now c.args.at.now.program.change x in
    let same : size q.matrix ≡ size c.args.at.now.program.lp.now.matrix = ap size (matrix_at c.args.at.now.program.lp.now c.args.at.now.program.change x) in
    let failed : c.in_ok-met.met ≡ false = search rules in
    one_unmet q (value_at w) (c.loop-i.i + 1) c.in_ok-met.met c.loop-i.sum c.add_met.new.sum (whole c.args.ray.now.bottom *ℚ whole c.args.at.now.theta.now.bottom)
    (omega arith, omega (arith, same, c.number_of_variables-i-end.ensures.size, c.loop-i-test.true)) failed (c.in_ok-met.ensures w x over is)

pub returns : goal.returns
returns c = λ w x over is.
    let q = program_of c.args.at.now.program.lp.now c.args.at.now.program.change x in
    let same : size q.matrix ≡ size c.args.at.now.program.lp.now.matrix = ap size (matrix_at c.args.at.now.program.lp.now c.args.at.now.program.change x) in
    let end : c.loop-i.i ≡ c.number_of_variables-i-end.result = search rules in
    all_sum q (value_at w) c.loop-i.i c.loop-i.sum (whole c.args.ray.now.bottom *ℚ whole c.args.at.now.theta.now.bottom) c.sign.result
    (end ∙ c.number_of_variables-i-end.ensures.size ∙ sym same)
    (mul-positive over.positive is.positive) (c.loop-i.invariant w x over is) c.sign.ensures
