use Rattle.std.proofs.Common.{rules}
use Rattle.lp_definitions.specs.LinearProgram.{size}
use Rattle.certificate_check.proofs.Each.{each_left}
use Rattle.checks_of_128_bits.specs.Intervals.{kept_steps}
use Rattle.checks_of_128_bits.proofs.Passing.{each_exit, each_goes_on, each_ends}
use Rattle.checks_of_128_bits.proofs.interval_tests.check_kept.Goals as goal

pub loop-i-init : goal.loop-i-init
loop-i-init c = each_left (kept_steps c.args.start.now c.args.end.now) (size c.args.start.now.program.matrix)

pub returns-in_err-check_prices_of : goal.returns-in_err-check_prices_of
returns-in_err-check_prices_of c =
    each_exit (kept_steps c.args.start.now c.args.end.now)
    (size c.args.start.now.program.matrix) c.loop-i.i c.from_residual.result c.in_err-check_prices_of.field-0.0
    c.loop-i.invariant (search rules) c.in_err-check_prices_of.ensures c.from_residual.ensures.1

pub loop-i-preserved : goal.loop-i-preserved
loop-i-preserved c =
    each_goes_on (kept_steps c.args.start.now c.args.end.now) (size c.args.start.now.program.matrix) c.loop-i.i c.loop-i.invariant
    (search rules) c.in_ok-check_prices_of.ensures

pub returns : goal.returns
returns c = each_ends (kept_steps c.args.start.now c.args.end.now) (size c.args.start.now.program.matrix) c.loop-i.i (search rules) c.loop-i.invariant
