use Rattle.std.proofs.Common.{rules}
use Rattle.lp_definitions.specs.LinearProgram.{value_at}
use Rattle.check_definitions.specs.Checks.{equation}
use Rattle.certificate_check.proofs.Each.{each_passed, each_exit}
use Rattle.certificate_check.proofs.point.equations_hold.Goals as goal

pub returns-in_err-equation_holds : goal.returns-in_err-equation_holds
returns-in_err-equation_holds c =
    each_exit c.from_residual.result (equation c.args.lp.now c.args.part (value_at c.args.values.now)) c.args.lp.now.rows c.loop-i.i c.loop-i.invariant
    (search rules)
    c.in_err-equation_holds.field-0.0 c.in_err-equation_holds.ensures c.from_residual.ensures.1

pub loop-i-preserved : goal.loop-i-preserved
loop-i-preserved c =
    each_passed (equation c.args.lp.now c.args.part (value_at c.args.values.now)) c.args.lp.now.rows c.loop-i.i c.loop-i.invariant
    (search rules) c.in_ok-equation_holds.ensures
