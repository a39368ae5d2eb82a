use Rattle.std.proofs.Common.{rules}
use Rattle.lp_definitions.specs.LinearProgram.{value_at, size}
use Rattle.check_definitions.specs.Checks.{free_to_move}
use Rattle.certificate_check.proofs.Each.{each_passed, each_exit}
use Rattle.certificate_check.proofs.direction.direction_is_free.Goals as goal

pub returns-in_err-is_free_to_move : goal.returns-in_err-is_free_to_move
returns-in_err-is_free_to_move c =
    each_exit c.from_residual.result (free_to_move c.args.lp.now (value_at c.args.direction.now)) (size c.args.lp.now.matrix) c.loop-i.i c.loop-i.invariant
    (search rules)
    c.in_err-is_free_to_move.field-0.0 c.in_err-is_free_to_move.ensures c.from_residual.ensures.1

pub loop-i-preserved : goal.loop-i-preserved
loop-i-preserved c =
    each_passed (free_to_move c.args.lp.now (value_at c.args.direction.now)) (size c.args.lp.now.matrix) c.loop-i.i c.loop-i.invariant
    (search rules) c.in_ok-is_free_to_move.ensures
