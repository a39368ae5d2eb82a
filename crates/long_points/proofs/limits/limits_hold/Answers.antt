use Rattle.std.proofs.Common.{◌∙◌, sym, ap, rules}
use Rattle.lp_definitions.specs.LinearProgram.{value_at, size}
use Rattle.check_definitions.specs.Checks.{within_limit}
use Rattle.long_programs.specs.Programs.{program_of}
use Rattle.long_programs.proofs.Moves.{matrix_at}
use Rattle.long_points.specs.Tests.{limit_test}
use Rattle.long_points.proofs.Holds.{told}
use Rattle.long_points.proofs.AtTheta.{reads_limit}
use Rattle.long_points.proofs.limits.limits_hold.Goals as goal

pub returns : goal.returns
returns c = λ values theta is.
    let p = c.args.point.now.program.lp.now in
    let q = program_of p c.args.point.now.program.change theta in
    let z = value_at values in
    told (within_limit q z) (limit_test q z) (reads_limit q z) c.number_of_variables-variables.result (size q.matrix)
    (c.number_of_variables-variables.ensures.size ∙ sym (ap size (matrix_at p c.args.point.now.program.change theta))) c.in_ok-holds.holds
    (c.in_ok-holds.ensures (limit_test q z) (λ k holds first last met. search rules))
