use Rattle.std.proofs.Common.{◌∙◌, sym, ap, rules}
use Rattle.lp_definitions.specs.LinearProgram.{value_at, size}
use Rattle.check_definitions.specs.Checks.{standing_price}
use Rattle.long_programs.specs.Programs.{program_of}
use Rattle.long_programs.proofs.Moves.{matrix_at}
use Rattle.long_points.specs.Tests.{price_test}
use Rattle.long_points.proofs.Holds.{told}
use Rattle.long_points.proofs.AtTheta.{reads_price}
use Rattle.long_points.proofs.limits.prices_stand.Goals as goal

pub returns : goal.returns
returns c = λ values costs theta is over.
    let p = c.args.priced.now.point.program.lp.now in
    let q = program_of p c.args.priced.now.point.program.change theta in
    let z = value_at values in
    let y = value_at costs in
    told (standing_price q z y) (price_test q z y) (reads_price q z y) c.number_of_variables-variables.result (size q.matrix)
    (c.number_of_variables-variables.ensures.size ∙ sym (ap size (matrix_at p c.args.priced.now.point.program.change theta))) c.in_ok-holds.holds
    (c.in_ok-holds.ensures (price_test q z y) (λ k holds first last met. search rules))
