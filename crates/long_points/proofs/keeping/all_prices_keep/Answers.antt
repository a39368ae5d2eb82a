use Rattle.std.proofs.Common.{rules}
use Rattle.lp_definitions.specs.LinearProgram.{size}
use Rattle.long_programs.specs.Programs.{program_of}
use Rattle.long_points.specs.Ends.{kept_steps, keeping_test}
use Rattle.long_points.proofs.Holds.{told}
use Rattle.long_points.proofs.AtTheta.{reads_keeping}
use Rattle.long_points.proofs.keeping.all_prices_keep.Goals as goal

pub returns : goal.returns
returns c = λ first last from to is also.
    let p = program_of c.args.ends.now.program.lp.now c.args.ends.now.program.change from in
    let q = program_of c.args.ends.now.program.lp.now c.args.ends.now.program.change to in
    told (kept_steps p q first last) (keeping_test p q first last) (reads_keeping p q first last) c.number_of_variables-variables.result
    (size c.args.ends.now.program.lp.now.matrix) c.number_of_variables-variables.ensures.size c.in_ok-holds.holds
    (c.in_ok-holds.ensures (keeping_test p q first last) (λ k holds low high met. search rules))
