use Rattle.lp_definitions.specs.LinearProgram.{value_at, lower_of, upper_of}
use Rattle.long_programs.specs.Programs.{program_of, shift_at}
use Rattle.long_programs.proofs.Compared.{order_at}
use Rattle.long_programs.proofs.Moves.{lower_at, upper_at}
use Rattle.long_programs.proofs.limits.compare_to_limits.Goals as goal

pub returns : goal.returns
returns c = λ values theta is.
    let p = c.args.point.now.program.lp.now in
    let change = c.args.point.now.program.change in
    let q = program_of p change theta in
    let k = c.args.k in
    let x = value_at values k in
    record {
      lower = order_at theta c.shift_at-shift.result (shift_at p change k) x c.lower_limit.result (lower_of p k) (lower_of q k) c.in_ok-lower.lower
          (c.in_ok-lower.ensures values theta is) c.shift_at-shift.ensures c.lower_limit.ensures (lower_at p change theta k c.requires);
      upper = order_at theta c.shift_at-shift.result (shift_at p change k) x c.upper_limit.result (upper_of p k) (upper_of q k) c.in_ok-upper.upper
          (c.in_ok-upper.ensures values theta is) c.shift_at-shift.ensures c.upper_limit.ensures (upper_at p change theta k c.requires);
    }
