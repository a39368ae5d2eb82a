use Rattle.std.proofs.Common.{Bool, List, sym, subst}
use Rattle.std.specs.Prelude.{IsTrue, ◌↔◌}
use Rattle.lp_definitions.specs.LinearProgram.{value_at}
use Rattle.check_definitions.specs.Steps.{Step, AllHold}
use Rattle.check_definitions.specs.Checks.{equations, within_limits, feasible_point}
use Rattle.long_programs.specs.Programs.{program_of}
use Rattle.long_points.proofs.Holds.{both_hold}
use Rattle.long_points.proofs.AtTheta.{equations_at}
use Rattle.long_points.proofs.limits.feasible.Goals as goal

pub returns : goal.returns
returns c = λ values theta is.
    let p = c.args.point.now.program.lp.now in
    let change = c.args.point.now.program.change in
    let q = program_of p change theta in
    let z = value_at values in
    subst (λ (b : Bool). IsTrue b ↔ AllHold (feasible_point q z)) (sym c.both.ensures)
    (both_hold c.in_ok-keeps.keeps c.in_ok-within.within (equations q 1 z) (within_limits q z)
    (subst (λ (steps : List Step). IsTrue c.in_ok-keeps.keeps ↔ AllHold steps) (sym (equations_at p change theta 1 z))
    (c.in_ok-keeps.ensures values is.is_over 1))
    (c.in_ok-within.ensures values theta is))
