use Rattle.std.proofs.Common.{List, ap, subst, ◌∙◌}
use Rattle.std.specs.Prelude.{IsTrue, ◌↔◌, ◌&&◌}
use Rattle.lp_definitions.specs.LinearProgram.{value_at}
use Rattle.check_definitions.specs.Steps.{Step, AllHold}
use Rattle.long_programs.specs.Programs.{program_of}
use Rattle.checks_of_any_length.proofs.Claiming.{columns_at, ray_shown}
use Rattle.checks_of_any_length.proofs.rays.ray_holds.Goals as goal

pub returns : goal.returns
returns c = λ x is.
    let p = c.args.at.now.program.lp.now in
    let change = c.args.at.now.program.change in
    let w = value_at c.args.ray.now in
    let over = c.in_ok-column.ensures in
    let vanishes = c.in_ok-vanishes.vanishes in
    ray_shown (program_of p change x) w c.in_ok-order.order vanishes c.both.result (c.in_ok-order.ensures c.args.ray.now x over is)
    (subst (λ (steps : List Step). IsTrue vanishes ↔ AllHold steps) (columns_at p change x w) (c.in_ok-vanishes.ensures c.args.ray.now over))
    (c.both.ensures ∙ ap (λ b. vanishes && b) c.is_negative-contradicts.ensures)
