use Rattle.std.proofs.Common.{List, ap, sym, subst, ◌∙◌}
use Rattle.std.specs.Prelude.{IsTrue, ◌↔◌, ◌&&◌}
use Rattle.exact_values.specs.Rational.{zero_ℚ}
use Rattle.exact_values.specs.Tests.{is_less, lt_ℚ}
use Rattle.lp_definitions.specs.declared.Sense.{Sense}
use Rattle.lp_definitions.specs.LinearProgram.{value_at, for_min, objective_value}
use Rattle.check_definitions.specs.Steps.{Step, AllHold}
use Rattle.long_programs.specs.Programs.{program_of}
use Rattle.long_programs.proofs.Moves.{sense_at}
use Rattle.long_points.proofs.AtTheta.{equations_at}
use Rattle.checks_of_any_length.proofs.Claiming.{direction_shown}
use Rattle.checks_of_any_length.proofs.directions.direction_holds.Goals as goal

pub returns : goal.returns
returns c = λ x d is over.
    let p = c.args.at.now.program.lp.now in
    let change = c.args.at.now.program.change in
    let q = program_of p change x in
    let v = value_at d in
    let keeps = c.in_ok-keeps.keeps in
    let improves =
    c.is_lt-improves.ensures ∙ ap is_less (c.in_ok-order.ensures d x over is)
    ∙ ap (λ (s : Sense). lt_ℚ (for_min s (objective_value q v)) zero_ℚ) (sym (sense_at p change x)) in
    direction_shown q v keeps c.direction_is_free-free.result c.is_lt-improves.result c.both.result
    (subst (λ (steps : List Step). IsTrue keeps ↔ AllHold steps) (sym (equations_at p change x 3 v)) (c.in_ok-keeps.ensures d over 3))
    (c.direction_is_free-free.ensures change x d over) improves
    (c.both.ensures ∙ ap (λ b. keeps && b) c.both-rest.ensures)
