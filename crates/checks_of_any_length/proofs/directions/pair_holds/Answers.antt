use Rattle.std.proofs.Common.{List, length, ap, subst, ◌∙◌}
use Rattle.std.specs.Prelude.{◌&&◌}
use Rattle.exact_values.specs.Rational.{ℚ}
use Rattle.exact_values.specs.Tests.{eq_ℚ}
use Rattle.lp_definitions.specs.LinearProgram.{LinearProgram, value_at}
use Rattle.long_vectors.specs.Vectors.{IsOver}
use Rattle.long_programs.specs.Programs.{program_of}
use Rattle.checks_of_any_length.proofs.Claiming.{objective_row, pair_shown}
use Rattle.checks_of_any_length.proofs.directions.pair_holds.Goals as goal

pub point_holds-requires-clause-point : goal.point_holds-requires-clause-point
point_holds-requires-clause-point c = (c.deref.result.now, c.in_ok-point.ensures, ap length c.deref.ensures.value ∙ c.requires.pair.0)

pub direction_holds-requires-clause-places : goal.direction_holds-requires-clause-places
direction_holds-requires-clause-places c = c.in_ok-direction.ensures.counted ∙ ap length c.deref-2.ensures.value ∙ c.requires.pair.1

pub returns : goal.returns
returns c = λ x is.
    let p = c.args.at.now.program.lp.now in
    let change = c.args.at.now.program.change in
    let q = program_of p change x in
    let pair = c.args.pair.now in
    let objective = c.args.objective.now in
    let point = subst (λ (z : List ℚ). IsOver z c.in_ok-point.point) c.deref.ensures.value c.in_ok-point.ensures in
    let direction = subst (λ (d : List ℚ). IsOver d c.in_ok-direction.direction) c.deref-2.ensures.value c.in_ok-direction.ensures in
    let row = ap (λ (p : LinearProgram). p.objective) c.lp.view_is ∙ objective_row p change x in
    pair_shown q objective pair c.in_ok-begins.begins c.in_ok-goes_on.goes_on c.in_ok-is_value.is_value c.both.result
    (c.in_ok-begins.ensures x pair.point.items is point)
    (c.in_ok-goes_on.ensures x pair.direction.items is direction)
    (c.in_ok-is_value.ensures objective pair.point.items c.in_ok-own.ensures point ∙ ap (λ k. eq_ℚ objective (value_at pair.point.items k)) row)
    (c.both.ensures ∙ ap (λ b. b && c.in_ok-is_value.is_value) c.both-proof.ensures)
