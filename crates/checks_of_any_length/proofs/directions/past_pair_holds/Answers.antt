use Rattle.std.proofs.Common.{List, length, ap, subst, ◌∙◌}
use Rattle.std.specs.Prelude.{◌&&◌}
use Rattle.exact_values.specs.Rational.{ℚ}
use Rattle.lp_definitions.specs.LinearProgram.{value_at}
use Rattle.long_vectors.specs.Vectors.{IsOver}
use Rattle.long_programs.specs.declared.programs.ChangeAt.TheVariants.{Unchanged}
use Rattle.checks_of_any_length.proofs.Claiming.{past_pair_shown}
use Rattle.checks_of_any_length.proofs.directions.past_pair_holds.Goals as goal

pub point_holds-requires-clause-point : goal.point_holds-requires-clause-point
point_holds-requires-clause-point c = (c.deref.result.now, c.in_ok-point.ensures, ap length c.deref.ensures.value ∙ c.requires.pair.0)

pub equations_hold-requires : goal.equations_hold-requires
equations_hold-requires c = c.in_ok-direction.ensures.counted ∙ ap length c.deref-2.ensures.value ∙ c.requires.pair.1

pub direction_is_free-free-requires : goal.direction_is_free-free-requires
direction_is_free-free-requires c = c.in_ok-direction.ensures.counted ∙ ap length c.deref-2.ensures.value ∙ c.requires.pair.1

pub past_improves-requires-clause-places : goal.past_improves-requires-clause-places
past_improves-requires-clause-places c = c.in_ok-direction.ensures.counted ∙ ap length c.deref-2.ensures.value ∙ c.requires.pair.1

pub returns : goal.returns
returns c = λ x problem changing is.
    let p = c.args.lp.now in
    let pair = c.args.pair.now in
    let z = pair.point.items in
    let d = pair.direction.items in
    let point = subst (λ (z : List ℚ). IsOver z c.in_ok-point.point) c.deref.ensures.value c.in_ok-point.ensures in
    let direction = subst (λ (d : List ℚ). IsOver d c.in_ok-direction.direction) c.deref-2.ensures.value c.in_ok-direction.ensures in
    let begins = c.in_ok-begins.begins in
    let keeps = c.in_ok-keeps.keeps in
    past_pair_shown (record { problem = problem; lp = p }) changing c.args.row x (value_at z)
    (value_at d) begins keeps c.direction_is_free-free.result c.in_ok-improves.improves c.both.result
    (c.in_ok-begins.ensures x z is point) (c.in_ok-keeps.ensures d direction 3) (c.direction_is_free-free.ensures Unchanged x d direction)
    (c.in_ok-improves.ensures x d is direction)
    (c.both.ensures ∙ ap (λ b. begins && b) (c.both-rest.ensures ∙ ap (λ b. keeps && b) c.both-last.ensures))
