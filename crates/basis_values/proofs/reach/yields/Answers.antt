use Rattle.std.proofs.Common.{◌∙◌, ap, ap₂, arith, sym, subst}
use Rattle.std.specs.Prelude.{Some}
use Rattle.exact_values.specs.Rational.{ℚ}
use Rattle.basis_values.specs.Reach.{IsAhead}
use Rattle.exact_values.specs.Tests.{lt_ℚ}
use Rattle.lp_definitions.specs.LinearProgram.{value_at}
use Rattle.simplex_definitions.specs.Moves.{signed}
use Rattle.basis_values.proofs.Places.{before_yields, within_yields}
use Rattle.basis_values.proofs.reach.yields.Goals as goal
use Rattle.lp_laws.proofs.Places.{value_read}

pub returns-then-k-first : goal.returns-then-k-first
returns-then-k-first c =
    before_yields c.args.lp.now (value_at c.args.point.now) (value_at c.args.direction.now) c.args.up c.args.k c.args.first.now c.counted-speed.result
    (c.counted-speed.ensures ∙ ap (signed c.args.up) (c.reduced.ensures ∙ value_read c.args.direction.now c.args.k c.index-direction-k.result (omega arith)
    c.index-direction-k.is))
    c.in-Some.ahead c.reduced-value.result c.in-Some-plus_product.place c.is_less-rises.result
    (subst (λ (x : ℚ). IsAhead c.args.lp.now (λ _. x) c.args.k (Some c.in-Some.ahead))
    (sym (c.counted-speed.ensures ∙ ap (signed c.args.up) c.reduced.ensures)) c.in-Some.ensures)
    (c.reduced-value.ensures ∙ value_read c.args.point.now c.args.k c.index-point-k.result (omega arith) c.index-point-k.is) c.in-Some-plus_product.ensures
    (c.is_less-rises.ensures ∙ ap (λ x. lt_ℚ x c.counted-speed.result) c.whole.ensures)
    c.is_less.result (c.is_less.ensures ∙ ap₂ lt_ℚ c.counted-place.ensures c.counted-limit.ensures)

pub returns-else-k-first : goal.returns-else-k-first
returns-else-k-first c =
    within_yields c.args.lp.now (value_at c.args.point.now) (value_at c.args.direction.now) c.args.up c.args.k c.args.first.now c.counted-speed.result
    (c.counted-speed.ensures ∙ ap (signed c.args.up) (c.reduced.ensures ∙ value_read c.args.direction.now c.args.k c.index-direction-k.result (omega arith)
    c.index-direction-k.is))
    c.in-Some.ahead c.reduced-value.result c.in-Some-plus_product.place c.is_less-rises.result
    (subst (λ (x : ℚ). IsAhead c.args.lp.now (λ _. x) c.args.k (Some c.in-Some.ahead))
    (sym (c.counted-speed.ensures ∙ ap (signed c.args.up) c.reduced.ensures)) c.in-Some.ensures)
    (c.reduced-value.ensures ∙ value_read c.args.point.now c.args.k c.index-point-k.result (omega arith) c.index-point-k.is) c.in-Some-plus_product.ensures
    (c.is_less-rises.ensures ∙ ap (λ x. lt_ℚ x c.counted-speed.result) c.whole.ensures)
    c.if-k-first.false
    c.is_less-else-k-first.result (c.is_less-else-k-first.ensures ∙ ap₂ lt_ℚ c.counted-limit.ensures c.counted-place.ensures)
