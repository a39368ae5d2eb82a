use Rattle.std.proofs.Common.{rules, ℤ, pos, ◌*ℤ◌, ◌/◌, ap, ap₂, sym, to_z, of_z, ◌∙◌, arith}
use Rattle.std.specs.Int.{w128}
use Rattle.std.proofs.lemmas.Int.{to_z-of_z, to_z_pos}
use Rattle.std.proofs.Math.Nat.{div-le_self}
use Rattle.exact_values.specs.Rational.{whole}
use Rattle.bounded_primal.proofs.ScaledSteps.{own_numerator, numerator_is}
use Rattle.bounded_primal.proofs.scaled_step.numerator_over.Goals as goal

pub returns-then-den-common : goal.returns-then-den-common
returns-then-den-common c =
    let num = c.terms-num.result.0 in
    let den = c.terms-num.result.1 in
    ap whole (to_z-of_z w128 num (search rules))
    ∙ own_numerator c.args.x.now num den c.args.common c.terms-num.ensures.value c.terms-num.ensures.at_least_one
    (sym (to_z-of_z w128 den (search rules)) ∙ ap (to_z w128) c.if-den-common.true ∙ to_z_pos w128 c.args.common (omega (arith, c.ranges.common.fits)))

pub returns : goal.returns
returns c =
    let num = c.terms-num.result.0 in
    let den = c.terms-num.result.1 in
    ap whole (to_z-of_z w128 c.in_ok-scaled.scaled (search rules))
    ∙ numerator_is c.args.x.now num den c.args.common c.in_ok-own.own c.in_ok-scaled.scaled c.terms-num.ensures.value
    c.terms-num.ensures.at_least_one (search rules) c.if-common-own-ne0.false
    (c.in_ok-scaled.ensures.1
    ∙ ap₂ (λ (a b : ℤ). a *ℤ b) (to_z-of_z w128 num (search rules))
    (to_z_pos w128 (c.args.common / c.in_ok-own.own) (omega (arith, div-le_self c.args.common c.in_ok-own.own, c.ranges.common.fits))))
