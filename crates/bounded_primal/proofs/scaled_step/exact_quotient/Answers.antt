use Rattle.std.proofs.Common.{rules, ℤ, ◌*ℤ◌, ap, to_z, of_z, sym, ◌∙◌}
use Rattle.std.specs.Prelude.{int_div}
use Rattle.std.specs.Int.{w128}
use Rattle.std.proofs.lemmas.Int.{to_z-of_z}
use Rattle.frac128.proofs.Parts.{quotient}
use Rattle.bounded_primal.proofs.ScaledSteps.{factor_fits}
use Rattle.bounded_primal.proofs.scaled_step.exact_quotient.Goals as goal

pub nonzero_div-quotient : goal.nonzero_div-quotient
nonzero_div-quotient c = (quotient c.args.n c.args.by (search rules) (search rules) c.requires.some).owed

pub returns-then-back-n-clause-value : goal.returns-then-back-n-clause-value
returns-then-back-n-clause-value c =
    let part : ℤ = to_z w128 (of_z w128 (int_div (to_z w128 (of_z w128 c.args.n)) (to_z w128 (of_z w128 c.args.by)))) in
    ap (λ (z : ℤ). part *ℤ z) (sym (to_z-of_z w128 c.args.by (search rules))) ∙ sym c.in_ok-back.ensures.1
    ∙ sym (to_z-of_z w128 c.in_ok-back.back (search rules)) ∙ ap (to_z w128) c.if-back-n.true ∙ to_z-of_z w128 c.args.n (search rules)

pub returns-then-back-n-clause-fits : goal.returns-then-back-n-clause-fits
returns-then-back-n-clause-fits c =
    let part : ℤ = to_z w128 (of_z w128 (int_div (to_z w128 (of_z w128 c.args.n)) (to_z w128 (of_z w128 c.args.by)))) in
    factor_fits part c.args.by c.args.n
    (ap (λ (z : ℤ). part *ℤ z) (sym (to_z-of_z w128 c.args.by (search rules))) ∙ sym c.in_ok-back.ensures.1
    ∙ sym (to_z-of_z w128 c.in_ok-back.back (search rules)) ∙ ap (to_z w128) c.if-back-n.true ∙ to_z-of_z w128 c.args.n (search rules))
    c.requires.some c.requires.fits
