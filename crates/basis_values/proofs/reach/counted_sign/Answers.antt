use Rattle.std.proofs.Common.{◌∙◌, ap, sym}
use Rattle.exact_values.specs.Rational.{sign_ℚ}
use Rattle.simplex_definitions.specs.Moves.{signed}
use Rattle.basis_values.proofs.Lengths.{turned_sign}
use Rattle.basis_values.proofs.reach.counted_sign.Goals as goal

pub returns-else-up : goal.returns-else-up
returns-else-up c =
    turned_sign c.args.value.now c.sign-else-up.result c.sign-else-up.ensures ∙ ap (λ up. sign_ℚ (signed up c.args.value.now)) (sym c.if-up.false)
