use Rattle.std.proofs.Common.{◌≡◌, ◌∙◌, ap, sym}
use Rattle.exact_values.specs.Rational.{zero_ℚ, ◌+ℚ◌, ◌*ℚ◌}
use Rattle.exact_values.proofs.RingLaws.{zero-mul, add-zero}
use Rattle.price_row.proofs.exact.exactly_added.Goals as goal

pub returns-then-is_zero : goal.returns-then-is_zero
returns-then-is_zero c =
    let none : c.args.x ≡ zero_ℚ = c.is_zero.ensures.0 c.if-is_zero.true in
    sym (ap (λ x. c.args.sum +ℚ x *ℚ c.args.y) none ∙ ap (λ v. c.args.sum +ℚ v) (zero-mul c.args.y) ∙ add-zero c.args.sum)
