use Rattle.std.proofs.Common.{◌≡◌, ◌≢◌, sym, ◌∙◌, ap, pos, arith}
use Rattle.std.proofs.lemmas.Int.{ints}
use Rattle.exact_values.specs.Rational.{whole, zero_ℚ, ◌*ℚ◌}
use Rattle.frac128.proofs.Parts.{read_fitting}
use Rattle.whole_vectors.proofs.Over.{some_ok, apart_product}
use Rattle.whole_vectors.proofs.common_multiple.Goals as goal

pub returns : goal.returns
returns c =
    some_ok c.ok-2.result c.mul-2.result (λ v. v ≡ c.args.denominator *ℚ c.whole.result) (λ v. v ≢ zero_ℚ) c.ok-2.ensures.value
    (λ v is none.
    apart_product c.args.denominator c.whole.result (pos c.in_ok-left.left.denominator) c.requires
    (c.whole.ensures ∙ ap whole (read_fitting c.den.result c.den.ensures.fits ∙ c.den.ensures.value))
    (λ e. absurd (omega (arith, ints, e, c.in_ok-left.left.positive))) (sym is ∙ none))
    c.mul-2.ensures.value
