use Rattle.std.proofs.Common.{sym, ◌∙◌, ap, pos, arith}
use Rattle.std.proofs.lemmas.Int.{ints}
use Rattle.exact_values.specs.Rational.{whole}
use Rattle.exact_values.proofs.Inverse.{whole_numerator, numerator_of_zero}
use Rattle.frac128.proofs.Parts.{read_fitting}
use Rattle.whole_vectors.proofs.Over.{numerator_is}
use Rattle.whole_vectors.proofs.terms.Goals as goal

pub returns-clause-product : goal.returns-clause-product
returns-clause-product c =
    numerator_is c.args.x c.whole.result c.whole-2.result
    (c.whole.ensures ∙ ap whole (read_fitting c.num.result c.num.ensures.fits ∙ c.num.ensures.value))
    (c.whole-2.ensures ∙ ap whole (read_fitting c.den.result c.den.ensures.fits ∙ c.den.ensures.value))

pub returns-clause-apart : goal.returns-clause-apart
returns-clause-apart c none =
    let is = c.whole-2.ensures ∙ ap whole (read_fitting c.den.result c.den.ensures.fits ∙ c.den.ensures.value) in
    let nought = sym (whole_numerator (pos c.args.x.denominator)) ∙ numerator_of_zero (whole (pos c.args.x.denominator)) (sym is ∙ none) in
    absurd (omega (arith, ints, nought, c.args.x.positive))
