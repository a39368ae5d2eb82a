use Rattle.std.proofs.Common.{rules, sym, ◌∙◌, ap}
use Rattle.exact_values.specs.Rational.{whole}
use Rattle.whole_vectors.proofs.Words.{is_whole, is_one, word_is}
use Rattle.whole_vectors.proofs.word_vectors.word.Goals as goal

pub returns-in-Ok : goal.returns-in-Ok
returns-in-Ok c =
    ap whole (word_is c.in-Ok.n c.num.result c.args.x.numerator c.in-Ok.ensures.0 c.in-Ok.ensures.1 c.num.ensures.fits c.num.ensures.value)
    ∙ is_whole c.args.x (is_one c.args.x.denominator (sym c.den.ensures.value ∙ search rules))
