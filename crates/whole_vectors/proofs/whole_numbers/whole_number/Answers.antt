use Rattle.std.proofs.Common.{rules, sym, ◌∙◌, ap}
use Rattle.exact_values.specs.Rational.{whole}
use Rattle.frac128.proofs.Parts.{read_fitting}
use Rattle.whole_vectors.proofs.Words.{is_whole, is_one}
use Rattle.whole_vectors.proofs.whole_numbers.whole_number.Goals as goal

pub returns-clause-value : goal.returns-clause-value
returns-clause-value c =
    ap whole (read_fitting c.num.result c.num.ensures.fits ∙ c.num.ensures.value)
    ∙ is_whole c.args.x (is_one c.args.x.denominator (sym c.den.ensures.value ∙ search rules))
