use Rattle.std.proofs.Common.{◌∙◌, sym, ap, ap₂}
use Rattle.std.specs.Prelude.{unsigned_abs}
use Rattle.exact_values.specs.Rational.{fraction}
use Rattle.exact_values.proofs.Fractions.{parts_make}
use Rattle.frac128.proofs.Parts.{read_fitting}
use Rattle.lp_model.specs.Ratios.{number_of}
use Rattle.lp_model.proofs.ratio.Ratio.terms.Goals as goal

pub returns-in-Lowest-clause-value : goal.returns-in-Lowest-clause-value
returns-in-Lowest-clause-value c =
    ap₂ fraction (read_fitting c.num.result c.num.ensures.fits ∙ c.num.ensures.value)
    (ap unsigned_abs (read_fitting c.den.result c.den.ensures.fits ∙ c.den.ensures.value)) ∙ parts_make c.in-Lowest.x
    ∙ ap number_of (sym c.in-Lowest.is) ∙ c.self.view_is
