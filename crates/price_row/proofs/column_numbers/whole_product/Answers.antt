use Rattle.std.proofs.Common.{◌∙◌, sym, ap}
use Rattle.std.specs.Prelude.{◌*ℤ◌}
use Rattle.frac128.proofs.Parts.{read_fitting}
use Rattle.price_row.proofs.ColumnNumbers.{multiplied}
use Rattle.price_row.proofs.column_numbers.whole_product.Goals as goal

pub returns-clause-value : goal.returns-clause-value
returns-clause-value c =
    multiplied c.product.result _ _ _ c.in_ok-times.times c.args.multiple c.args.x (read_fitting c.num.result c.num.ensures.fits ∙ c.num.ensures.value)
    (read_fitting c.in_ok-times.times c.in_ok-times.ensures.fits)
    (sym (read_fitting c.args.multiple c.requires) ∙ c.in_ok-times.ensures.value
    ∙ ap (λ d. c.in_ok-times.times *ℤ d) (read_fitting c.den.result c.den.ensures.fits ∙ c.den.ensures.value))
    c.product.ensures
