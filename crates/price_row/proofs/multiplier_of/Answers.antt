use Rattle.price_row.proofs.RowSteps.{other_multiplier}
use Rattle.price_row.proofs.multiplier_of.Goals as goal

pub returns-clause-value : goal.returns-clause-value
returns-clause-value c =
    other_multiplier c.args.file.now c.args.i c.args.k c.in_ok-rate.rate c.neg.result c.requires.row c.if-k-i.false c.in_ok-rate.ensures.value c.neg.ensures
