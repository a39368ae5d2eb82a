use Rattle.rates_dense.proofs.Values.{product_turned}
use Rattle.rates_dense.proofs.line.product_by_unit.Goals as goal

pub returns : goal.returns
returns c = product_turned c.args.x c.args.y c.by_unit-2.result c.by_unit-2.ensures.product
