use Rattle.std.proofs.Common.{refl}
use Rattle.rates_dense.proofs.Values.{less_zero}
use Rattle.rates_dense.proofs.line.Exchange.plain_rest.Goals as goal

pub returns-then-is_zero-clause-value : goal.returns-then-is_zero-clause-value
returns-then-is_zero-clause-value c = less_zero c.args.rate c.args.quotient c.args.factor (c.if-is_zero.ensures.0 refl)
