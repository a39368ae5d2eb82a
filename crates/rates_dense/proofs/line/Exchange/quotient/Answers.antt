use Rattle.std.proofs.Common.{refl}
use Rattle.rates_dense.proofs.line.Exchange.quotient.Goals as goal
use Rattle.lp_laws.proofs.Idle.{left_nothing_over}

pub returns-then-is_zero-clause-value : goal.returns-then-is_zero-clause-value
returns-then-is_zero-clause-value c = left_nothing_over c.args.rate c.args.pivot (c.if-is_zero.ensures.0 refl)
