use Rattle.std.proofs.Common.{◌∙◌, refl}
use Rattle.rates_dense.proofs.line.Exchange.difference.Goals as goal
use Rattle.lp_laws.proofs.Idle.{left_difference}

pub returns-then-is_zero-clause-value : goal.returns-then-is_zero-clause-value
returns-then-is_zero-clause-value c = c.neg.ensures ∙ left_difference c.args.rate c.args.product (c.if-is_zero.ensures.0 refl)
