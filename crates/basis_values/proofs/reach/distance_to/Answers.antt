use Rattle.basis_values.proofs.Lengths.{nothing_less}
use Rattle.basis_values.proofs.reach.distance_to.Goals as goal

pub returns-then-is_zero : goal.returns-then-is_zero
returns-then-is_zero c = nothing_less c.args.limit c.args.value.now c.neg.result (c.is_zero.ensures.0 c.if-is_zero.true) c.neg.ensures
