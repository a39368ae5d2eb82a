use Rattle.rates_dense.specs.Opening.{AreInOrder}
use Rattle.rates_dense.proofs.opening.opening_slots.Given as goal

-- the slots so far
abbrev pub invariant-loop-k : goal.invariant-loop-k
invariant-loop-k l = AreInOrder l.k l.slots.items
