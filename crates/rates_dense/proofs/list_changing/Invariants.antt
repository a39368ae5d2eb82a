use Rattle.std.proofs.Common.{◌≤◌}
use Rattle.rates_dense.proofs.ChangingLines.{ChangingTo}
use Rattle.rates_dense.proofs.list_changing.Given as goal

-- the lines so far that change are listed
abbrev pub invariant-loop-slot : goal.invariant-loop-slot
invariant-loop-slot l = record { within : l.count ≤ l.slot; listed : ChangingTo l.exchange.p l.exchange.q l.lines l.changing l.slot l.count }
