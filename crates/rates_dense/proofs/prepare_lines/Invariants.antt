use Rattle.rates_dense.proofs.ChangingLines.{ReadyTo}
use Rattle.rates_dense.proofs.prepare_lines.Given as goal

-- the lines of the list so far are ready
abbrev pub invariant-loop-slot : goal.invariant-loop-slot
invariant-loop-slot l = ReadyTo l.exchange.p l.exchange.q l.quotients l.changed l.changing l.fn.lines l.lines l.slot-index
