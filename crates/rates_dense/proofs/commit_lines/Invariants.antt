use Rattle.std.proofs.Common.{ℕ, ◌<◌, length}
use Rattle.rates_dense.specs.declared.line.Line.{Line}
use Rattle.rates_dense.proofs.ChangingLines.{TakenAt}
use Rattle.rates_dense.proofs.commit_lines.Given as goal

-- the lines of the list so far are committed, and the others as they were
abbrev pub invariant-loop-slot : goal.invariant-loop-slot
invariant-loop-slot l =
    (slot : ℕ) (d : Line) → slot < length l.fn.lines → TakenAt l.exchange.p l.exchange.q l.changed l.changing l.fn.lines l.lines l.slot-index slot d
