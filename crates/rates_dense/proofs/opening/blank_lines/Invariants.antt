use Rattle.rates_dense.specs.Opening.{AreBlankLines}
use Rattle.rates_dense.proofs.opening.blank_lines.Given as goal

-- the lines so far
abbrev pub invariant-loop-k : goal.invariant-loop-k
invariant-loop-k l = AreBlankLines l.size l.k l.lines.items
