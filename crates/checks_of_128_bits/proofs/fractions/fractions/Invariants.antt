use Rattle.std.proofs.Common.{◌≡◌, take}
use Rattle.checks_of_128_bits.proofs.fractions.fractions.Given as goal

-- the fractions so far are made
abbrev pub invariant-loop-number : goal.invariant-loop-number
invariant-loop-number l = l.values.items ≡ take l.number-index l.numbers
