use Rattle.lp_definitions.specs.LinearProgram.{value_at}
use Rattle.checks_of_128_bits.proofs.ClosingSums.{ShiftsLeft}
use Rattle.checks_of_128_bits.proofs.closing_tests.shift_sum.Given as goal

-- the rows that are left are to be added to the sum so far
abbrev pub invariant-loop-place : goal.invariant-loop-place
invariant-loop-place l = ShiftsLeft (value_at l.ray) l.shift l.sheet.lp.now.rows l.place l.sum
