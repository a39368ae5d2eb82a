use Rattle.std.proofs.Common.{◌≡◌, ◌+◌, List, map}
use Rattle.exact_values.specs.Rational.{ℚ}
use Rattle.lp_definitions.specs.LinearProgram.{numbers_from}
use Rattle.answer_definitions.specs.Lines.{row_numbers}
use Rattle.checks_of_128_bits.specs.Making.{AreLimits, low_at, high_at}
use Rattle.checks_of_128_bits.proofs.families.with_columns.Given as goal

-- the limits of the columns so far are added
abbrev pub invariant-loop-j : goal.invariant-loop-j
invariant-loop-j l =
    (shift : List ℚ) (theta : ℚ) → AreLimits l.lp shift theta (row_numbers l.lp) l.fn.limits →
    (l.lower.items ≡ map (low_at l.lp shift theta) (numbers_from 1 (l.lp.rows + l.j))) ×
    (l.upper.items ≡ map (high_at l.lp shift theta) (numbers_from 1 (l.lp.rows + l.j)))
