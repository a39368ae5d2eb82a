-- What a variable adds to the sum of a row.
--     column_part a z i k          the number on row i in the column of variable k, times the value of k; a row has no column, and adds 0
use Rattle.std.specs.Prelude.{ℕ, ◌-◌, nat_le, if◌then◌else◌}
use Rattle.exact_values.specs.Rational.{ℚ, zero_ℚ, ◌*ℚ◌}
use Rattle.lp_definitions.specs.LinearProgram.{Matrix, Vector, entry}

abbrev pub column_part : Matrix → Vector → ℕ → ℕ → ℚ
column_part a z i k = if nat_le k a.rows then zero_ℚ else entry a i (k - a.rows) *ℚ z k
