-- How a number of steps is reported.
--     counted_steps n        n as a count of 32 bits, which stands still at its last value
use Rattle.std.specs.Prelude.{ℕ, min}

abbrev pub last_count : ℕ
last_count = 4294967295

abbrev pub counted_steps : ℕ → ℕ
counted_steps n = min n last_count
