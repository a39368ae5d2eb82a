-- Checkers of listings: by which arithmetic numbers are read and tested, how long a number may be, and which words of checks may stand with
-- a verdict.
--     Checker                      what one checker does otherwise than another
--     checker_of_128_bits          it reads and tests numbers as a run makes them, and a verdict is printed with the word CHECKED
--     checker_of_any_length        it reads and tests each number of up to 100,000 digits above and below the line, and refuses no operation
--                                  on them; the verdict may be printed with either word
use Rattle.std.specs.Prelude.{ℕ, Bool, true, false, Option, Some, None}
use Rattle.check_definitions.specs.Steps.{Arithmetic, of_128_bits, of_any_length}
use Rattle.listing_definitions.specs.Report.{Check}
use Rattle.listing_definitions.specs.Report as reports

-- A verdict is printed with the word of its check: CHECKED, or UNCHECKED with the operation that was refused. A checker takes the word, or
-- finds the verdict wrong by it, though the proof that is printed passes its test.
pub record Checker : Type 0 where
  -- which numbers are read, and which operations on them are refused
  pub arithmetic : Arithmetic
  -- A number with more digits above or below the line isn't read for its value, since the time for that grows faster than its digits.
  pub most_digits : Option ℕ
  -- which words may stand with a verdict
  pub takes : Check → Bool

-- the word of a check that was made
abbrev pub says_checked : Check → Bool
says_checked reports.Checked = true
says_checked (reports.Unchecked refused) = false

-- What a run says of its own check is so in the arithmetic of the run: where the test passes, CHECKED.
abbrev pub checker_of_128_bits : Checker
checker_of_128_bits = record { arithmetic = of_128_bits; most_digits = None; takes = says_checked }

-- An operation that was too much for the run is none here, so the word says nothing of the verdict.
abbrev pub checker_of_any_length : Checker
checker_of_any_length = record { arithmetic = of_any_length; most_digits = Some 100000; takes = λ check. true }
