-- The table where all rows are basic.
--     opening_entry a i j          the entry of the line of the row i at j: the number of a column, and 0 at a row
--     IsOpeningLine a i line       the line of the row i
--     AreOpeningLines a n lines    the lines of the first n rows, in order
--     AreBlankLines n m lines      lines of zeros for the first m rows, in order
--     AreWritten j es old new      the numbers of the column es stand at j of the lines of their rows, and all else is as it was
--     AreInOrder n slots           the numbers from 0 on, so many
use Rattle.std.specs.Prelude.{◌≡◌, ℕ, ◌+◌, ◌-◌, ◌<◌, List, length, nat_le, slice_index_or, if◌then◌else◌}
use Rattle.exact_values.specs.Rational.{ℚ, zero_ℚ}
use Rattle.lp_definitions.specs.LinearProgram.{Matrix, size, on_row, entry}
use Rattle.lp_definitions.specs.declared.Entry.{Entry}
use Rattle.rates_dense.specs.Lines.{HasPlaces, IsFilled, IsBlankLine, IsWritten}
use Rattle.rates_dense.specs.declared.line.Line.{Line}

abbrev pub opening_entry : Matrix → ℕ → ℕ → ℚ
opening_entry a i j = if nat_le j a.rows then zero_ℚ else entry a i (j - a.rows)

pub record IsOpeningLine (a : Matrix) (i : ℕ) (line : Line) : Type 0 where
  pub own : line.basic ≡ i
  pub places : HasPlaces (size a) line
  pub filled : IsFilled line.rates.items (opening_entry a i)

pub record AreOpeningLines (a : Matrix) (n : ℕ) (lines : List Line) : Type 0 where
  pub counted : length lines ≡ n
  pub each : (k : ℕ) (d : Line) → k < n → IsOpeningLine a (k + 1) (slice_index_or lines k d)

pub record AreBlankLines (n m : ℕ) (lines : List Line) : Type 0 where
  pub counted : length lines ≡ m
  pub each : (k : ℕ) (d : Line) → k < m → IsBlankLine n (k + 1) (slice_index_or lines k d)

pub record AreWritten (j : ℕ) (es : List Entry) (old new : List Line) : Type 0 where
  pub counted : length new ≡ length old
  pub each : (slot : ℕ) (d : Line) → slot < length old → IsWritten j (on_row es (slot + 1)) (slice_index_or old slot d) (slice_index_or new slot d)

-- the numbers from 0 on
pub record AreInOrder (n : ℕ) (slots : List ℕ) : Type 0 where
  pub counted : length slots ≡ n
  pub each : (k : ℕ) → k < n → slice_index_or slots k 0 ≡ k
