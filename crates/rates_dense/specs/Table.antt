-- The table: the matrix and the basics that its fields stand for, and what holds of its lines.
--     inverse_of a                 the matrix and the basics
--     IsLine a b rate line         the line of a basic: its rates at the nonbasics, and 0 at the basics
--     IsTableOf a b slots lines quotients      the rates of the basics b, a line for each
use Rattle.std.specs.Prelude.{◌≡◌, ℕ, ◌<◌, ◌^◌, List, length, All, if◌then◌else◌}
use Rattle.exact_values.specs.Rational.{ℚ, zero_ℚ}
use Rattle.lp_definitions.specs.LinearProgram.{Matrix, size, IsVariable, value_at}
use Rattle.lp_definitions.specs.Basis.{Basics, is_in, IsBasic, IsNonsingular, AreRates}
use Rattle.lp_model.specs.Columns.{entries_of}
use Rattle.rates_dense.specs.Placed.{IsPlaced}
use Rattle.rates_dense.specs.Inverse.{Inverse}
use Rattle.rates_dense.specs.declared.line.Line.{Line}
use Rattle.rates_dense.specs.declared.Dense.TheInside.{Inside}

abbrev pub inverse_of : Inside → Inverse
inverse_of a = record {
  matrix = record { rows = a.rows; cols = a.cols; columns = entries_of a.columns.items };
  basics = a.marks.items;
}

pub record IsLine (a : Matrix) (b : Basics) (rate : ℕ → ℕ → ℚ) (line : Line) : Type 0 where
  pub is_basic : IsBasic a b line.basic
  pub places : length line.rates.items ≡ size a
  pub room : length line.next.items ≡ size a
  pub entries : (k : ℕ) → IsVariable a k → value_at line.rates.items k ≡ (if is_in b k then zero_ℚ else rate line.basic k)

pub record IsTableOf (a : Matrix) (b : Basics) (slots : List ℕ) (lines : List Line) (quotients : List ℚ) : Type 0 where
  pub small : size a < 2 ^ 32
  pub nonsingular : IsNonsingular a b
  pub rate : ℕ → ℕ → ℚ
  pub are_rates : AreRates a b rate
  pub each_line : All (IsLine a b rate) lines
  pub slots_counted : length slots ≡ size a
  pub placed : (k : ℕ) → IsBasic a b k → IsPlaced slots lines k
  pub room : length quotients ≡ size a

abbrev pub IsTable : Inside → Type 0
IsTable a =
    let inverse = inverse_of a in
    IsTableOf inverse.matrix inverse.basics a.slots.items a.lines.items a.quotients.items × (length a.changed.items ≡ size inverse.matrix) ×
    (length a.changing.items ≡ length a.lines.items)
