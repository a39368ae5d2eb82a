-- The parts of a selection, each from what it is made of.
--     by_number f count                        what f gives of the numbers 1 to count
--     IsSumRefusal op left right refused       a sum that is refused
--     IsRangeSumRefusal kind side range refused    the range sum of a row that is refused
--     limits_of_rows rows sides ranges         the limits of each row
--     IsRowOverflow rows sides ranges stop     the range sum of one of the rows is refused
--     AreRowsMade rows sides ranges count      that of none of so many rows is
use Rattle.std.specs.Prelude.{◌≡◌, ℕ, ◌+◌, ◌<◌, List, [], ◌∷◌, Option, Some, map, slice_get, IsTrue}
use Rattle.std.specs.List.{range_with_len}
use Rattle.exact_values.specs.Rational.{ℚ, zero_ℚ}
use Rattle.exact_values.specs.Tests.{magnitude}
use Rattle.frac128.specs.declared.Op.{Op}
use Rattle.frac128.specs.declared.Refused.{Refused}
use Rattle.frac128.specs.Operations.{refuses}
use Rattle.lp_definitions.specs.declared.Evidence.{Evidence}
use Rattle.lp_definitions.specs.RatesEvidence.{Names}
use Rattle.check_definitions.specs.declared.Verdict.TheVariants.{Checked}
use Rattle.check_definitions.specs.Steps.{verdict_of}
use Rattle.lp_model.specs.declared.Stop.{Stop}
use Rattle.lp_model.specs.declared.Stop.TheVariants.{Overflow, NoMemory}
use Rattle.problem_definitions.specs.declared.RowKind.{RowKind}
use Rattle.problem_definitions.specs.Problem.{Row}
use Rattle.selection_definitions.specs.Limits.{Limits, range_operation, row_limits}
use Rattle.selection_definitions.specs.RangeSums.{range_formula}
use Rattle.selection_definitions.specs.Making.{range_steps}

-- what f gives of each number from 1 to count
abbrev pub by_number : {X : Type 0} → (ℕ → X) → ℕ → List X
by_number f count = map (λ place. f (place + 1)) (range_with_len 0 count)

-- the operation and its operands are these, and they are refused
pub record IsSumRefusal (op : Op) (left right : ℚ) (refused : Refused) : Type 0 where
  pub is_op : refused.op ≡ op
  pub is_left : refused.left ≡ left
  pub is_right : refused.right ≡ right
  pub is_refused : IsTrue (refuses op left right)

-- a row has a range, and the sum of its right-hand side and the range's magnitude is refused
pub record IsRangeSumRefusal (kind : RowKind) (side : ℚ) (range : Option ℚ) (refused : Refused) : Type 0 where
  pub value : ℚ
  pub has_range : range ≡ Some value
  pub op : Op
  pub is_op : range_operation kind value ≡ Some op
  pub refuses : IsSumRefusal op side (magnitude value) refused

-- the limits of each row, by its type, its right-hand side and its range
abbrev pub limits_of_rows : List (Row ℕ) → List ℚ → List (Option ℚ) → List Limits
limits_of_rows (row ∷ rows) (side ∷ sides) (range ∷ ranges) = row_limits row.kind side range ∷ limits_of_rows rows sides ranges
limits_of_rows _ _ _ = []

-- one of the rows has a range whose sum is refused
pub record IsRowRefusal (rows : List (Row ℕ)) (sides : List ℚ) (ranges : List (Option ℚ)) (e : Evidence) : Type 0 where
  pub place : ℕ
  pub row : Row ℕ
  pub is_row : slice_get rows place ≡ Some row
  pub side : ℚ
  pub is_side : slice_get sides place ≡ Some side
  pub range : Option ℚ
  pub is_range : slice_get ranges place ≡ Some range
  pub refused : IsRangeSumRefusal row.kind side range e.refused
  pub names : Names e range_formula 0 0 (place + 1) 0 0
  pub no_way : e.way ≡ 0
  pub no_theta : e.theta ≡ zero_ℚ

abbrev pub IsRowOverflow : List (Row ℕ) → List ℚ → List (Option ℚ) → Stop → Type 0
IsRowOverflow rows sides ranges (Overflow e) = IsRowRefusal rows sides ranges e
IsRowOverflow rows sides ranges NoMemory = Unit {0}

-- the range sum of the row at a place is made
abbrev pub IsRowMade : List (Row ℕ) → List ℚ → List (Option ℚ) → ℕ → Type 0
IsRowMade rows sides ranges place =
    (row : Row ℕ) (side : ℚ) (range : Option ℚ) → slice_get rows place ≡ Some row → slice_get sides place ≡ Some side → slice_get ranges place ≡ Some range →
    verdict_of (range_steps row.kind side range) ≡ Checked

abbrev pub AreRowsMade : List (Row ℕ) → List ℚ → List (Option ℚ) → ℕ → Type 0
AreRowsMade rows sides ranges count = (place : ℕ) → place < count → IsRowMade rows sides ranges place
