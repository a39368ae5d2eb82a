-- What is read of tables.
--     slots_of shape sheet k       what may stand in the line of variable k
--     numbers_of shape values      the numbers of a line that aren't known before
--     at_place, with_number        one of them, and where it is another
--     solution_slots p k third     the places of a line of SOLUTION
--     slot_view slot               what may stand at a place, as it is looked for
--     numbers_in slots values      the numbers that are kept of values that stand so
--     AreRead, IsLineRead, IsTableRead     values, a line, and the lines of variables were read, and these are their numbers; or none are there
--     IsSlotTaken                  what stands at a place was taken, or it isn't there
--     IsRayRead                    the multipliers of a ray were read, or it isn't there
use Rattle.std.specs.Prelude.{◌≡◌, ◌+◌, ◌<◌, ℕ, List, [], ◌∷◌, Option, Some, None, map, slice_get}
use Rattle.exact_values.specs.Rational.{ℚ, zero_ℚ}
use Rattle.lp_definitions.specs.LinearProgram.{LinearProgram, IsVariable, variables, lower_of, upper_of}
use Rattle.listing_definitions.specs.Report.{Value, Line, limit_value}
use Rattle.question_definitions.specs.Answers as questions
use Rattle.listing_tables.specs.declared.sheet.Sheet.{Sheet}
use Rattle.listing_tables.specs.Sheets.{IsSheet}
use Rattle.walk_definitions.specs.Tables.{Slot, AnyCode, AnyNumber, pair_slots, part_slots, slot_in, number_of, number_at, values_in, line_head, line_in}
use Rattle.walk_definitions.specs.Tables.{table_in, multiplier_in, ray_in, multipliers}
use Rattle.walk_definitions.specs.Tables as tables
use Rattle.walk_definitions.specs.Words.{left_after}
use Rattle.walk_definitions.specs.Reading.{row_slots, column_slots}
use Rattle.listing_readers.specs.declared.tables.Numbers.{Numbers}
use Rattle.listing_readers.specs.declared.tables.Place.{Place}
use Rattle.listing_readers.specs.declared.tables.Place.TheVariants.{First, Second, Third, Fourth}
use Rattle.listing_readers.specs.declared.tables.Shape.{Shape}
use Rattle.listing_readers.specs.declared.tables.Shape.TheVariants.{Multiplier, Pair, Part, Row, Column}
use Rattle.listing_readers.specs.declared.tables.Slot as declared
use Rattle.listing_readers.specs.declared.tables.Slot.TheVariants.{Code, Number, Known}

abbrev pub slots_of : Shape → questions.Sheet → ℕ → List Slot
slots_of Multiplier sheet k = AnyNumber ∷ []
slots_of Pair sheet k = pair_slots k
slots_of Part sheet k = part_slots k
slots_of Row sheet k = row_slots sheet k
slots_of Column sheet k = column_slots sheet k

-- the number at a place of some values
abbrev pub at : ℕ → List Value → ℚ
at place values = number_of (slice_get values place)

abbrev pub numbers_of : Shape → List Value → Numbers
numbers_of Multiplier values = record { first = at 0 values; second = zero_ℚ; third = zero_ℚ; fourth = zero_ℚ }
numbers_of Pair values = record { first = at 0 values; second = at 1 values; third = zero_ℚ; fourth = zero_ℚ }
numbers_of Part values = record { first = at 1 values; second = at 2 values; third = at 3 values; fourth = at 4 values }
numbers_of Row values = record { first = at 1 values; second = at 5 values; third = at 2 values; fourth = zero_ℚ }
numbers_of Column values = record { first = at 1 values; second = at 5 values; third = zero_ℚ; fourth = zero_ℚ }

-- ---- what stands at a place of a line, and what is kept of it

abbrev pub slot_view : declared.Slot → Slot
slot_view Code = AnyCode
slot_view (Number place) = AnyNumber
slot_view (Known limit) = tables.Known (limit_value limit)

-- one of the numbers of a line
abbrev pub at_place : Place → Numbers → ℚ
at_place First numbers = numbers.first
at_place Second numbers = numbers.second
at_place Third numbers = numbers.third
at_place Fourth numbers = numbers.fourth

-- another number at a place
abbrev pub with_number : Place → ℚ → Numbers → Numbers
with_number First x numbers = record numbers { first = x }
with_number Second x numbers = record numbers { second = x }
with_number Third x numbers = record numbers { third = x }
with_number Fourth x numbers = record numbers { fourth = x }

abbrev pub no_numbers : Numbers
no_numbers = record { first = zero_ℚ; second = zero_ℚ; third = zero_ℚ; fourth = zero_ℚ }

abbrev pub kept : declared.Slot → ℚ → Numbers → Numbers
kept (Number place) x numbers = with_number place x numbers
kept slot x numbers = numbers

-- the values from place i on, after these numbers
abbrev pub kept_from : List declared.Slot → ℕ → List Value → Numbers → Numbers
kept_from [] i values numbers = numbers
kept_from (slot ∷ slots) i values numbers = kept_from slots (i + 1) values (kept slot (at i values) numbers)

abbrev pub numbers_in : List declared.Slot → List Value → Numbers
numbers_in slots values = kept_from slots 0 values no_numbers

-- the places of a line of SOLUTION, with what stands at the third of them
abbrev pub solution_slots : LinearProgram → ℕ → declared.Slot → List declared.Slot
solution_slots p k third = Code ∷ Number First ∷ third ∷ Known (lower_of p k) ∷ Known (upper_of p k) ∷ Number Second ∷ []

-- a column comes after the rows, and its cost is known where no row is added to the objective
abbrev pub IsLinedAt : Shape → Sheet → ℕ → Type 0
IsLinedAt Column sheet k = (sheet.lp.now.matrix.rows < k) × (sheet.lp.now.change ≡ None)
IsLinedAt shape sheet k = Unit {0}

-- the line of variable k may be asked for
pub record MayRead (sheet : Sheet) (shape : Shape) (k : ℕ) : Type 0 where
  pub is_sheet : IsSheet sheet
  pub is_variable : IsVariable sheet.lp.now.matrix k
  pub lined : IsLinedAt shape sheet k

-- by how the word of a number is read
module _ (of : List ℕ → Option ℚ) where
  abbrev pub AreRead : (List Value → Numbers) → List Slot → List ℕ → List ℕ → Option Numbers → Type 0
  AreRead numbers_of slots old new None = values_in of slots old ≡ None
  AreRead numbers_of slots old new (Some numbers) = (values : List Value) × (values_in of slots old ≡ Some (values, new)) × (numbers ≡ numbers_of values)

  abbrev pub IsSlotTaken : declared.Slot → List ℕ → List ℕ → Numbers → Numbers → Option (Unit {0}) → Type 0
  IsSlotTaken slot old new before after None = slot_in of (slot_view slot) old ≡ None
  IsSlotTaken slot old new before after (Some done) =
      (value : Value) × (slot_in of (slot_view slot) old ≡ Some (value, new)) × (after ≡ kept slot (number_of (Some value)) before)

  module _ (sheet : questions.Sheet) where
    abbrev pub IsLineRead : Shape → ℕ → List ℕ → List ℕ → Option Numbers → Type 0
    IsLineRead shape k old new None = line_in of sheet (slots_of shape sheet k) k old ≡ None
    IsLineRead shape k old new (Some numbers) =
        (line : Line) × (line_in of sheet (slots_of shape sheet k) k old ≡ Some (line, new)) × (line.number ≡ k) × (numbers ≡ numbers_of shape line.values)

    abbrev pub IsTableRead : Shape → List ℕ → List ℕ → List ℕ → Option (List Numbers) → Type 0
    IsTableRead shape ks old new None = table_in of sheet (slots_of shape sheet) ks old ≡ None
    IsTableRead shape ks old new (Some numbers) =
        (lines : List Line) × (table_in of sheet (slots_of shape sheet) ks old ≡ Some (lines, new)) ×
        (numbers ≡ map (λ line. numbers_of shape line.values) lines)

    abbrev pub IsRayRead : List ℕ → List ℕ → Option (List ℚ) → Type 0
    IsRayRead old new None = ray_in of sheet (variables sheet.lp.matrix) old ≡ None
    IsRayRead old new (Some ray) = (lines : List Line) × (ray_in of sheet (variables sheet.lp.matrix) old ≡ Some (lines, new)) × (ray ≡ multipliers sheet lines)

  -- the multiplier of variable k was read of its line, or it is 0 where it has none here
  pub data IsMultiplier (sheet : questions.Sheet) (k : ℕ) (old new : List ℕ) (x : ℚ) : Type 0 where
    of_line : (line : Line) (left : List ℕ) → left_after (line_head sheet k) old ≡ Some left → multiplier_in of sheet k old ≡ Some (line, new) →
        line.number ≡ k → x ≡ number_at 0 line →
        IsMultiplier sheet k old new x
    without_line : left_after (line_head sheet k) old ≡ None → new ≡ old → x ≡ zero_ℚ → IsMultiplier sheet k old new x

  -- or its line isn't of the form
  abbrev pub IsMultiplierRead : questions.Sheet → ℕ → List ℕ → List ℕ → Option ℚ → Type 0
  IsMultiplierRead sheet k old new None = (left : List ℕ) × (left_after (line_head sheet k) old ≡ Some left) × (multiplier_in of sheet k old ≡ None)
  IsMultiplierRead sheet k old new (Some x) = IsMultiplier sheet k old new x
