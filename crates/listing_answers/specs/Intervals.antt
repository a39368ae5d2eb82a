-- What is read of intervals.
--     part_head number from        what stands before the end of an interval
--     IsPartEnd of                 where an interval ends was read
--     AreColumns, columns_in       the columns of an interval, from its lines; the lines
--     IsPart                       an interval
--     first_in C sheet run         the first interval of a run, tested
use Rattle.std.specs.Prelude.{◌≡◌, ℕ, List, ◌++◌, Option, Some, None, codes, nat_eq}
use Rattle.exact_values.specs.Rational.{ℚ}
use Rattle.lp_definitions.specs.LinearProgram.{variables}
use Rattle.listing_definitions.specs.Numbers.{digits, rational_text}
use Rattle.listing_definitions.specs.Report.{Line, ParametricInterval}
use Rattle.question_definitions.specs.Answers.{Sheet, ParametricRun}
use Rattle.walk_definitions.specs.Checkers.{Checker}
use Rattle.walk_definitions.specs.Words.{Parsed, left_after, with_text, with_word}
use Rattle.walk_definitions.specs.Tables.{table_in, part_slots, column_of}
use Rattle.walk_definitions.specs.Tests.{interval_test}
use Rattle.walk_definitions.specs.Reading.{Judged, Fails, tested_by, interval_in}
use Rattle.listing_claims.specs.declared.claims.Columns.{Columns}
use Rattle.listing_claims.specs.declared.claims.Part.{Part}
use Rattle.listing_claims.specs.Intervals.{AreCounted}

abbrev pub part_head : ℕ → ℚ → List ℕ
part_head number from = codes "INTERVAL " ++ (digits number ++ (codes " FROM " ++ (rational_text from ++ codes " TO ")))

pub record AreColumns (sheet : Sheet) (columns : Columns) (lines : List Line) : Type 0 where
  pub value : columns.value.items ≡ column_of 1 lines
  pub value_rate : columns.value_rate.items ≡ column_of 2 lines
  pub price : columns.price.items ≡ column_of 3 lines
  pub price_rate : columns.price_rate.items ≡ column_of 4 lines
  pub counted : AreCounted sheet.lp columns

-- by how the word of a number is read
module _ (of : List ℕ → Option ℚ) where
  -- whatever is read after it
  abbrev pub part_end_in : ℕ → ℚ → (ℚ → List ℕ → Parsed ParametricInterval) → List ℕ → Parsed ParametricInterval
  part_end_in number from next = with_text (part_head number from) (with_word of (λ to. with_text (codes "\n") (λ rest. next to rest)))

  abbrev pub IsPartEnd : ℕ → ℚ → List ℕ → List ℕ → Option ℚ → Type 0
  IsPartEnd number from old new None = (next : ℚ → List ℕ → Parsed ParametricInterval) → part_end_in number from next old ≡ None
  IsPartEnd number from old new (Some to) = (next : ℚ → List ℕ → Parsed ParametricInterval) → part_end_in number from next old ≡ next to new

  abbrev pub columns_in : Sheet → List ℕ → Parsed (List Line)
  columns_in sheet = table_in of sheet part_slots (variables sheet.lp.matrix)

pub record IsPart (sheet : Sheet) (from : ℚ) (part : Part) (interval : ParametricInterval) : Type 0 where
  pub begins : interval.from ≡ from
  pub ends : interval.to ≡ part.to
  pub columns : AreColumns sheet part.columns interval.lines

-- the first interval of a run, before which it doesn't close
module _ (C : Checker) (sheet : Sheet) (parametric_run : ParametricRun) where
  abbrev pub first_by : List ℕ → Option (List ℕ) → Judged ParametricInterval
  first_by rest None = Fails
  first_by rest (Some after) =
      tested_by C (interval_test C sheet parametric_run.changing (nat_eq 1 1) parametric_run.to) (λ of. interval_in of sheet 1 parametric_run.from) rest

  abbrev pub first_in : List ℕ → Judged ParametricInterval
  first_in rest = first_by rest (left_after (codes "INTERVAL ") rest)
