-- What a reader answers, and what is left after it.
--     taken ok rest           so much is left, where a text was taken
--     sheet_view sheet        the problem and the linear program
use Rattle.std.specs.Prelude.{ℕ, Bool, List, Option, Some, None, if◌then◌else◌}
use Rattle.listing_tables.specs.declared.sheet.Sheet.{Sheet}
use Rattle.question_definitions.specs.Answers as questions

abbrev pub taken : Bool → List ℕ → Option (List ℕ)
taken ok rest = if ok then Some rest else None

abbrev pub sheet_view : Sheet → questions.Sheet
sheet_view sheet = record { problem = sheet.problem.now; lp = sheet.lp.now }
