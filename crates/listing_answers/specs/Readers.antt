-- What is read of an answer.
--     IsRead Shows reads C reader old new result    something was read of a sheet, of which so much is shown, or it isn't there
use Rattle.std.specs.Prelude.{ℕ, List, Option, Result, IfOk}
use Rattle.std.specs.declared.alloc.AllocError.{AllocError as NoMemory}
use Rattle.exact_values.specs.Rational.{ℚ}
use Rattle.question_definitions.specs.Answers.{Sheet}
use Rattle.walk_definitions.specs.Checkers.{Checker}
use Rattle.walk_definitions.specs.Words.{Parsed}
use Rattle.listing_words.specs.Read.{sheet_view}
use Rattle.listing_claims.specs.Numbers.{number_in}
use Rattle.listing_answers.specs.declared.reader.Reader.{Reader}
use Rattle.listing_answers.specs.Words.{Found}

abbrev pub IsRead : {X A : Type 0} → (Sheet → X → A → Type 0) → ((List ℕ → Option ℚ) → Sheet → List ℕ → Parsed A) → Checker → Reader → List ℕ → List ℕ →
    Result (Option X) NoMemory → Type 0
IsRead Shows reads C reader old new result =
    IfOk result (Found (Shows (sheet_view reader.sheet)) (reads (number_in C reader.by) (sheet_view reader.sheet) old) new)
