-- What the checker of any length does that the checker of 128 bits doesn't.
--     without_limit                the checker that reads each number for its value, however long it is
--     NeverRefuses                 by it nothing is refused
--     HasLong C rest               a number that is too long for a checker stands in a text
--     RefusesLong                  by the checker of any length nothing is refused but for such a number
--     Widens                       what the checker of 128 bits attests is attested
use Rattle.std.specs.Prelude.{◌≡◌, ℕ, true, List, ◌++◌, None}
use Rattle.question_definitions.specs.Answers.{Sheet, Question, AnswerTo}
use Rattle.walk_definitions.specs.Checkers.{Checker, checker_of_128_bits, checker_of_any_length}
use Rattle.walk_definitions.specs.Words.{word_in, is_long}
use Rattle.walk_definitions.specs.Reading.{Right, Refuses, judged}
use Rattle.walk_definitions.specs.Walker.{Attested}
use Rattle.walk_definitions.specs.Found.{EndsIn}

abbrev pub without_limit : Checker
without_limit = record checker_of_any_length { most_digits = None }

-- Where every number is read for its value no answer is refused: whatever the numbers, each operation of a test is made.
abbrev pub NeverRefuses : Type 0
NeverRefuses = (question : Question) (sheet : Sheet) (rest : List ℕ) → judged without_limit question sheet rest ≡ Refuses → ⊥

-- a word in it has the form of a number, and more digits than the checker reads for their value
abbrev pub HasLong : Checker → List ℕ → Type 0
HasLong C rest = (front : List ℕ) × (left : List ℕ) × (rest ≡ front ++ left) × (is_long C (word_in left) ≡ true)

abbrev pub RefusesLong : Type 0
RefusesLong =
    (question : Question) (sheet : Sheet) (rest : List ℕ) → judged checker_of_any_length question sheet rest ≡ Refuses → HasLong checker_of_any_length rest

pub record Widens : Type 0 where
  -- an answer that is right in numbers of 128 bits is right
  pub right : (question : Question) (sheet : Sheet) (rest after : List ℕ) (answer : AnswerTo question) →
      judged checker_of_128_bits question sheet rest ≡ Right answer after →
      judged checker_of_any_length question sheet rest ≡ Right answer after
  -- and so is the listing
  pub attested : (bytes lines : List ℕ) (count : ℕ) → EndsIn checker_of_128_bits bytes lines (Attested count) →
      EndsIn checker_of_any_length bytes lines (Attested count)
