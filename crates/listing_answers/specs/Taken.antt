-- What a reader of answers comes to.
--     IsConclusion, IsParametricRunAnswer    what is handed on of the answer to a path and to a parametric run
--     IsOpened                               the mark of an opening
--     Taken Shows judged new result          an answer was taken, of which so much is shown, or this stopped it
--     IsReadBy Shows C reads old new result  something was read by its values, and isn't tested yet; or this stopped it
use Rattle.std.specs.Prelude.{◌≡◌, ℕ, List, Option, None, Result, Ok, Err}
use Rattle.exact_values.specs.Rational.{ℚ}
use Rattle.listing_definitions.specs.declared.Mark.{Mark}
use Rattle.listing_definitions.specs.Report.{PathVerdict, OptimalAt, CrossedAt, InfeasibleBy, UnboundedBy, Check}
use Rattle.question_definitions.specs.Answers.{PathEnd, Reached, ParametricRunEnd, Opening, Chained}
use Rattle.run_definitions.specs.Verbs.{mark_of, last_value}
use Rattle.walk_definitions.specs.Checkers.{Checker, says_checked}
use Rattle.walk_definitions.specs.Words.{Parsed, fraction_in}
use Rattle.walk_definitions.specs.Reading.{Judged, Right, Fails, Refuses, unread}
use Rattle.listing_answers.specs.declared.answer.Conclusion.{Conclusion}
use Rattle.listing_answers.specs.declared.answer.Conclusion.TheVariants.{Optimal, Infeasible, Unbounded}
use Rattle.listing_answers.specs.declared.answer.ParametricRunAnswer.{ParametricRunAnswer}
use Rattle.listing_answers.specs.declared.answer.ParametricRunAnswer.TheVariants.{Opened, RanThrough}
use Rattle.listing_claims.specs.declared.claims.Stop.{Stop}
use Rattle.listing_claims.specs.declared.claims.Stop.TheVariants.{Wrong, Unchecked, NoMemory}
use Rattle.listing_answers.specs.Words.{IsFound}

-- an optimal verdict with its objective, and whether its check was made
abbrev pub conclusion_of : PathVerdict → Check → Conclusion
conclusion_of (OptimalAt steps objective) check = Optimal objective (says_checked check)
conclusion_of (CrossedAt number) check = Infeasible
conclusion_of (InfeasibleBy steps lines) check = Infeasible
conclusion_of (UnboundedBy steps objective lines) check = Unbounded

abbrev pub IsConclusion : Conclusion → PathEnd → Type 0
IsConclusion conclusion (Reached bases verdict check) = conclusion ≡ conclusion_of verdict check
IsConclusion conclusion end = ⊥

-- the mark of an opening that isn't optimal, or the value at which the last interval ends
abbrev pub IsParametricRunAnswer : ParametricRunAnswer → ParametricRunEnd → Type 0
IsParametricRunAnswer (Opened mark) (Opening bases verdict check) = mark ≡ mark_of verdict
IsParametricRunAnswer (RanThrough last) (Chained bases intervals end) = last ≡ last_value end
IsParametricRunAnswer answer end = ⊥

-- of an opening
abbrev pub IsOpened : Mark → ParametricRunEnd → Type 0
IsOpened mark end = IsParametricRunAnswer (Opened mark) end

pub record IsRight {X A : Type 0} (Shows : X → A → Type 0) (judged : Judged A) (new : List ℕ) (x : X) : Type 0 where
  pub answer : A
  pub is_right : judged ≡ Right answer new
  pub shows : Shows x answer

-- an answer isn't of its form or fails a test; or a number is too long, or an operation of a test is refused; or there is no memory
abbrev pub IsStopped : {A : Type 0} → Judged A → Stop → Type 0
IsStopped judged Wrong = judged ≡ Fails
IsStopped judged Unchecked = judged ≡ Refuses
IsStopped judged NoMemory = Unit {0}

abbrev pub Taken : {X A : Type 0} → (X → A → Type 0) → Judged A → List ℕ → Result X Stop → Type 0
Taken Shows judged new (Ok x) = IsRight Shows judged new x
Taken Shows judged new (Err stop) = IsStopped judged stop

-- ---- before it is tested

-- it isn't read by its values, and this stops it
abbrev pub IsUnread : {A : Type 0} → Checker → ((List ℕ → Option ℚ) → List ℕ → Parsed A) → List ℕ → Stop → Type 0
IsUnread C reads old Wrong = (reads (fraction_in C) old ≡ None) × (unread C reads old ≡ Fails)
IsUnread C reads old Unchecked = (reads (fraction_in C) old ≡ None) × (unread C reads old ≡ Refuses)
IsUnread C reads old NoMemory = Unit {0}

abbrev pub IsReadBy : {X A : Type 0} → (X → A → Type 0) → Checker → ((List ℕ → Option ℚ) → List ℕ → Parsed A) → List ℕ → List ℕ → Result X Stop → Type 0
IsReadBy Shows C reads old new (Ok x) = IsFound Shows (reads (fraction_in C) old) new x
IsReadBy Shows C reads old new (Err stop) = IsUnread C reads old stop
