-- What a question comes to in the walk.
--     asked_turn C w question sheet go   what can't be attested comes first, and then the answer
--     IsTaken                            an answer was taken, and the walk goes on with it from a walker that stands here
--     Answered C question .. result      the answer was taken, or the walk ends
--     IsRestHere place clears result     what is left where an answer is due, and what can't be attested comes first
use Rattle.std.specs.Prelude.{◌≡◌, ℕ, Bool, true, false, List, Option, None, Some, Result, Ok, Err}
use denote.Bor.{Bor}
use Rattle.exact_values.specs.Rational.{ℚ}
use Rattle.listing_definitions.specs.Report.{Check}
use Rattle.listing_definitions.specs.declared.Mark.{Mark}
use Rattle.listing_definitions.specs.declared.Mark.TheVariants.{Optimal, Infeasible, Unbounded}
use Rattle.question_definitions.specs.Answers.{Sheet, Question, AnswerTo, PathEnd, Reached}
use Rattle.run_definitions.specs.Moves.{StatementOutcome}
use Rattle.run_definitions.specs.Verbs.{mark_of}
use Rattle.walk_definitions.specs.Checkers.{Checker, says_checked}
use Rattle.walk_definitions.specs.Reading.{judged}
use Rattle.walk_definitions.specs.Walker as walks
use Rattle.listing_claims.specs.declared.claims.Stop.{Stop}
use Rattle.listing_claims.specs.declared.claims.Stop.TheVariants as stops
use Rattle.listing_walk.specs.declared.answering.Stopped.{Stopped}
use Rattle.listing_walk.specs.declared.answering.Stopped.TheVariants.{Finds, NoMemory}
use Rattle.listing_walk.specs.declared.found.Found.{Found}
use Rattle.listing_walk.specs.declared.found.Found.TheVariants.{Wrong, Unchecked}
use Rattle.listing_walk.specs.declared.place.Pending.{Pending}
use Rattle.listing_walk.specs.declared.place.ListingPlace.{ListingPlace}
use Rattle.listing_walk.specs.declared.walk_step.WalkStep.{WalkStep}
use Rattle.listing_walk.specs.declared.walk_step.WalkStep.TheVariants as walk_step
use Rattle.listing_walk.specs.Ended.{found_view}
use Rattle.listing_walk.specs.Standing.{Faces}
use Rattle.listing_walk.specs.Walking.{open_by}

-- what stops an answer, where so much is left
abbrev pub stopped_by : Stop → Bor (List ℕ) → Stopped
stopped_by stops.Wrong rest = Finds (Wrong rest)
stopped_by stops.Unchecked rest = Finds (Unchecked rest)
stopped_by stops.NoMemory rest = NoMemory

-- how the walk ends then
abbrev pub IsStopStep : Stopped → WalkStep → Type 0
IsStopStep (Finds found) w = w ≡ walk_step.Finds found
IsStopStep NoMemory w = ⊥

abbrev pub is_optimal : Mark → Bool
is_optimal Optimal = true
is_optimal Infeasible = false
is_optimal Unbounded = false

-- a pending verdict, with a check
abbrev pub with_check : Pending → Check → walks.Pending
with_check pending check = record { rest = pending.rest.now; objective = pending.objective; check = check }

-- whether this objective settles a pending verdict, with each check that may stand in the listing
abbrev pub SettlesBy : Checker → Pending → ℚ → Bool → Type 0
SettlesBy C pending objective settles =
    (check : Check) → says_checked check ≡ pending.is_checked → walks.settles C (with_check pending check) objective ≡ settles

-- what is pending is settled by this objective, or found wrong
abbrev pub IsSettling : Checker → Option Pending → ℚ → Option Found → Type 0
IsSettling C None objective found = found ≡ None
IsSettling C (Some pending) objective None = SettlesBy C pending objective true
IsSettling C (Some pending) objective (Some found) = SettlesBy C pending objective false × (found ≡ Wrong pending.rest)

abbrev pub asked_turn : Checker → walks.Walker → (question : Question) → Sheet → (AnswerTo question → StatementOutcome) → walks.WalkTurn
asked_turn C w question sheet go =
    walks.unless_found (walks.open_question w question sheet go) (walks.answered C w question sheet go (judged C question sheet w.rest))

-- an answer of which this holds was taken, and the walk goes on with it from a walker that stands here
pub record IsTaken (question : Question) (Holds : AnswerTo question → Type 0) (new : ListingPlace) (turn : walks.WalkTurn)
    (go : AnswerTo question → StatementOutcome) : Type 0 where
  pub answer : AnswerTo question
  pub walker : walks.Walker
  pub is_turn : turn ≡ walks.follows walker (go answer)
  pub faces : Faces new walker
  pub holds : Holds answer

abbrev pub Answered : Checker → {X : Type 0} → (question : Question) → Sheet → ListingPlace → ListingPlace → (X → AnswerTo question → Type 0) →
    Result X Stopped → Type 0
Answered C question sheet old new Holds (Ok x) =
    (w : walks.Walker) (go : AnswerTo question → StatementOutcome) → Faces old w → IsTaken question (Holds x) new (asked_turn C w question sheet go) go
Answered C question sheet old new Holds (Err (Finds found)) =
    (w : walks.Walker) (go : AnswerTo question → StatementOutcome) → Faces old w → asked_turn C w question sheet go ≡ walks.Finds (found_view found)
Answered C question sheet old new Holds (Err NoMemory) = Unit {0}

-- the mark is that of the verdict
abbrev pub IsMarked : Mark → PathEnd → Type 0
IsMarked mark (Reached bases verdict check) = mark ≡ mark_of verdict
IsMarked mark end = ⊥

-- nothing is asked of the answer
abbrev pub IsAny : (question : Question) → Unit {0} → AnswerTo question → Type 0
IsAny question nothing answer = Unit {0}

-- nothing is open here, and this is left; or what is found is open
abbrev pub IsRestHere : ListingPlace → Bool → Result (Bor (List ℕ)) Stopped → Type 0
IsRestHere place clears (Ok rest) = (rest.now ≡ place.cursor) × ((w : walks.Walker) → Faces place w → None ≡ open_by true clears w)
IsRestHere place clears (Err (Finds found)) = (w : walks.Walker) → Faces place w → Some (found_view found) ≡ open_by true clears w
IsRestHere place clears (Err NoMemory) = ⊥
