-- What a question comes to in the walk.
use Rattle.std.proofs.Common.{◌≡◌, ℕ, ◌+◌, Bool, true, false, List, Option, Some, None, Result, Ok, Err, refl, sym, ap, subst, ◌∙◌, if◌then◌else◌}
use Rattle.std.specs.Prelude.{option_map, IsErrAnd}
use Rattle.std.proofs.lemmas.Result.{err_from_is_err_and}
use Rattle.std.specs.Option.{option_or}
use denote.Bor.{Bor}
use Rattle.exact_values.specs.Rational.{ℚ}
use Rattle.listing_definitions.specs.declared.Mark.{Mark}
use Rattle.listing_definitions.specs.declared.Mark.TheVariants as marks
use Rattle.listing_definitions.specs.declared.Solver.{Solver}
use Rattle.listing_definitions.specs.Report.{PathVerdict, OptimalAt, CrossedAt, InfeasibleBy, UnboundedBy, Check, SolutionLines}
use Rattle.question_definitions.specs.Answers.{Sheet, Question, OfPath, OfSolution, OfParametricRun, ParametricRun, AnswerTo, PathEnd, Reached, PathLimit}
use Rattle.question_definitions.specs.Answers.{PricesWrong}
use Rattle.run_definitions.specs.Moves.{StatementOutcome}
use Rattle.run_definitions.specs.Verbs.{mark_of}
use Rattle.walk_definitions.specs.Checkers.{Checker, says_checked}
use Rattle.walk_definitions.specs.Tests.{point_of}
use Rattle.walk_definitions.specs.Reading.{Judged, Right, Fails, Refuses, judged}
use Rattle.walk_definitions.specs.Walker as walks
use Rattle.listing_answers.specs.declared.answer.Conclusion.{Conclusion}
use Rattle.listing_answers.specs.declared.answer.Conclusion.TheVariants as conclusions
use Rattle.listing_answers.specs.declared.answer.ParametricRunAnswer.{ParametricRunAnswer}
use Rattle.listing_claims.specs.declared.claims.Stop.{Stop}
use Rattle.listing_claims.specs.declared.claims.Stop.TheVariants as stops
use Rattle.listing_answers.specs.Taken.{conclusion_of, IsConclusion, IsParametricRunAnswer, Taken}
use Rattle.listing_walk.specs.declared.answering.Stopped.{Stopped}
use Rattle.listing_walk.specs.declared.answering.Stopped.TheVariants.{Finds, NoMemory}
use Rattle.listing_walk.specs.declared.found.Found.{Found}
use Rattle.listing_walk.specs.declared.place.Pending.{Pending}
use Rattle.listing_walk.specs.declared.place.ListingPlace.{ListingPlace}
use Rattle.listing_walk.specs.Ended.{found_view}
use Rattle.listing_walk.specs.Standing.{ShowsPending, Faces}
use Rattle.listing_walk.specs.Walking.{open_by}
use Rattle.listing_walk.specs.Asking.{stopped_by, is_optimal, SettlesBy, IsSettling, asked_turn, IsTaken, Answered, IsMarked, IsAny, IsRestHere}

-- ---- conclusions

pub mark_optimal : (objective : ℚ) (is_checked : Bool) (verdict : PathVerdict) (check : Check) →
    conclusions.Optimal objective is_checked ≡ conclusion_of verdict check → marks.Optimal ≡ mark_of verdict
mark_optimal objective is_checked (OptimalAt steps value) check e = refl
mark_optimal objective is_checked (CrossedAt k) check e = absurd (cc e)
mark_optimal objective is_checked (InfeasibleBy steps lines) check e = absurd (cc e)
mark_optimal objective is_checked (UnboundedBy steps value lines) check e = absurd (cc e)

pub mark_infeasible : (verdict : PathVerdict) (check : Check) → conclusions.Infeasible ≡ conclusion_of verdict check → marks.Infeasible ≡ mark_of verdict
mark_infeasible (OptimalAt steps value) check e = absurd (cc e)
mark_infeasible (CrossedAt k) check e = refl
mark_infeasible (InfeasibleBy steps lines) check e = refl
mark_infeasible (UnboundedBy steps value lines) check e = absurd (cc e)

pub mark_unbounded : (verdict : PathVerdict) (check : Check) → conclusions.Unbounded ≡ conclusion_of verdict check → marks.Unbounded ≡ mark_of verdict
mark_unbounded (OptimalAt steps value) check e = absurd (cc e)
mark_unbounded (CrossedAt k) check e = absurd (cc e)
mark_unbounded (InfeasibleBy steps lines) check e = absurd (cc e)
mark_unbounded (UnboundedBy steps value lines) check e = refl

-- an optimal verdict is pending
pub pends : (pending : Pending) (verdict : PathVerdict) (check : Check) →
    conclusions.Optimal pending.objective pending.is_checked ≡ conclusion_of verdict check →
    ShowsPending (Some pending) (walks.pending_after pending.rest.now verdict check)
pends pending (OptimalAt steps value) check e =
    let same : pending.objective ≡ value = cc in
    let checked : pending.is_checked ≡ says_checked check = cc in
    (check, ap (λ (x : ℚ). Some (record { rest = pending.rest.now; objective = x; check = check })) (sym same), sym checked)
pends pending (CrossedAt k) check e = absurd (cc e)
pends pending (InfeasibleBy steps lines) check e = absurd (cc e)
pends pending (UnboundedBy steps value lines) check e = absurd (cc e)

-- and no other
pub pends_none : (rest : List ℕ) (verdict : PathVerdict) (check : Check) (conclusion : Conclusion) → conclusion ≡ conclusion_of verdict check →
    ((objective : ℚ) (is_checked : Bool) → conclusion ≡ conclusions.Optimal objective is_checked → ⊥) →
    ShowsPending None (walks.pending_after rest verdict check)
pends_none rest (OptimalAt steps value) check conclusion e other = absurd (other value (says_checked check) e)
pends_none rest (CrossedAt k) check conclusion e other = refl
pends_none rest (InfeasibleBy steps lines) check conclusion e other = refl
pends_none rest (UnboundedBy steps value lines) check conclusion e other = refl

-- ---- where an answer comes

module _ (C : Checker) (question : Question) (sheet : Sheet) (old : ListingPlace) (open_there : walks.Walker → Option walks.Found)
    (opens : (w : walks.Walker) (go : AnswerTo question → StatementOutcome) → walks.open_question w question sheet go ≡ open_there w) where
  -- what is open comes first
  pub found_open : (found : Found) → ((w : walks.Walker) → Faces old w → option_map found_view (Some found) ≡ open_there w) →
      (w : walks.Walker) (go : AnswerTo question → StatementOutcome) → Faces old w →
      asked_turn C w question sheet go ≡ walks.Finds (found_view found)
  found_open found there_is w go f =
      ap (λ (x : Option walks.Found). walks.unless_found x (walks.answered C w question sheet go (judged C question sheet w.rest)))
      (opens w go ∙ sym (there_is w f))

  module _ (none : (w : walks.Walker) → Faces old w → None ≡ open_there w) where
    -- then the answer
    pub turn_answered : (w : walks.Walker) (go : AnswerTo question → StatementOutcome) → Faces old w → (given : Judged (AnswerTo question)) →
        judged C question sheet old.cursor ≡ given →
        asked_turn C w question sheet go ≡ walks.answered C w question sheet go given
    turn_answered w go f given is =
        ap (λ (x : Option walks.Found). walks.unless_found x (walks.answered C w question sheet go (judged C question sheet w.rest)))
        (opens w go ∙ sym (none w f)) ∙
        ap (λ (rest : List ℕ). walks.answered C w question sheet go (judged C question sheet rest)) f.rest ∙ ap (walks.answered C w question sheet go) is

    -- it isn't right, or an operation of its test is refused
    pub stopped_answered : {X Y : Type 0} (Shows : X → AnswerTo question → Type 0) (Holds : Y → AnswerTo question → Type 0) (new : ListingPlace)
        (cursor : List ℕ) (stop : Stop) (rest : Bor (List ℕ)) → rest.now ≡ old.cursor →
        Taken Shows (judged C question sheet old.cursor) cursor (Err stop) → Answered C question sheet old new Holds (Err (stopped_by stop rest))
    stopped_answered Shows Holds new cursor stops.Wrong rest here taken =
        λ w go f. turn_answered w go f Fails taken ∙ ap (λ (left : List ℕ). walks.Finds (walks.Wrong left)) (f.rest ∙ sym here)
    stopped_answered Shows Holds new cursor stops.Unchecked rest here taken =
        λ w go f. turn_answered w go f Refuses taken ∙ ap (λ (left : List ℕ). walks.Finds (walks.Unchecked left)) (f.rest ∙ sym here)
    stopped_answered Shows Holds new cursor stops.NoMemory rest here taken = tt

-- what is open is handed on by a `?`
module _ (C : Checker) (question : Question) (sheet : Sheet) (old : ListingPlace) (clears : Bool)
    (opens : (w : walks.Walker) (go : AnswerTo question → StatementOutcome) → walks.open_question w question sheet go ≡ open_by true clears w)
    {X : Type 0} (Holds : X → AnswerTo question → Type 0) (new : ListingPlace) where
  open_comes : (stopped : Stopped) → IsRestHere old clears (Err stopped) → Answered C question sheet old new Holds (Err stopped)
  open_comes (Finds found) there = found_open C question sheet old (open_by true clears) opens found there
  open_comes NoMemory none = tt

  pub open_handed : (result : Result X Stopped) (stopped : Stopped) → IsRestHere old clears (Err stopped) → IsErrAnd result (λ y. y ≡ stopped) →
      Answered C question sheet old new Holds result
  open_handed result stopped there handed =
      let p = err_from_is_err_and result handed in
      subst (λ (r : Result X Stopped). Answered C question sheet old new Holds r) (sym p.1)
      (subst (λ (s : Stopped). Answered C question sheet old new Holds (Err s)) (sym p.2) (open_comes stopped there))

-- ---- PRIMAL and DUAL

module _ (question : Question) (sheet : Sheet) (old new : ListingPlace) (w : walks.Walker) (f : Faces old w) (counted : new.reports ≡ old.reports + 1) where
  -- the walker after an answer
  abbrev walker_after : Option walks.Pending → walks.Walker
  walker_after pending = record (walks.passed new.cursor 1 w) { pending = pending }

  faces_after : (pending : Option walks.Pending) → ShowsPending new.pending pending → Faces new (walker_after pending)
  faces_after pending shows = record { rest = refl; pending = shows; reports = ap (λ n. n + 1) f.reports ∙ sym counted }

-- the mark, and what is pending, are those of the conclusion
pub record IsConcluded (conclusion : Conclusion) (mark : Mark) (pending : Option Pending) (rest : List ℕ) : Type 0 where
  pub marks : (verdict : PathVerdict) (check : Check) → conclusion ≡ conclusion_of verdict check → mark ≡ mark_of verdict
  pub pends : (verdict : PathVerdict) (check : Check) → conclusion ≡ conclusion_of verdict check → ShowsPending pending (walks.pending_after rest verdict check)

module _ (C : Checker) (solver : Solver) (limit : Option ℕ) (sheet : Sheet) (old new : ListingPlace)
    (none : (w : walks.Walker) → Faces old w → None ≡ open_by true true w) (counted : new.reports ≡ old.reports + 1)
    (conclusion : Conclusion) (mark : Mark) (rest : List ℕ) (here : rest ≡ old.cursor) (c : IsConcluded conclusion mark new.pending rest) where
  path_by : (answer : PathEnd) → judged C (OfPath solver limit) sheet old.cursor ≡ Right answer new.cursor → IsConclusion conclusion answer →
      (w : walks.Walker) (go : PathEnd → StatementOutcome) → Faces old w →
      IsTaken (OfPath solver limit) (IsMarked mark) new (asked_turn C w (OfPath solver limit) sheet go) go
  path_by (Reached bases verdict check) right is w go f = record {
    answer = Reached bases verdict check;
    walker = walker_after (OfPath solver limit) sheet old new w f counted (walks.pending_after w.rest verdict check);
    is_turn =
        turn_answered C (OfPath solver limit) sheet old (open_by true true) (λ v other. refl) none w go f
        (Right (Reached bases verdict check) new.cursor) right;
    faces = faces_after (OfPath solver limit) sheet old new w f counted (walks.pending_after w.rest verdict check)
        (subst (λ (left : List ℕ). ShowsPending new.pending (walks.pending_after left verdict check)) (here ∙ sym f.rest) (c.pends verdict check is));
    holds = c.marks verdict check is;
  }
  path_by PathLimit right is w go f = absurd is
  path_by (PricesWrong j) right is w go f = absurd is

  pub path_answered : Taken IsConclusion (judged C (OfPath solver limit) sheet old.cursor) new.cursor (Ok conclusion) →
      Answered C (OfPath solver limit) sheet old new IsMarked (Ok mark)
  path_answered taken = λ w go f. path_by taken.answer taken.is_right taken.shows w go f

-- ---- SOLUTION

abbrev turn_settled : walks.WalkTurn → Pending → Bool → walks.WalkTurn
turn_settled turn pending b = if b then turn else walks.Finds (walks.Wrong pending.rest.now)

is_settled : (C : Checker) (w : walks.Walker) (pending : Pending) (viewed : Option walks.Pending) (objective : ℚ) (turn : walks.WalkTurn) (settles : Bool) →
    ShowsPending (Some pending) viewed → SettlesBy C pending objective settles →
    walks.settled C w viewed objective turn ≡ turn_settled turn pending settles
is_settled C w pending viewed objective turn settles shows by =
    ap (λ (p : Option walks.Pending). walks.settled C w p objective turn) shows.1 ∙ ap (turn_settled turn pending) (by shows.0 shows.2)

settled_none : (C : Checker) (w : walks.Walker) (pending : Option Pending) (viewed : Option walks.Pending) (objective : ℚ) (turn : walks.WalkTurn) →
    ShowsPending pending viewed → IsSettling C pending objective None →
    walks.settled C w viewed objective turn ≡ turn
settled_none C w None viewed objective turn shows is = ap (λ (p : Option walks.Pending). walks.settled C w p objective turn) shows
settled_none C w (Some pending) viewed objective turn shows is = is_settled C w pending viewed objective turn true shows is

settled_some : (C : Checker) (w : walks.Walker) (pending : Option Pending) (viewed : Option walks.Pending) (objective : ℚ) (turn : walks.WalkTurn)
    (found : Found) → ShowsPending pending viewed →
    IsSettling C pending objective (Some found) → walks.settled C w viewed objective turn ≡ walks.Finds (found_view found)
settled_some C w None viewed objective turn found shows is = absurd (cc is)
settled_some C w (Some pending) viewed objective turn found shows is =
    is_settled C w pending viewed objective turn false shows is.0 ∙ ap (λ (x : Found). walks.Finds (found_view x)) (sym is.1)

-- a stop alone is open at SOLUTION
pub opens_view : (sheet : Sheet) (mark : Mark) (w : walks.Walker) (go : SolutionLines → StatementOutcome) →
    walks.open_question w (OfSolution mark) sheet go ≡ open_by true false w
opens_view sheet mark w go = by (walks.open_stop w)
  where
    by : (x : Option walks.Found) → x ≡ option_or x None
    by None = refl
    by (Some found) = refl

-- the objective is that of the point which SOLUTION shows
abbrev pub IsReportedObjective : Sheet → ℚ → SolutionLines → Type 0
IsReportedObjective sheet objective lines = objective ≡ point_of sheet lines sheet.lp.objective

module _ (C : Checker) (sheet : Sheet) (old : ListingPlace) (none : (w : walks.Walker) → Faces old w → None ≡ open_by true false w) (cursor : List ℕ)
    (objective : ℚ) where
  module _ (settling : IsSettling C old.pending objective None) (new : ListingPlace) (is_cursor : new.cursor ≡ cursor) (is_none : new.pending ≡ None)
      (counted : new.reports ≡ old.reports + 1) where
    pub optimal_answered : Taken (IsReportedObjective sheet) (judged C (OfSolution marks.Optimal) sheet old.cursor) cursor (Ok objective) →
        Answered C (OfSolution marks.Optimal) sheet old new (IsAny (OfSolution marks.Optimal)) (Ok tt)
    optimal_answered taken = λ w go f.
        let lines : SolutionLines = taken.answer in
        let v : walks.Walker = record (walks.passed cursor 1 w) { pending = None } in
        record {
          answer = lines;
          walker = v;
          is_turn =
              turn_answered C (OfSolution marks.Optimal) sheet old (open_by true false) (opens_view sheet marks.Optimal) none w go f
              (Right lines cursor) taken.is_right ∙
              ap (λ (x : ℚ). walks.settled C w w.pending x (walks.follows v (go lines))) (sym taken.shows) ∙
              settled_none C w old.pending w.pending objective (walks.follows v (go lines)) f.pending settling;
          faces =
              record {
                rest = sym is_cursor;
                pending = subst (λ (p : Option Pending). ShowsPending p None) (sym is_none) refl;
                reports = ap
                    (λ n. n + 1) f.reports ∙ sym counted;
              };
          holds = tt;
        }

  pub unsettled : (found : Found) (new : ListingPlace) → IsSettling C old.pending objective (Some found) →
      Taken (IsReportedObjective sheet) (judged C (OfSolution marks.Optimal) sheet old.cursor) cursor (Ok objective) →
      Answered C {X = Unit {0}} (OfSolution marks.Optimal) sheet old new (IsAny (OfSolution marks.Optimal)) (Err (Finds found))
  unsettled found new settling taken = λ w go f.
      let lines : SolutionLines = taken.answer in
      let v : walks.Walker = record (walks.passed cursor 1 w) { pending = None } in
      turn_answered C (OfSolution marks.Optimal) sheet old (open_by true false) (opens_view sheet marks.Optimal) none w go f
      (Right lines cursor) taken.is_right ∙
      ap (λ (x : ℚ). walks.settled C w w.pending x (walks.follows v (go lines))) (sym taken.shows) ∙
      settled_some C w old.pending w.pending objective (walks.follows v (go lines)) found f.pending settling

  module _ (new : ListingPlace) (is_cursor : new.cursor ≡ cursor) (kept : new.pending ≡ old.pending) (counted : new.reports ≡ old.reports + 1) where
    reported_by : (mark : Mark) → is_optimal mark ≡ false → (w : walks.Walker) (go : SolutionLines → StatementOutcome) (lines : SolutionLines) → Faces old w →
        walks.answered C w (OfSolution mark) sheet go (Right lines cursor) ≡ walks.follows (record (walks.passed cursor 1 w) { pending = w.pending }) (go lines)
    reported_by marks.Optimal other w go lines f = absurd (cc other)
    reported_by marks.Infeasible other w go lines f = refl
    reported_by marks.Unbounded other w go lines f = refl

    pub other_answered : (mark : Mark) → is_optimal mark ≡ false →
        Taken (IsReportedObjective sheet) (judged C (OfSolution mark) sheet old.cursor) cursor (Ok objective) →
        Answered C (OfSolution mark) sheet old new (IsAny (OfSolution mark)) (Ok tt)
    other_answered mark other taken = λ w go f. record {
      answer = taken.answer;
      walker = record (walks.passed cursor 1 w) { pending = w.pending };
      is_turn =
          turn_answered C (OfSolution mark) sheet old (open_by true false) (opens_view sheet mark) none w go f (Right taken.answer cursor) taken.is_right
          ∙ reported_by mark other w go taken.answer f;
      faces =
          record {
            rest = sym is_cursor;
            pending = subst (λ (p : Option Pending). ShowsPending p w.pending) (sym kept) f.pending;
            reports = ap
                (λ n. n + 1) f.reports ∙ sym counted;
          };
      holds = tt;
    }

-- under OPTIMAL
module _ (C : Checker) (sheet : Sheet) (old : ListingPlace) (none : (w : walks.Walker) → Faces old w → None ≡ open_by true false w) (cursor : List ℕ)
    (objective : ℚ) where
  pub optimal_by : (mark : Mark) → is_optimal mark ≡ true → IsSettling C old.pending objective None → (new : ListingPlace) → new.cursor ≡ cursor →
      new.pending ≡ None → new.reports ≡ old.reports + 1 →
      Taken (IsReportedObjective sheet) (judged C (OfSolution mark) sheet old.cursor) cursor (Ok objective) →
      Answered C (OfSolution mark) sheet old new (IsAny (OfSolution mark)) (Ok tt)
  optimal_by marks.Optimal is settling new is_cursor is_none counted taken =
      optimal_answered C sheet old none cursor objective settling new is_cursor is_none counted taken
  optimal_by marks.Infeasible is settling new is_cursor is_none counted taken = absurd (cc is)
  optimal_by marks.Unbounded is settling new is_cursor is_none counted taken = absurd (cc is)

  pub unsettled_by : (mark : Mark) → is_optimal mark ≡ true → (found : Found) (new : ListingPlace) → IsSettling C old.pending objective (Some found) →
      Taken (IsReportedObjective sheet) (judged C (OfSolution mark) sheet old.cursor) cursor (Ok objective) →
      Answered C {X = Unit {0}} (OfSolution mark) sheet old new (IsAny (OfSolution mark)) (Err (Finds found))
  unsettled_by marks.Optimal is found new settling taken = unsettled C sheet old none cursor objective found new settling taken
  unsettled_by marks.Infeasible is found new settling taken = absurd (cc is)
  unsettled_by marks.Unbounded is found new settling taken = absurd (cc is)

-- ---- PARAOBJ and PARARHS

pub parametric_run_answered : (C : Checker) (parametric_run : ParametricRun) (sheet : Sheet) (old new : ListingPlace) →
    ((w : walks.Walker) → Faces old w → None ≡ open_by true true w) → new.reports ≡ old.reports + 1 → new.pending ≡ None → (x : ParametricRunAnswer) →
    Taken IsParametricRunAnswer (judged C (OfParametricRun parametric_run) sheet old.cursor) new.cursor (Ok x) →
    Answered C (OfParametricRun parametric_run) sheet old new IsParametricRunAnswer (Ok x)
parametric_run_answered C parametric_run sheet old new none counted is_none x taken = λ w go f. record {
  answer = taken.answer;
  walker = walker_after (OfParametricRun parametric_run) sheet old new w f counted None;
  is_turn =
      turn_answered C (OfParametricRun parametric_run) sheet old (open_by true true) (λ v other. refl) none w go f
      (Right taken.answer new.cursor) taken.is_right;
  faces = faces_after (OfParametricRun parametric_run) sheet old new w f counted None (subst (λ (p : Option Pending). ShowsPending p None) (sym is_none) refl);
  holds = taken.shows;
}
