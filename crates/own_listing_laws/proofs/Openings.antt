-- A parametric run lands: the verdict of an opening that isn't optimal is read back and passes its test; a stop at the limit on steps is
-- open. That a chain of intervals lands is a premise here.
--     IsFine C x rest judged       this is read, with this left, or an operation of a test is refused
use Rattle.std.proofs.Common.{◌≡◌, ◌≤◌, ℕ, false, List, [], ◌∷◌, ◌++◌, length, Option, Some, None, codes, refl, sym, ap, subst, ◌∙◌, append_assoc, append-nil}
use Rattle.std.proofs.lemmas.List.{append_cancel_left}
use Rattle.exact_values.specs.Rational.{ℚ}
use Rattle.lp_definitions.specs.LinearProgram.{LinearProgram, lower_of, upper_of, value_at, IsLinearProgram}
use Rattle.check_definitions.specs.declared.Verdict.{Verdict}
use Rattle.check_definitions.specs.declared.Verdict.TheVariants.{Checked, Failed, Unchecked}
use Rattle.check_definitions.specs.Steps.{Step, AllHold, in_turn}
use Rattle.certificate_laws.proofs.Truth.{both_hold, sum_holds, all_hold}
use Rattle.simplex_definitions.specs.Path.{PathEnding, EndsOptimal, EndsCrossed, EndsInfeasible, EndsUnbounded, last_of}
use Rattle.simplex_definitions.specs.Chain.{IsFailure, FailedOpening}
use Rattle.simplex_laws.specs.Laws.{IsNonsingularBasis}
use Rattle.parametric_laws.specs.Laws.{HasTrueRuns}
use Rattle.parametric_laws.specs.Truth.{IsTrueReport}
use Rattle.parametric_laws.proofs.TrueRuns.{objective_runs, rhs_runs}
use Rattle.parametric_laws.proofs.OneObjective.{lawful_objective}
use Rattle.parametric_laws.proofs.OneRhs.{lawful_rhs}
use Rattle.problem_definitions.specs.Problem.{Problem}
use Rattle.listing_definitions.specs.declared.Solver.{Solver}
use Rattle.listing_definitions.specs.Numbers.{rational_text}
use Rattle.listing_definitions.specs.Report.{PathVerdict, OptimalAt, CrossedAt, InfeasibleBy, UnboundedBy, Check, ParametricInterval, ChainEnd, Solved}
use Rattle.listing_definitions.specs.Text.{check_text, table_text, solver_text, verdict_head, verdict_lines, verdict_text}
use Rattle.listing_laws.proofs.Words.{begin_otherwise}
use Rattle.question_definitions.specs.Answers.{Basis, Sheet, Changing, Row, Set, changing_name, parametric_solver, ParametricRun, Question, OfParametricRun}
use Rattle.question_definitions.specs.Answers.{ParametricRunEnd, Opening, Chained, ParametricRunLimit}
use Rattle.question_definitions.specs.Solving.{IsRight}
use Rattle.answer_definitions.specs.Verdicts as verdicts
use Rattle.answer_definitions.specs.ParametricRuns.{row_of, shifts_of, family_of, IsFace, sheet_at, FailsToOpen, IsChained}
use Rattle.soundness_laws.specs.ParametricRuns.{ChangesFreely}
use Rattle.answer_definitions.specs.Real.{linear_programming}
use Rattle.run_definitions.specs.State.{Present, present_basis, path_of, gone_through, State}
use Rattle.run_definitions.specs.Moves.{Gain, Prints, gain_of, gain_text, StatementOutcome, InAnswer, Asks}
use Rattle.run_definitions.specs.Verbs.{asks, mark_of, after_parametric_run}
use Rattle.run_definitions.specs.Run.{counted}
use Rattle.soundness_laws.proofs.Runs.{knows_linear_programming}
use Rattle.control_definitions.specs.Cells.{steps_allowed}
use Rattle.walk_definitions.specs.Checkers.{Checker, checker_of_any_length}
use Rattle.walk_definitions.specs.Words.{Parsed, left_after, max_count, fraction_in}
use Rattle.walk_definitions.specs.Tables.{begins_table_line}
use Rattle.walk_definitions.specs.Forms.{is_open_stop}
use Rattle.walk_definitions.specs.Tests.{says, verdict_test, moving_steps, making_steps}
use Rattle.walk_definitions.specs.Reading.{Judged, Right, Refuses, by_verdict, unread, tested_or, judged_map, judged, Claim, verdict_in, parametric_run_head}
use Rattle.walk_definitions.specs.Reading.{parametric_run_in}
use Rattle.walk_definitions.specs.Walker.{Walker, open_question, passed, answered}
use Rattle.walk_definitions.proofs.Texts.{is_text}
use Rattle.fitting_answers.specs.Fitting.{VerdictFits, CheckFits, GainFits}
use Rattle.own_listing_laws.specs.Printed.{IsReadable, IsPrinted}
use Rattle.own_listing_laws.proofs.Claims.{verdict_read}
use Rattle.own_listing_laws.proofs.Ended.{IsOf, failure_holds, end_is}
use Rattle.own_listing_laws.proofs.Suiting.{SuitsRuns, CanRefuse, never_refuses_any_length}
use Rattle.own_listing_laws.proofs.Tests.{Passes, pass_none, pass_then, pass_steps, verdict_passes}
use Rattle.own_listing_laws.proofs.Stops.{open_limit}
use Rattle.own_listing_laws.proofs.Pace.{rebased, Lands, IsDue, follows_lands, RefusesTest, IsFollowed, may_stop, asked_lands, never_stopped}
use Rattle.own_listing_laws.proofs.Paths.{verdict_gain, verdict_alike, verdict_waits, verdict_printed}

-- ---- what is made of the limits compares nothing

moving_holds : (sheet : Sheet) (theta by : ℚ) (limit : Option ℚ) → AllHold (moving_steps sheet theta by limit)
moving_holds sheet theta by None = tt
moving_holds sheet theta by (Some limit) = sum_holds limit (record { left = theta; right = by } ∷ [])

pub making_holds : (sheet : Sheet) (changing : Changing) (theta : ℚ) → AllHold (making_steps sheet changing theta)
making_holds sheet (Row name) theta = tt
making_holds sheet (Set name) theta = all_hold both 1 sheet.lp.rows (λ i low high.
    both_hold (moving_steps sheet theta (by i) (lower_of sheet.lp i)) (moving_steps sheet theta (by i) (upper_of sheet.lp i))
    (moving_holds sheet theta (by i) (lower_of sheet.lp i)) (moving_holds sheet theta (by i) (upper_of sheet.lp i)))
  where
    by : ℕ → ℚ
    by i = value_at (shifts_of sheet.problem name) i

    both : ℕ → List Step
    both i = moving_steps sheet theta (by i) (lower_of sheet.lp i) ++ moving_steps sheet theta (by i) (upper_of sheet.lp i)

-- ---- what a parametric run reports is true

pub true_run : (sheet : Sheet) (changing : Changing) → IsLinearProgram sheet.lp → ChangesFreely sheet changing →
    HasTrueRuns sheet.lp (family_of sheet changing) (IsFace sheet changing)
true_run sheet (Row name) lawful free = objective_runs sheet.lp (row_of sheet.problem name) lawful free.0 free.1
true_run sheet (Set name) lawful free = rhs_runs sheet.lp (shifts_of sheet.problem name) lawful

pub lawful_of : (sheet : Sheet) (changing : Changing) → IsLinearProgram sheet.lp → ChangesFreely sheet changing → (theta : ℚ) →
    IsLinearProgram (family_of sheet changing theta)
lawful_of sheet (Row name) lawful free theta = lawful_objective sheet.lp (row_of sheet.problem name) lawful free.0 free.1 theta
lawful_of sheet (Set name) lawful free theta = lawful_rhs sheet.lp (shifts_of sheet.problem name) lawful theta

-- ---- the verdict of an opening

-- the linear program at a value has the same variables
same_lines : (sheet : Sheet) (changing : Changing) (theta : ℚ) (verdict : PathVerdict) → IsPrinted (sheet_at sheet changing theta) verdict →
    IsPrinted sheet verdict
same_lines sheet (Row name) theta (OptimalAt steps objective) printed = printed
same_lines sheet (Row name) theta (CrossedAt k) printed = printed
same_lines sheet (Row name) theta (InfeasibleBy steps lines) printed = record { small = printed.small; ray = printed.ray; are_lines = printed.are_lines }
same_lines sheet (Row name) theta (UnboundedBy steps objective lines) printed =
    record { small = printed.small; point = printed.point; direction = printed.direction; are_lines = printed.are_lines }
same_lines sheet (Set name) theta (OptimalAt steps objective) printed = printed
same_lines sheet (Set name) theta (CrossedAt k) printed = printed
same_lines sheet (Set name) theta (InfeasibleBy steps lines) printed = record { small = printed.small; ray = printed.ray; are_lines = printed.are_lines }
same_lines sheet (Set name) theta (UnboundedBy steps objective lines) printed =
    record { small = printed.small; point = printed.point; direction = printed.direction; are_lines = printed.are_lines }

failure_readable : (sheet : Sheet) (changing : Changing) (n : ℕ) (ending : PathEnding) → IsFailure ending →
    IsReadable (parametric_solver changing) (verdicts.verdict_of sheet n ending)
failure_readable sheet changing n (EndsOptimal z y) fails = absurd fails
failure_readable sheet (Row name) n (EndsCrossed k) fails = tt
failure_readable sheet (Row name) n (EndsInfeasible w) fails = tt
failure_readable sheet (Row name) n (EndsUnbounded z d) fails = tt
failure_readable sheet (Set name) n (EndsCrossed k) fails = tt
failure_readable sheet (Set name) n (EndsInfeasible w) fails = tt
failure_readable sheet (Set name) n (EndsUnbounded z d) fails = tt

-- no head of a chain stands before a verdict
no_from : (rest left : List ℕ) (verdict : PathVerdict) → codes "FROM " ++ left ≡ verdict_head verdict ++ rest → ⊥
no_from rest left (OptimalAt steps objective) e = begin_otherwise 1 _ _ refl e
no_from rest left (CrossedAt k) e = begin_otherwise 1 _ _ refl e
no_from rest left (InfeasibleBy steps lines) e = begin_otherwise 1 _ _ refl e
no_from rest left (UnboundedBy steps objective lines) e = begin_otherwise 1 _ _ refl e

as_head : (solver from change left : List ℕ) →
    (solver ++ (codes " FROM " ++ (from ++ change))) ++ left ≡ (solver ++ codes " ") ++ (codes "FROM " ++ (from ++ (change ++ left)))
as_head solver from change left = simp append_assoc

as_verdict : (solver head check lines more : List ℕ) →
    (solver ++ (codes " " ++ (head ++ (codes " " ++ (check ++ (codes "\n" ++ (lines ++ []))))))) ++ more ≡ (solver ++ codes " ") ++
    (head ++ (codes " " ++ (check ++ (codes "\n" ++ (lines ++ more)))))
as_verdict solver head check lines more = simp (append_assoc, append-nil)

no_chain : (parametric_run : ParametricRun) (verdict : PathVerdict) (check : Check) (more : List ℕ) →
    left_after (parametric_run_head parametric_run) (verdict_text (parametric_solver parametric_run.changing) verdict check ++ more) ≡ None
no_chain parametric_run verdict check more = by (left_after (parametric_run_head parametric_run) text) refl
  where
    solver : List ℕ
    solver = solver_text (parametric_solver parametric_run.changing)

    text : List ℕ
    text = verdict_text (parametric_solver parametric_run.changing) verdict check ++ more

    by : (o : Option (List ℕ)) → left_after (parametric_run_head parametric_run) text ≡ o → o ≡ None
    by None e = refl
    by (Some left) e =
        let change = codes " CHANGE " ++ (changing_name parametric_run.changing ++ codes "\n") in
        let after = codes " " ++ (check_text check ++ (codes "\n" ++ (table_text (verdict_lines verdict) ++ more))) in
        absurd (no_from after (rational_text parametric_run.from ++ (change ++ left)) verdict
        (append_cancel_left (solver ++ codes " ") (codes "FROM " ++ (rational_text parametric_run.from ++ (change ++ left))) (verdict_head verdict ++ after)
        (sym (as_head solver (rational_text parametric_run.from) change left) ∙ sym (is_text (parametric_run_head parametric_run) text left e)
        ∙ as_verdict solver (verdict_head verdict) (check_text check) (table_text (verdict_lines verdict)) more)))

-- ---- what is read of it

-- this is read, with this left, or an operation of a test is refused
pub data IsFine {X : Type 0} (C : Checker) (x : X) (rest : List ℕ) : Judged X → Type 0 where
  fine_right : IsFine C x rest (Right x rest)
  fine_refused : CanRefuse C → IsFine C x rest Refuses

pub fine_map : {X Y : Type 0} (C : Checker) (f : X → Y) (x : X) (rest : List ℕ) (j : Judged X) → IsFine C x rest j → IsFine C (f x) rest (judged_map f j)
fine_map C f x rest _ fine_right = fine_right
fine_map C f x rest _ (fine_refused can) = fine_refused can

pub fine_tested : {X : Type 0} (C : Checker) (test : X → Verdict) (x : X) (rest : List ℕ) → Passes C (test x) → IsFine C x rest (by_verdict (test x) x rest)
fine_tested C test x rest passes = by (test x) passes
  where
    by : (v : Verdict) → Passes C v → IsFine C x rest (by_verdict v x rest)
    by Checked passes = fine_right
    by (Failed part number) passes = absurd passes.of
    by (Unchecked refused) passes =
        fine_refused (record { op = refused.op; left = refused.left; right = refused.right; refuses = passes.of })

-- where nothing is refused
pub fine_at_any_length : {X : Type 0} (x : X) (rest : List ℕ) (j : Judged X) → IsFine checker_of_any_length x rest j → j ≡ Right x rest
fine_at_any_length x rest _ fine_right = refl
fine_at_any_length x rest _ (fine_refused can) = absurd (never_refuses_any_length can)

module _ (C : Checker) (suits : SuitsRuns C) (problem : Problem ℕ) (lp : LinearProgram) (parametric_run : ParametricRun) (lawful : IsLinearProgram lp)
    (free : ChangesFreely (record { problem = problem; lp = lp }) parametric_run.changing) (basis : Basis) (nonsingular : IsNonsingularBasis lp basis)
    (bases : List Basis) (verdict : PathVerdict) (check : Check) (more : List ℕ)
    (failed : FailsToOpen (record { problem = problem; lp = lp }) basis parametric_run bases verdict check) where
  abbrev opened : Sheet
  opened = record { problem = problem; lp = lp }

  abbrev first : Sheet
  first = sheet_at opened parametric_run.changing parametric_run.from

  abbrev last : Basis
  last = last_of basis bases

  abbrev solver : Solver
  solver = parametric_solver parametric_run.changing

  abbrev opening_test : Claim → Verdict
  opening_test claim = in_turn (says C (making_steps opened parametric_run.changing parametric_run.from) ∷ verdict_test C first claim.0 claim.1 ∷ [])

  is_of : IsOf first.lp last failed.opens.opens.ends.tableau failed.ending
  is_of = end_is first.lp last failed.opens.opens.ends.tableau failed.ending failed.opens.opens.ends.turns

  readable : IsReadable solver verdict
  readable =
      subst (IsReadable solver) (sym failed.is_verdict.is_verdict)
      (failure_readable first parametric_run.changing (length bases) failed.ending failed.opens.is_failure)

  printed : IsPrinted opened verdict
  printed =
      same_lines opened parametric_run.changing parametric_run.from verdict
      (verdict_printed first last failed.opens.opens.ends.tableau (length bases) failed.ending verdict is_of failed.is_verdict.is_verdict)

  is_true : IsTrueReport (family_of opened parametric_run.changing) parametric_run.from parametric_run.to (FailedOpening failed.ending)
  is_true =
      true_run opened parametric_run.changing lawful free parametric_run.from parametric_run.to basis (FailedOpening failed.ending) bases nonsingular
      failed.opens

  opening_passes : Passes C (opening_test (verdict, check))
  opening_passes =
      (pass_steps C (making_steps opened parametric_run.changing parametric_run.from) _ (making_holds opened parametric_run.changing parametric_run.from)
      (pass_then C (verdict_test C first verdict check) []
      (verdict_passes first last failed.opens.opens.ends.tableau C suits (length bases) failed.ending verdict check is_of
      (failure_holds first.lp (lawful_of opened parametric_run.changing lawful free parametric_run.from) failed.ending is_true) failed.is_verdict)
      (pass_none C))).passes

  pub opening_fine : (rest : List ℕ) → rest ≡ verdict_text (parametric_solver parametric_run.changing) verdict check ++ more → VerdictFits verdict →
      CheckFits check → begins_table_line more ≡ false →
      IsFine C (Opening [] verdict check) more (judged C (OfParametricRun parametric_run) (record { problem = problem; lp = lp }) rest)
  opening_fine rest is fits check_fits plain =
      subst (λ (o : Option (List ℕ)). IsFine C (Opening [] verdict check) more (parametric_run_in C opened parametric_run rest o))
      (sym (ap (left_after (parametric_run_head parametric_run)) is ∙ no_chain parametric_run verdict check more))
      (fine_map C f (verdict, check) more (judges (verdict_in (fraction_in C) opened solver rest))
      (subst (λ (parsed : Parsed Claim). IsFine C (verdict, check) more (judges parsed))
      (sym (ap (verdict_in (fraction_in C) opened solver) is
      ∙ verdict_read (fraction_in C) suits.reads opened check check_fits more solver verdict readable printed fits plain))
      (fine_tested C opening_test (verdict, check) more opening_passes)))
    where
      f : Claim → ParametricRunEnd
      f claim = Opening [] claim.0 claim.1

      judges : Parsed Claim → Judged Claim
      judges parsed = tested_or (unread C (λ of. verdict_in of opened solver) rest) opening_test parsed

-- ---- the question of a parametric run

module _ (C : Checker) (suits : SuitsRuns C) (w : Walker) (s : State) (opening : Basis) (steps : List Basis)
    (limits : steps_allowed s.cells ≤ max_count) (card : ℕ)
    (parametric_run : ParametricRun) (present : Present) (lp : LinearProgram) (lawful : IsLinearProgram lp)
    (free : ChangesFreely (record { problem = present.problem; lp = lp }) parametric_run.changing) (at : IsNonsingularBasis lp (present_basis present)) where
  abbrev sheet : Sheet
  sheet = record { problem = present.problem; lp = lp }

  abbrev pub parametric_run_sheet : Sheet
  parametric_run_sheet = sheet

  abbrev walked : State
  walked = record s { setup = rebased opening steps s.setup }

  abbrev set_up : Present
  set_up = record present { opening = opening; steps = steps }

  abbrev go : ParametricRunEnd → StatementOutcome
  go = after_parametric_run card parametric_run set_up (counted walked)

  abbrev own : ParametricRunEnd → StatementOutcome
  own = after_parametric_run card parametric_run present (counted s)

  abbrev question : Question
  question = OfParametricRun parametric_run

  abbrev pub ParametricRunLands : ParametricRunEnd → List ℕ → Type 0
  ParametricRunLands end more =
      IsDue w (own end) more → Lands (RefusesTest C w) (own end) more (answered C w question sheet go (judged C question sheet w.rest))

  opening_lands : (bases : List Basis) (verdict : PathVerdict) (check : Check) (more : List ℕ) →
      FailsToOpen sheet (present_basis present) parametric_run bases verdict check → ParametricRunLands (Opening bases verdict check) more
  opening_lands bases verdict check more failed given =
      lands (judged C question sheet w.rest)
      (opening_fine C suits present.problem lp parametric_run lawful free (present_basis present) at bases verdict check more failed w.rest
      (given.text ∙ ap (λ (g : Gain). gain_text g ++ more) gain) fits.0 fits.1 given.plain)
    where
      after : State
      after = record (counted s) { setup = Some (gone_through bases present); mark = None }

      gain : gain_of (own (Opening bases verdict check)) ≡ Prints (Solved (parametric_solver parametric_run.changing) verdict check)
      gain = verdict_gain (mark_of verdict) (Solved (parametric_solver parametric_run.changing) verdict check) after

      fits : VerdictFits verdict × CheckFits check
      fits = subst GainFits gain given.fits

      lands : (j : Judged ParametricRunEnd) → IsFine C (Opening [] verdict check) more j →
          Lands (RefusesTest C w) (own (Opening bases verdict check)) more (answered C w question sheet go j)
      lands _ fine_right =
          follows_lands (RefusesTest C w) (record (passed more 1 w) { pending = None }) (go (Opening [] verdict check))
          (own (Opening bases verdict check)) more
          (verdict_alike (Solved (parametric_solver parametric_run.changing) verdict check) after opening (steps ++ []) limits
          (mark_of verdict)) refl given.ends
          (verdict_waits None (Solved (parametric_solver parametric_run.changing) verdict check) after tt (mark_of verdict))
      lands _ (fine_refused can) = record { is_rest = refl; can = can }

  pub parametric_run_followed :
      ((bases : List Basis) (intervals : List ParametricInterval) (end : ChainEnd) (more : List ℕ) →
      IsChained sheet (present_basis present) parametric_run bases intervals end → ParametricRunLands (Chained bases intervals end) more) →
      IsFollowed C w card (asks question sheet set_up go) (asks question sheet present own)
  parametric_run_followed chained =
      may_stop C w card (Asks question sheet (present_basis set_up) go) (Asks question sheet (present_basis present) own)
      (InAnswer question sheet (path_of set_up)) (InAnswer question sheet (path_of present)) tt
      (asked_lands C w card question sheet (present_basis set_up) (present_basis present) go own lands)
    where
      lands : card ≤ max_count → (answer : ParametricRunEnd) (more : List ℕ) → IsRight linear_programming question sheet (present_basis present) answer →
          IsDue w (own answer) more → open_question w question sheet go ≡ None →
          Lands (RefusesTest C w) (own answer) more (answered C w question sheet go (judged C question sheet w.rest))
      lands small (Opening bases verdict check) more right given none =
          opening_lands bases verdict check more
          (knows_linear_programming.parametric_runs sheet (present_basis present) parametric_run (Opening bases verdict check) right) given
      lands small (Chained bases intervals end) more right given none =
          chained bases intervals end more
          (knows_linear_programming.parametric_runs sheet (present_basis present) parametric_run (Chained bases intervals end) right) given
      lands small ParametricRunLimit more right given none =
          absurd (never_stopped C w card question sheet (present_basis set_up) (present_basis present) go own none
          (ap is_open_stop (given.text ∙ given.ends) ∙ open_limit _ limits small))
