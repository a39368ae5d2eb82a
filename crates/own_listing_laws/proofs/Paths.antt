-- The verdict of a path lands: it is read back, and its test passes.
use Rattle.std.proofs.Common.{◌≡◌, ℕ, ◌≤◌, List, [], ◌++◌, length, Option, Some, None, Ok, refl, sym, ap, ap₂, subst, ◌∙◌, arith}
use Rattle.std.specs.Prelude.{min}
use Rattle.exact_values.specs.Rational.{ℚ}
use Rattle.lp_definitions.specs.LinearProgram.{LinearProgram, value_at, size, IsLinearProgram}
use Rattle.lp_definitions.specs.Basis.{Tableau, IsTableau}
use Rattle.check_definitions.specs.declared.Verdict.{Verdict}
use Rattle.check_definitions.specs.declared.Verdict.TheVariants.{Checked, Failed, Unchecked}
use Rattle.check_definitions.specs.Steps.{AllHold}
use Rattle.check_definitions.specs.Checks.{optimal_check}
use Rattle.certificate_check.specs.Results.{IsNotFailed}
use Rattle.simplex_definitions.specs.Path.{PathEnding, EndsOptimal, EndsCrossed, EndsInfeasible, EndsUnbounded, Ends as TurnEnds, last_of, worth_rate}
use Rattle.simplex_definitions.specs.Moves.{lowers}
use Rattle.control_definitions.specs.Cells.{steps_allowed}
use Rattle.simplex_laws.specs.Laws.{IsNonsingularBasis}
use Rattle.simplex_laws.proofs.Numbered.{find_some}
use Rattle.simplex_laws.proofs.OnePath.{path_leads}
use Rattle.simplex_laws.proofs.DualTurns.{dual_end}
use Rattle.simplex_laws.proofs.OneDualPath.{dual_path_leads, path_right}
use Rattle.problem_definitions.specs.Names.{Name}
use Rattle.selection_definitions.specs.Selection.{selected}
use Rattle.selection_laws.proofs.Selected.{selected_without_change}
use Rattle.listing_definitions.specs.declared.Mark.{Mark}
use Rattle.listing_definitions.specs.declared.Mark.TheVariants.{Optimal, Infeasible, Unbounded}
use Rattle.listing_definitions.specs.declared.Solver.{Solver}
use Rattle.listing_definitions.specs.declared.Solver.TheVariants.{Primal as ByPrimal, Dual as ByDual, Paraobj as ByParaobj, Pararhs as ByPararhs}
use Rattle.listing_definitions.specs.Report.{PathVerdict, Check, Report, Solved}
use Rattle.question_definitions.specs.Answers.{Basis, Sheet, Question, OfPath, PathEnd, Reached, PathLimit, PricesWrong}
use Rattle.question_definitions.specs.Solving.{IsRight}
use Rattle.answer_definitions.specs.Verdicts.{check_of, found, IsVerdict}
use Rattle.answer_definitions.specs.Verdicts as verdicts
use Rattle.answer_definitions.specs.Real.{linear_programming}
use Rattle.run_definitions.specs.State.{Present, present_basis, path_of, gone_through, State, choice_of}
use Rattle.run_definitions.specs.Moves.{Gain, Prints, gain_of, gain_text, StatementOutcome, InAnswer, Asks}
use Rattle.run_definitions.specs.Verbs.{asks, mark_of, demanded, by_verdict, after_path}
use Rattle.run_definitions.specs.Run.{counted}
use Rattle.soundness_laws.proofs.Runs.{knows_linear_programming}
use Rattle.parametric_laws.proofs.Runs.{last_of-append}
use Rattle.walk_definitions.specs.Checkers.{Checker, checker_of_128_bits}
use Rattle.walk_definitions.specs.Forms.{is_open_stop}
use Rattle.walk_definitions.specs.Words.{Parsed, max_count, fraction_in}
use Rattle.walk_definitions.specs.Tests.{verdict_test}
use Rattle.walk_definitions.specs.Reading.{Judged, Right, Refuses, by_verdict as judge, unread, tested_or, judged_map, judged, Claim, verdict_in}
use Rattle.walk_definitions.specs.Walker.{Pending, Walker, Unchecked, open_question, passed, pending_after, answered}
use Rattle.fitting_answers.specs.Fitting.{VerdictFits, CheckFits, GainFits}
use Rattle.own_listing_laws.specs.Printed.{IsReadable, IsPrinted}
use Rattle.own_listing_laws.proofs.Claims.{verdict_read}
use Rattle.own_listing_laws.proofs.Ended.{IsOf, claim_steps, end_holds, end_is, dual_end_is, dual_never_unbounded}
use Rattle.own_listing_laws.proofs.Suiting.{SuitsRuns, CanRefuse}
use Rattle.own_listing_laws.proofs.Tests.{Passes, verdict_passes, verdict_never_fails}
use Rattle.own_listing_laws.proofs.Stops.{open_limit, open_price}
use Rattle.own_listing_laws.proofs.Pace.{rebased, WaitsFor, WaitsAt, Lands, IsDue, AreAlike, WaitsAfter, follows_lands, RefusesTest, IsFollowed, may_stop}
use Rattle.own_listing_laws.proofs.Pace.{asked_lands, never_stopped}

-- ---- a test that passes

-- what is read is right, or an operation of its test is refused
pub judged_so : {X : Type 0} (C : Checker) (v : Verdict) (x : X) (rest : List ℕ) (P : Judged X → Type 0) → Passes C v → (v ≡ Checked → P (Right x rest)) →
    (CanRefuse C → P Refuses) → P (judge v x rest)
judged_so C Checked x rest P passes right refused = right refl
judged_so C (Failed part number) x rest P passes right refused = absurd passes.of
judged_so C (Unchecked r) x rest P passes right refused = refused (record { op = r.op; left = r.left; right = r.right; refuses = passes.of })

-- ---- the report of a verdict

demanded_gain : (position : Option ℕ) (code : ℕ) (report : Report) (state : State) → gain_of (demanded position code report state) ≡ Prints report
demanded_gain (Some position) code report state = refl
demanded_gain None code report state = refl

pub verdict_gain : (mark : Mark) (report : Report) (state : State) → gain_of (by_verdict mark report state) ≡ Prints report
verdict_gain Optimal report state = refl
verdict_gain Infeasible report state = demanded_gain state.cells.xdonfs 1 report state
verdict_gain Unbounded report state = demanded_gain state.cells.xdounb 2 report state

module _ (report : Report) (state : State) (opening : Basis) (steps : List Basis) (limits : steps_allowed state.cells ≤ max_count) where
  abbrev other : State
  other = record state { setup = rebased opening steps state.setup }

  demanded_alike : (position : Option ℕ) (code : ℕ) → AreAlike (demanded position code report other) (demanded position code report state)
  demanded_alike (Some position) code = (refl, record { opening = opening; steps = steps; is = refl; limits = limits })
  demanded_alike None code = (refl, refl)

  pub verdict_alike : (mark : Mark) → AreAlike (by_verdict mark report other) (by_verdict mark report state)
  verdict_alike Optimal = (refl, record { opening = opening; steps = steps; is = refl; limits = limits })
  verdict_alike Infeasible = demanded_alike state.cells.xdonfs 1
  verdict_alike Unbounded = demanded_alike state.cells.xdounb 2

module _ (pending : Option Pending) (report : Report) (state : State) (waits : WaitsAt pending state) where
  demanded_waits : (position : Option ℕ) (code : ℕ) → WaitsAfter pending (demanded position code report state)
  demanded_waits (Some position) code = waits
  demanded_waits None code = tt

  pub verdict_waits : (mark : Mark) → WaitsAfter pending (by_verdict mark report state)
  verdict_waits Optimal = waits
  verdict_waits Infeasible = demanded_waits state.cells.xdonfs 1
  verdict_waits Unbounded = demanded_waits state.cells.xdounb 2

-- ---- what a path's end prints

least_count : (n : ℕ) → min n 4294967295 ≤ 4294967295
least_count n = omega arith

ended_printed : (sheet : Sheet) (s : Basis) (t : Tableau) (n : ℕ) (ending : PathEnding) → IsOf sheet.lp s t ending →
    IsPrinted sheet (verdicts.verdict_of sheet n ending)
ended_printed sheet s t n (EndsOptimal z y) is = least_count n
ended_printed sheet s t n (EndsCrossed k) is = (omega (arith, is.0), is.1)
ended_printed sheet s t n (EndsInfeasible w) is = record { small = least_count n; ray = w; are_lines = refl }
ended_printed sheet s t n (EndsUnbounded z d) is = record { small = least_count n; point = z; direction = d; are_lines = refl }

pub verdict_printed : (sheet : Sheet) (s : Basis) (t : Tableau) (n : ℕ) (ending : PathEnding) (verdict : PathVerdict) → IsOf sheet.lp s t ending →
    verdict ≡ verdicts.verdict_of sheet n ending → IsPrinted sheet verdict
verdict_printed sheet s t n ending verdict is same = subst (IsPrinted sheet) (sym same) (ended_printed sheet s t n ending is)

-- a path that was gone
pub record HasEnded (solver : Solver) (sheet : Sheet) (s : Basis) (bases : List Basis) (verdict : PathVerdict) (check : Check) : Type 0 where
  pub tableau : Tableau
  pub is_tableau : IsTableau sheet.lp (last_of s bases) tableau
  pub ending : PathEnding
  pub is_of : IsOf sheet.lp (last_of s bases) tableau ending
  pub is_verdict : IsVerdict sheet (length bases) ending verdict check
  pub is_readable : IsReadable solver verdict
  -- from a nonsingular basis its end is true
  pub holds : IsLinearProgram sheet.lp → IsNonsingularBasis sheet.lp s → sheet.lp.change ≡ None → AllHold (claim_steps sheet.lp ending)

dual_readable : (sheet : Sheet) (n : ℕ) (ending : PathEnding) → ((z d : List ℚ) → ending ≡ EndsUnbounded z d → ⊥) →
    IsReadable ByDual (verdicts.verdict_of sheet n ending)
dual_readable sheet n (EndsOptimal z y) never = tt
dual_readable sheet n (EndsCrossed k) never = tt
dual_readable sheet n (EndsInfeasible w) never = tt
dual_readable sheet n (EndsUnbounded z d) never = absurd (never z d refl)

abbrev pub IsPathSolver : Solver → Type 0
IsPathSolver ByPrimal = Unit {0}
IsPathSolver ByDual = Unit {0}
IsPathSolver solver = ⊥

pub has_ended : (solver : Solver) → IsPathSolver solver →
    (sheet : Sheet) (s : Basis) (limit : Option ℕ) (bases : List Basis) (verdict : PathVerdict) (check : Check) →
    verdicts.IsSolvedBy solver sheet s limit (Reached bases verdict check) →
    HasEnded solver sheet s bases verdict check
has_ended ByPrimal path sheet s limit bases verdict check solved = record {
  tableau = solved.ends.ends.tableau;
  is_tableau = solved.ends.ends.is_tableau;
  ending = solved.ending;
  is_of = end_is sheet.lp (last_of s bases) solved.ends.ends.tableau solved.ending solved.ends.ends.turns;
  is_verdict = solved.is_verdict;
  is_readable = tt;
  holds = λ lawful at no_change.
      end_holds sheet.lp lawful (last_of s bases) solved.ending (path_leads sheet.lp s bases at solved.ends.is_path) solved.ends.ends;
}
has_ended ByDual path sheet s limit bases verdict check solved = record {
  tableau = solved.1.ends.ends.tableau;
  is_tableau = solved.1.ends.ends.is_tableau;
  ending = solved.1.ending;
  is_of = dual_end_is sheet.lp (last_of s bases) solved.1.ends.ends.tableau solved.1.ending solved.1.ends.ends.turns;
  is_verdict = solved.1.is_verdict;
  is_readable = subst (IsReadable ByDual) (sym solved.1.is_verdict.is_verdict) (dual_readable sheet (length bases) solved.1.ending
      (λ z d is. dual_never_unbounded sheet.lp (last_of s bases) solved.1.ends.ends.tableau z d (solved.1.ends.ends.turns ∙ ap TurnEnds is)));
  holds = λ lawful at no_change.
      let last = dual_path_leads sheet.lp s bases at solved.1.ends.is_path in
      end_holds sheet.lp lawful (last_of s bases) solved.1.ending last
      (dual_end sheet.lp (last_of s bases) solved.1.ending lawful last (path_right sheet.lp lawful no_change s bases at solved.0 solved.1.ends.is_path)
      solved.1.ends.ends);
}
has_ended ByParaobj path sheet s limit bases verdict check solved = absurd path
has_ended ByPararhs path sheet s limit bases verdict check solved = absurd path

ended_never_fails : (solver : Solver) (sheet : Sheet) (s : Basis) (bases : List Basis) (verdict : PathVerdict) (check : Check) →
    HasEnded solver sheet s bases verdict check → IsNotFailed (verdict_test checker_of_128_bits sheet verdict check)
ended_never_fails solver sheet s bases verdict check ended =
    verdict_never_fails sheet (last_of s bases) ended.tableau (length bases) ended.ending verdict ended.is_of check ended.is_verdict

-- in numbers of 128 bits the test of a path's verdict never fails, from whatever basis
pub path_never_fails : (solver : Solver) (sheet : Sheet) (s : Basis) (limit : Option ℕ) (bases : List Basis) (verdict : PathVerdict) (check : Check) →
    verdicts.IsSolvedBy solver sheet s limit (Reached bases verdict check) →
    IsNotFailed (verdict_test checker_of_128_bits sheet verdict check)
path_never_fails ByPrimal sheet s limit bases verdict check solved =
    ended_never_fails ByPrimal sheet s bases verdict check (has_ended ByPrimal tt sheet s limit bases verdict check solved)
path_never_fails ByDual sheet s limit bases verdict check solved =
    ended_never_fails ByDual sheet s bases verdict check (has_ended ByDual tt sheet s limit bases verdict check solved)
path_never_fails ByParaobj sheet s limit bases verdict check solved = absurd solved
path_never_fails ByPararhs sheet s limit bases verdict check solved = absurd solved

-- ---- what is pending after it

pending_of : (sheet : Sheet) (setup : Option Present) (objective rhs : Option Name) (present : Present) (rest : List ℕ) (n : ℕ) (t : Tableau)
    (ending : PathEnding) (verdict : PathVerdict) (check : Check) →
    setup ≡ Some present → selected present.problem (record { objective = objective; rhs = rhs; options = present.options }) ≡ Ok sheet.lp →
    IsTableau sheet.lp (present_basis present) t → IsOf sheet.lp (present_basis present) t ending →
    verdict ≡ verdicts.verdict_of sheet n ending → check_of sheet.lp ending ≡ found check → WaitsFor (pending_after rest verdict check) setup objective rhs
pending_of sheet setup objective rhs present rest n t ending verdict check set is tab of same checks =
    subst (λ v. WaitsFor (pending_after rest v check) setup objective rhs) (sym same) (by ending of checks)
  where
    by : (ending : PathEnding) → IsOf sheet.lp (present_basis present) t ending → check_of sheet.lp ending ≡ found check →
        WaitsFor (pending_after rest (verdicts.verdict_of sheet n ending) check) setup objective rhs
    by (EndsOptimal z y) of checks = record {
      present = present;
      is_setup = set;
      lp = sheet.lp;
      is_selected = is;
      tableau = t;
      is_tableau = tab;
      is_objective = ap (λ (xs : List ℚ). value_at xs sheet.lp.objective) of.0;
      is_check = ap₂ (λ (xs ys : List ℚ). optimal_check sheet.lp (value_at xs) (value_at ys)) (sym of.0) (sym of.1) ∙ checks;
    }
    by (EndsCrossed k) of checks = tt
    by (EndsInfeasible w) of checks = tt
    by (EndsUnbounded z d) of checks = tt

-- the variable of a wrong price
pub wrong_variable : (sheet : Sheet) (s : Basis) → size sheet.lp.matrix ≤ max_count → (solver : Solver) → IsPathSolver solver → (limit : Option ℕ) (j : ℕ) →
    verdicts.IsSolvedBy solver sheet s limit (PricesWrong j) → j ≤ max_count
wrong_variable sheet s few ByPrimal path limit j wrong = absurd wrong
wrong_variable sheet s few ByDual path limit j wrong =
    let found = find_some (lowers sheet.lp s (worth_rate sheet.lp s wrong.tableau)) (size sheet.lp.matrix) 1 j wrong.wrong in
    omega (arith, found.high, few)
wrong_variable sheet s few ByParaobj path limit j wrong = absurd path
wrong_variable sheet s few ByPararhs path limit j wrong = absurd path

-- ---- the question of a path

module _ (C : Checker) (suits : SuitsRuns C) (w : Walker) (s : State) (opening : Basis) (steps : List Basis) (card : ℕ) (solver : Solver)
    (path : IsPathSolver solver) (limit : Option ℕ)
    (present : Present) (lp : LinearProgram) (set : s.setup ≡ Some present)
    (is : selected present.problem (choice_of s.cells present.options) ≡ Ok lp) (limits : steps_allowed s.cells ≤ max_count)
    (few : size lp.matrix ≤ max_count) (lawful : IsLinearProgram lp) (at : IsNonsingularBasis lp (present_basis present)) where
  abbrev sheet : Sheet
  sheet = record { problem = present.problem; lp = lp }

  -- the state of the walk, and its setup
  abbrev walked : State
  walked = record s { setup = rebased opening steps s.setup }

  abbrev set_up : Present
  set_up = record present { opening = opening; steps = steps }

  abbrev go : PathEnd → StatementOutcome
  go = after_path solver card set_up (counted walked)

  abbrev own : PathEnd → StatementOutcome
  own = after_path solver card present (counted s)

  abbrev question : Question
  question = OfPath solver limit

  reached_lands : (bases : List Basis) (verdict : PathVerdict) (check : Check) (more : List ℕ) →
      HasEnded solver sheet (present_basis present) bases verdict check → IsDue w (own (Reached bases verdict check)) more →
      Lands (RefusesTest C w) (own (Reached bases verdict check)) more (answered C w question sheet go (judged C question sheet w.rest))
  reached_lands bases verdict check more ended given =
      subst (λ (parsed : Parsed Claim). LandsSo (judged_map f (tested_or (unread C reads w.rest) test parsed))) (sym read)
      (judged_so C (test (verdict, check)) (verdict, check) more (λ j. LandsSo (judged_map f j)) passes (λ checked. right)
      (λ can. record { is_rest = refl; can = can }))
    where
      f : Claim → PathEnd
      f claim = Reached [] claim.0 claim.1

      test : Claim → Verdict
      test claim = verdict_test C sheet claim.0 claim.1

      reads : (List ℕ → Option ℚ) → List ℕ → Parsed Claim
      reads of = verdict_in of sheet solver

      after : State
      after = record (counted s) { setup = Some (gone_through bases present); mark = Some (mark_of verdict) }

      gain : gain_of (own (Reached bases verdict check)) ≡ Prints (Solved solver verdict check)
      gain = verdict_gain (mark_of verdict) (Solved solver verdict check) after

      fits : VerdictFits verdict × CheckFits check
      fits = subst GainFits gain given.fits

      LandsSo : Judged PathEnd → Type 0
      LandsSo j = Lands (RefusesTest C w) (own (Reached bases verdict check)) more (answered C w question sheet go j)

      read : verdict_in (fraction_in C) sheet solver w.rest ≡ Some ((verdict, check), more)
      read =
          ap (verdict_in (fraction_in C) sheet solver) (given.text ∙ ap (λ (g : Gain). gain_text g ++ more) gain)
          ∙ verdict_read (fraction_in C) suits.reads sheet check fits.1 more solver verdict ended.is_readable
          (verdict_printed sheet (last_of (present_basis present) bases) ended.tableau
          (length bases) ended.ending verdict ended.is_of ended.is_verdict.is_verdict) fits.0 given.plain

      passes : Passes C (verdict_test C sheet verdict check)
      passes =
          verdict_passes sheet (last_of (present_basis present) bases) ended.tableau C suits (length bases) ended.ending verdict check ended.is_of
          (ended.holds lawful at (selected_without_change present.problem (choice_of s.cells present.options) lp is)) ended.is_verdict

      there : present_basis (gone_through bases present) ≡ last_of (present_basis present) bases
      there = last_of-append present.opening present.steps bases

      waits : WaitsAt (pending_after w.rest verdict check) after
      waits =
          pending_of sheet after.setup after.cells.xobj after.cells.xrhs (gone_through bases present) w.rest
          (length bases) ended.tableau ended.ending verdict check refl is
          (subst (λ b. IsTableau lp b ended.tableau) (sym there) ended.is_tableau)
          (subst (λ b. IsOf lp b ended.tableau ended.ending) (sym there) ended.is_of) ended.is_verdict.is_verdict ended.is_verdict.is_check

      right : LandsSo (Right (Reached [] verdict check) more)
      right =
          follows_lands (RefusesTest C w) (record (passed more 1 w) { pending = pending_after w.rest verdict check }) (go (Reached [] verdict check))
          (own (Reached bases verdict check)) more
          (verdict_alike (Solved solver verdict check) after opening (steps ++ []) limits (mark_of verdict)) refl given.ends
          (verdict_waits (pending_after w.rest verdict check) (Solved solver verdict check) after waits (mark_of verdict))

  pub path_followed : IsFollowed C w card (asks question sheet set_up go) (asks question sheet present own)
  path_followed =
      may_stop C w card (Asks question sheet (present_basis set_up) go) (Asks question sheet (present_basis present) own)
      (InAnswer question sheet (path_of set_up)) (InAnswer question sheet (path_of present)) tt
      (asked_lands C w card question sheet (present_basis set_up) (present_basis present) go own lands)
    where
      lands : card ≤ max_count → (answer : PathEnd) (more : List ℕ) → IsRight linear_programming question sheet (present_basis present) answer →
          IsDue w (own answer) more → open_question w question sheet go ≡ None →
          Lands (RefusesTest C w) (own answer) more (answered C w question sheet go (judged C question sheet w.rest))
      lands small (Reached bases verdict check) more right given none =
          reached_lands bases verdict check more
          (has_ended solver path sheet (present_basis present) limit bases verdict check
          (knows_linear_programming.solves solver sheet (present_basis present) limit (Reached bases verdict check) right)) given
      lands small PathLimit more right given none =
          absurd (never_stopped C w card question sheet (present_basis set_up) (present_basis present) go own none
          (ap is_open_stop (given.text ∙ given.ends) ∙ open_limit _ limits small))
      lands small (PricesWrong j) more right given none =
          absurd (never_stopped C w card question sheet (present_basis set_up) (present_basis present) go own none
          (ap is_open_stop (given.text ∙ given.ends)
          ∙ open_price _ small
          (wrong_variable sheet (present_basis present) few solver path limit j (knows_linear_programming.solves solver sheet (present_basis present) limit
          (PricesWrong j) right))))
