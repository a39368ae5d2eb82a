-- What a run prints with the word CHECKED is judged right, and its SOLUTION settles its optimal verdict; at any length whatever it prints of a
-- path, of SOLUTION and of a parametric run is.
use Rattle.std.proofs.Common.{◌≡◌, ℕ, ◌+◌, ◌<◌, ◌≤◌, true, false, List, [], ◌++◌, length, Option, refl, sym, ap, ap₂, subst, ◌∙◌, arith}
use Rattle.exact_values.specs.Rational.{ℚ}
use Rattle.frac128.specs.declared.Op.TheVariants.{Sub}
use Rattle.frac128.specs.Operations.{refuses}
use Rattle.lp_definitions.specs.LinearProgram.{value_at, IsLinearProgram}
use Rattle.lp_definitions.specs.Basis.{Tableau, IsTableau, basics_of, price_at}
use Rattle.check_definitions.specs.declared.Verdict.{Verdict}
use Rattle.check_definitions.specs.declared.Verdict.TheVariants.{Checked}
use Rattle.check_definitions.specs.Checks.{optimal_check}
use Rattle.simplex_definitions.specs.Path.{PathEnding, EndsOptimal, EndsCrossed, EndsInfeasible, EndsUnbounded, last_of, listed}
use Rattle.simplex_laws.specs.Laws.{IsNonsingularBasis}
use Rattle.soundness_laws.proofs.Ends.{reported_is_best}
use Rattle.listing_definitions.specs.declared.Mark.{Mark}
use Rattle.listing_definitions.specs.declared.Mark.TheVariants.{Optimal}
use Rattle.listing_definitions.specs.declared.Solver.{Solver}
use Rattle.listing_definitions.specs.declared.Solver.TheVariants.{Primal as ByPrimal, Dual as ByDual, Paraobj as ByParaobj, Pararhs as ByPararhs}
use Rattle.listing_definitions.specs.Report.{PathVerdict, OptimalAt, Check, SolutionLines}
use Rattle.listing_definitions.specs.Report as reports
use Rattle.listing_definitions.specs.Text.{verdict_text, solution_text, chain_text}
use Rattle.question_definitions.specs.Answers.{Basis, Sheet, parametric_solver, OfPath, OfSolution, OfParametricRun, PathEnd, Reached, Opening, Chained}
use Rattle.answer_definitions.specs.Verdicts.{check_of}
use Rattle.answer_definitions.specs.Verdicts as verdicts
use Rattle.answer_definitions.specs.Sections.{IsSolutionOf, solution_lines}
use Rattle.walk_definitions.specs.Checkers.{Checker, checker_of_128_bits, checker_of_any_length}
use Rattle.walk_definitions.specs.Words.{Parsed, fraction_in}
use Rattle.walk_definitions.specs.Tables.{begins_table_line}
use Rattle.walk_definitions.specs.Tests.{point_of, verdict_test, solution_test}
use Rattle.walk_definitions.specs.Reading.{Right, by_verdict, unread, tested_or, judged_map, judged, Claim, verdict_in, solution_in}
use Rattle.walk_definitions.specs.Walker.{settles}
use Rattle.fitting_answers.specs.Fitting.{LinesFit, VerdictFits, CheckFits}
use Rattle.own_listing_laws.specs.Laws.{EndsBest, chain_of, IsShownChecked, JudgedRight}
use Rattle.own_listing_laws.specs.AnyLength.{JudgedRightAtAnyLength}
use Rattle.own_listing_laws.proofs.Spelled.{ReadsFractions, in_128_bits}
use Rattle.own_listing_laws.proofs.Suiting.{suits_128_bits, suits_any_length}
use Rattle.own_listing_laws.proofs.Claims.{verdict_read}
use Rattle.own_listing_laws.proofs.Sections.{reported_read}
use Rattle.own_listing_laws.proofs.Columns.{points_of_lines}
use Rattle.own_listing_laws.proofs.Ended.{IsOf}
use Rattle.own_listing_laws.proofs.Tests.{passed_at_any_length, verdict_passes, verdict_checked, reported_checked}
use Rattle.own_listing_laws.proofs.Paths.{HasEnded, has_ended, verdict_printed}
use Rattle.own_listing_laws.proofs.Views.{WaitsHere, same_points, same_prices, settles_true, solution_passes}
use Rattle.own_listing_laws.proofs.Openings.{fine_at_any_length, opening_fine}
use Rattle.own_listing_laws.proofs.Chains.{answer_fine}

-- the path of a solving verb has ended
path_ended : (solver : Solver) (sheet : Sheet) (s : Basis) (limit : Option ℕ) (bases : List Basis) (verdict : PathVerdict) (check : Check) →
    verdicts.IsSolvedBy solver sheet s limit (Reached bases verdict check) → HasEnded solver sheet s bases verdict check
path_ended ByPrimal sheet s limit bases verdict check solved = has_ended ByPrimal tt sheet s limit bases verdict check solved
path_ended ByDual sheet s limit bases verdict check solved = has_ended ByDual tt sheet s limit bases verdict check solved
path_ended ByParaobj sheet s limit bases verdict check solved = absurd solved
path_ended ByPararhs sheet s limit bases verdict check solved = absurd solved

-- ---- what passes its test is judged right

module _ (C : Checker) (fractions : ReadsFractions (fraction_in C)) where
  verdict_right : (solver : Solver) (sheet : Sheet) (s : Basis) (limit : Option ℕ) (bases : List Basis) (verdict : PathVerdict) (check : Check)
      (after : List ℕ) → HasEnded solver sheet s bases verdict check → VerdictFits verdict → CheckFits check → begins_table_line after ≡ false →
      verdict_test C sheet verdict check ≡ Checked →
      judged C (OfPath solver limit) sheet (verdict_text solver verdict check ++ after) ≡ Right (Reached [] verdict check) after
  verdict_right solver sheet s limit bases verdict check after ended fits check_fits plain checked =
      ap (λ parsed. judged_map f (tested_or (unread C reads (verdict_text solver verdict check ++ after)) test parsed))
      (verdict_read (fraction_in C) fractions sheet check check_fits after solver verdict ended.is_readable
      (verdict_printed sheet (last_of s bases) ended.tableau (length bases) ended.ending verdict ended.is_of ended.is_verdict.is_verdict) fits plain)
      ∙ ap (λ (v : Verdict). judged_map f (by_verdict v (verdict, check) after)) checked
    where
      f : Claim → PathEnd
      f claim = Reached [] claim.0 claim.1

      test : Claim → Verdict
      test claim = verdict_test C sheet claim.0 claim.1

      reads : (List ℕ → Option ℚ) → List ℕ → Parsed Claim
      reads of = verdict_in of sheet solver

  solution_right : (mark : Mark) (sheet : Sheet) (s : Basis) (t : Tableau) (after : List ℕ) → LinesFit (solution_lines sheet s t).rows →
      LinesFit (solution_lines sheet s t).columns → solution_test C sheet mark (solution_lines sheet s t) ≡ Checked →
      judged C (OfSolution mark) sheet (solution_text mark (solution_lines sheet s t) ++ after) ≡ Right (solution_lines sheet s t) after
  solution_right mark sheet s t after rows columns checked =
      ap (tested_or (unread C reads (solution_text mark (solution_lines sheet s t) ++ after)) (solution_test C sheet mark))
      (reported_read (fraction_in C) fractions sheet s t mark after rows columns)
      ∙ ap (λ (v : Verdict). by_verdict v (solution_lines sheet s t) after) checked
    where
      reads : (List ℕ → Option ℚ) → List ℕ → Parsed SolutionLines
      reads of = solution_in of sheet mark

-- ---- SOLUTION after it

-- what the verdict says of the point and the prices at the last basis
waits_ended : (sheet : Sheet) (s : Basis) (t : Tableau) (n steps : ℕ) (objective : ℚ) (rest : List ℕ) (ending : PathEnding) → IsTableau sheet.lp s t →
    IsOf sheet.lp s t ending →
    OptimalAt steps objective ≡ verdicts.verdict_of sheet n ending → check_of sheet.lp ending ≡ Checked →
    WaitsHere (record { rest = rest; objective = objective; check = reports.Checked }) sheet.lp s
waits_ended sheet s t n steps objective rest (EndsOptimal z y) tab of same checks =
    let own : objective ≡ value_at z sheet.lp.objective = cc in
    record {
      tableau = t;
      is_tableau = tab;
      is_objective = own ∙ ap (λ (xs : List ℚ). value_at xs sheet.lp.objective) of.0;
      is_check = ap₂ (λ (xs ys : List ℚ). optimal_check sheet.lp (value_at xs) (value_at ys)) (sym of.0) (sym of.1) ∙ checks;
    }
waits_ended sheet s t n steps objective rest (EndsCrossed k) tab of same checks = absurd (cc same)
waits_ended sheet s t n steps objective rest (EndsInfeasible w) tab of same checks = absurd (cc same)
waits_ended sheet s t n steps objective rest (EndsUnbounded z d) tab of same checks = absurd (cc same)

module _ (solver : Solver) (sheet : Sheet) (s : Basis) (limit : Option ℕ) (bases : List Basis) (steps : ℕ) (objective : ℚ) (lines : SolutionLines)
    (rest : List ℕ)
    (is : IsShownChecked solver sheet s limit bases steps objective lines) where
  abbrev last : Basis
  last = last_of s bases

  abbrev t : Tableau
  t = is.shown.tableau

  waits : WaitsHere (record { rest = rest; objective = objective; check = reports.Checked }) sheet.lp last
  waits =
      let ended = path_ended solver sheet s limit bases (OptimalAt steps objective) reports.Checked is.solved in
      waits_ended sheet last ended.tableau
      (length bases) steps objective rest ended.ending ended.is_tableau ended.is_of ended.is_verdict.is_verdict ended.is_verdict.is_check

  own_check : optimal_check sheet.lp (value_at (listed sheet.lp.matrix t.point))
      (value_at (listed sheet.lp.matrix (price_at sheet.lp (basics_of last) t.rate))) ≡ Checked
  own_check =
      ap₂ (λ (xs ys : List ℚ). optimal_check sheet.lp (value_at xs) (value_at ys))
      (same_points sheet.lp is.lawful last is.nonsingular t waits.tableau is.shown.is_tableau waits.is_tableau)
      (same_prices sheet.lp is.lawful last is.nonsingular t waits.tableau is.shown.is_tableau waits.is_tableau) ∙ waits.is_check

  makes : (i : ℕ) → 1 ≤ i → i < 1 + sheet.lp.rows → refuses Sub (value_at sheet.lp.rhs i) (value_at (listed sheet.lp.matrix t.point) i) ≡ false
  makes i low high =
      ap (λ (xs : List ℚ). refuses Sub (value_at sheet.lp.rhs i) (value_at xs i)) (sym (points_of_lines sheet last t))
      ∙ subst (λ (l : SolutionLines). refuses Sub (value_at sheet.lp.rhs i) (point_of sheet l i) ≡ false) is.shown.are_lines
      (is.slacks i (omega (arith, low)) (omega (arith, high)))

  checked : solution_test checker_of_128_bits sheet Optimal (solution_lines sheet last t) ≡ Checked
  checked = reported_checked sheet last t is.lawful is.shown.is_tableau is.nonsingular own_check makes

  shown_right : (after : List ℕ) → judged checker_of_128_bits (OfSolution Optimal) sheet (solution_text Optimal lines ++ after) ≡ Right lines after
  shown_right after =
      subst (λ (l : SolutionLines). judged checker_of_128_bits (OfSolution Optimal) sheet (solution_text Optimal l ++ after) ≡ Right l after)
      (sym is.shown.are_lines)
      (solution_right checker_of_128_bits in_128_bits Optimal sheet last t after
      (subst (λ (l : SolutionLines). LinesFit l.rows) is.shown.are_lines is.rows)
      (subst (λ (l : SolutionLines). LinesFit l.columns) is.shown.are_lines is.columns) checked)

  shown_settles : settles checker_of_128_bits (record { rest = rest; objective = objective; check = reports.Checked })
      (point_of sheet lines sheet.lp.objective) ≡ true
  shown_settles =
      subst (λ (l : SolutionLines). settles checker_of_128_bits (record { rest = rest; objective = objective; check = reports.Checked })
      (point_of sheet l sheet.lp.objective) ≡ true) (sym is.shown.are_lines)
      (settles_true sheet is.lawful last is.nonsingular t is.shown.is_tableau checker_of_128_bits suits_128_bits
      (record { rest = rest; objective = objective; check = reports.Checked }) waits checked)

pub judged_right : JudgedRight
judged_right = record {
  verdict = λ solver sheet s limit bases verdict after solved fits plain.
      let ended = path_ended solver sheet s limit bases verdict reports.Checked solved in
      verdict_right checker_of_128_bits in_128_bits solver sheet s limit bases verdict reports.Checked after ended fits tt plain
      (verdict_checked sheet (last_of s bases) ended.tableau (length bases) ended.ending verdict ended.is_of ended.is_verdict);
  solution = λ solver sheet s limit bases steps objective lines after is. shown_right solver sheet s limit bases steps objective lines after is after;
  settled = λ solver sheet s limit bases steps objective lines rest is. shown_settles solver sheet s limit bases steps objective lines rest is;
}

-- ---- at any length

solution_at_any_length : (mark : Mark) (sheet : Sheet) (s : Basis) (lines : SolutionLines) (after : List ℕ) → IsLinearProgram sheet.lp →
    IsNonsingularBasis sheet.lp s → (mark ≡ Optimal → EndsBest sheet.lp s) → IsSolutionOf sheet s lines → LinesFit lines.rows → LinesFit lines.columns →
    judged checker_of_any_length (OfSolution mark) sheet (solution_text mark lines ++ after) ≡ Right lines after
solution_at_any_length mark sheet s lines after lawful at best shown rows columns =
    subst (λ (l : SolutionLines). judged checker_of_any_length (OfSolution mark) sheet (solution_text mark l ++ after) ≡ Right l after)
    (sym shown.are_lines)
    (solution_right checker_of_any_length suits_any_length.reads mark sheet s shown.tableau after
    (subst (λ (l : SolutionLines). LinesFit l.rows) shown.are_lines rows)
    (subst (λ (l : SolutionLines). LinesFit l.columns) shown.are_lines columns)
    (passed_at_any_length (solution_test checker_of_any_length sheet mark (solution_lines sheet s shown.tableau))
    (solution_passes checker_of_any_length sheet s shown.tableau mark lawful shown.is_tableau at (λ optimal. let ended = best optimal in
    reported_is_best sheet.lp s shown.tableau ended.point ended.prices shown.is_tableau ended.ends at lawful))))

pub judged_right_at_any_length : JudgedRightAtAnyLength
judged_right_at_any_length = record {
  verdict = λ solver sheet s limit bases verdict check after lawful no_change at solved fits check_fits plain.
      let ended = path_ended solver sheet s limit bases verdict check solved in
      verdict_right checker_of_any_length suits_any_length.reads solver sheet s limit bases verdict check after ended fits check_fits plain
      (passed_at_any_length (verdict_test checker_of_any_length sheet verdict check)
      (verdict_passes sheet (last_of s bases) ended.tableau checker_of_any_length suits_any_length (length bases) ended.ending verdict check ended.is_of
      (ended.holds lawful at no_change) ended.is_verdict));
  solution = solution_at_any_length;
  run = λ sheet s parametric_run bases intervals end after lawful free at chained fits end_fits plain.
      fine_at_any_length (Chained [] intervals end) after
      (judged checker_of_any_length (OfParametricRun parametric_run) sheet
      (chain_text (parametric_solver parametric_run.changing) (chain_of parametric_run intervals end) ++ after))
      (answer_fine checker_of_any_length suits_any_length sheet.problem sheet.lp parametric_run lawful free s at bases intervals end after
      (chain_text (parametric_solver parametric_run.changing) (chain_of parametric_run intervals end) ++ after) refl chained plain fits end_fits);
  opening = λ sheet s parametric_run bases verdict check after lawful free at failed fits check_fits plain.
      fine_at_any_length (Opening [] verdict check) after
      (judged checker_of_any_length (OfParametricRun parametric_run) sheet
      (verdict_text (parametric_solver parametric_run.changing) verdict check ++ after))
      (opening_fine checker_of_any_length suits_any_length sheet.problem sheet.lp parametric_run lawful free s at bases verdict check after failed
      (verdict_text (parametric_solver parametric_run.changing) verdict check ++ after) refl fits check_fits plain);
}
