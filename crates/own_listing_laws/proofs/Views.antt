-- SOLUTION lands: it is read back, its test passes, and it settles what is pending.
use Rattle.std.proofs.Common.{◌≡◌, ◌≤◌, ℕ, Bool, true, false, List, [], ◌∷◌, ◌++◌, Option, Some, None, Ok, if◌then◌else◌, refl, sym, ap, ap₂, subst, ◌∙◌}
use Rattle.std.specs.List.{flat_map}
use Rattle.exact_values.specs.Rational.{ℚ, zero_ℚ}
use Rattle.exact_values.proofs.TestsLaws.{test_from_same}
use Rattle.lp_definitions.specs.LinearProgram.{LinearProgram, value_at, IsLinearProgram, IsVariable}
use Rattle.lp_definitions.specs.Basis.{Tableau, IsTableau, basics_of, is_in, objective_rate, price_at}
use Rattle.lp_laws.proofs.Uniqueness.{one_point, one_table}
use Rattle.check_definitions.specs.declared.Verdict.{Verdict}
use Rattle.check_definitions.specs.declared.Verdict.TheVariants.{Checked}
use Rattle.check_definitions.specs.Steps.{in_turn}
use Rattle.check_definitions.specs.Checks.{equations, reduced_costs, optimal_steps, optimal_check}
use Rattle.check_definitions.proofs.Passing.{both_checked}
use Rattle.simplex_definitions.specs.Path.{listed}
use Rattle.simplex_laws.specs.Laws.{IsNonsingularBasis}
use Rattle.simplex_laws.proofs.UnboundedEnds.{objective_value-same}
use Rattle.problem_definitions.specs.Names.{Name}
use Rattle.selection_definitions.specs.Selection.{selected}
use Rattle.listing_definitions.specs.declared.Mark.{Mark}
use Rattle.listing_definitions.specs.declared.Mark.TheVariants.{Optimal, Infeasible, Unbounded}
use Rattle.listing_definitions.specs.Report.{SolutionLines, Solution}
use Rattle.question_definitions.specs.Answers.{Basis, Sheet, OfSolution}
use Rattle.question_definitions.specs.Solving.{IsRight}
use Rattle.answer_definitions.specs.Lines.{row_numbers}
use Rattle.answer_definitions.specs.Verdicts.{found}
use Rattle.answer_definitions.specs.Sections.{IsSolutionOf, solution_lines}
use Rattle.answer_definitions.specs.Real.{linear_programming}
use Rattle.run_definitions.specs.State.{Present, present_basis, path_of, State, choice_of}
use Rattle.run_definitions.specs.Moves.{Prints, StatementOutcome, InAnswer, Asks, next}
use Rattle.run_definitions.specs.Verbs.{asks}
use Rattle.run_definitions.specs.Run.{counted}
use Rattle.soundness_laws.proofs.Runs.{knows_linear_programming}
use Rattle.soundness_laws.proofs.Ends.{IsProvedBest}
use Rattle.control_definitions.specs.Cells.{steps_allowed}
use Rattle.walk_definitions.specs.Words.{Parsed, max_count, fraction_in}
use Rattle.walk_definitions.specs.Tables.{column_of}
use Rattle.walk_definitions.specs.Checkers.{Checker}
use Rattle.walk_definitions.specs.Tests.{says, point_of, prices_of, slacks_of, slack_steps, solution_test}
use Rattle.walk_definitions.specs.Reading.{Judged, Right, unread, tested_or, judged, solution_in}
use Rattle.walk_definitions.specs.Walker.{Pending, Walker, WalkTurn, Finds, Wrong, open_question, follows, passed, noted, settles, settled, settling, answered}
use Rattle.own_listing_laws.proofs.Columns.{listed_same, points_of_lines, prices_of_lines}
use Rattle.own_listing_laws.proofs.Suiting.{SuitsRuns}
use Rattle.own_listing_laws.proofs.Tests.{Passes, passes_checked, reported_passes, best_passes}
use Rattle.own_listing_laws.proofs.Sections.{reported_read}
use Rattle.own_listing_laws.proofs.Pace.{rebased, Waits, WaitsAt, Lands, IsDue, RefusesTest, IsFollowed, may_stop, asked_lands}
use Rattle.own_listing_laws.proofs.Paths.{judged_so}

-- ---- what is pending is of the same point and prices

pub record WaitsHere (pending : Pending) (lp : LinearProgram) (s : Basis) : Type 0 where
  pub tableau : Tableau
  pub is_tableau : IsTableau lp s tableau
  pub is_objective : pending.objective ≡ value_at (listed lp.matrix tableau.point) lp.objective
  pub is_check : optimal_check lp (value_at (listed lp.matrix tableau.point))
      (value_at (listed lp.matrix (price_at lp (basics_of s) tableau.rate))) ≡ found pending.check

waits_here : (pending : Pending) (setup : Option Present) (objective rhs : Option Name) (present : Present) (lp : LinearProgram) →
    Waits pending setup objective rhs → setup ≡ Some present →
    selected present.problem (record { objective = objective; rhs = rhs; options = present.options }) ≡ Ok lp → WaitsHere pending lp (present_basis present)
waits_here pending setup objective rhs present lp h set is =
    let same : h.present ≡ present = (let e = sym h.is_setup ∙ set in cc) in
    let own : selected h.present.problem (record { objective = objective; rhs = rhs; options = h.present.options }) ≡ Ok lp =
    subst (λ (x : Present). selected x.problem (record { objective = objective; rhs = rhs; options = x.options }) ≡ Ok lp) (sym same) is in
    let same_lp : h.lp ≡ lp = (let e = sym h.is_selected ∙ own in cc) in
    subst (λ (x : Present). WaitsHere pending lp (present_basis x)) same
    (subst (λ (p : LinearProgram). WaitsHere pending p (present_basis h.present)) same_lp
    (record { tableau = h.tableau; is_tableau = h.is_tableau; is_objective = h.is_objective; is_check = h.is_check }))

module _ (p : LinearProgram) (lawful : IsLinearProgram p) (s : Basis) (at : IsNonsingularBasis p s) (t u : Tableau) (tab : IsTableau p s t)
    (other : IsTableau p s u) where
  pub same_points : listed p.matrix t.point ≡ listed p.matrix u.point
  same_points = listed_same p.matrix t.point u.point (one_point p s t.point u.point at.is_basis.counted at.nonsingular tab.is_point other.is_point)

  price_same : (k : ℕ) → IsVariable p.matrix k → price_at p (basics_of s) t.rate k ≡ price_at p (basics_of s) u.rate k
  price_same k is = by (is_in (basics_of s) k) refl
    where
      by : (mark : Bool) → is_in (basics_of s) k ≡ mark →
          (if mark then zero_ℚ else objective_rate p t.rate k) ≡ (if mark then zero_ℚ else objective_rate p u.rate k)
      by true mark = refl
      by false mark =
          objective_value-same p (λ i. t.rate i k) (λ i. u.rate i k) lawful
          (λ i row. one_table p.matrix (basics_of s) t.rate u.rate at.nonsingular tab.are_rates other.are_rates i k row (is, mark))

  pub same_prices : listed p.matrix (price_at p (basics_of s) t.rate) ≡ listed p.matrix (price_at p (basics_of s) u.rate)
  same_prices = listed_same p.matrix _ _ price_same

last_checked : (a b c d : Verdict) → in_turn (a ∷ b ∷ c ∷ d ∷ []) ≡ Checked → d ≡ Checked
last_checked a b c d e =
    let after_a = (both_checked a (in_turn (b ∷ c ∷ d ∷ [])) e).1 in
    let after_b = (both_checked b (in_turn (c ∷ d ∷ [])) after_a).1 in
    let after_c = (both_checked c (in_turn (d ∷ [])) after_b).1 in
    (both_checked d Checked after_c).0

module _ (sheet : Sheet) (lawful : IsLinearProgram sheet.lp) (s : Basis) (at : IsNonsingularBasis sheet.lp s) (t : Tableau) (tab : IsTableau sheet.lp s t) where
  pub settles_true : (C : Checker) → SuitsRuns C → (pending : Pending) → WaitsHere pending sheet.lp s →
      solution_test C sheet Optimal (solution_lines sheet s t) ≡ Checked → settles C pending (point_of sheet
      (solution_lines sheet s t) sheet.lp.objective) ≡ true
  settles_true C suits pending h checked =
      ap (λ b. if b then C.takes pending.check else false) (test_from_same pending.objective (point_of sheet (solution_lines sheet s t) sheet.lp.objective)
      (h.is_objective ∙ ap (λ (xs : List ℚ). value_at xs sheet.lp.objective) (sym points)))
      ∙ suits.takes (optimal_steps sheet.lp (point_of sheet lines) (prices_of sheet lines)) pending.check (same_check ∙ h.is_check) own
    where
      lines : SolutionLines
      lines = solution_lines sheet s t

      points : column_of 1 ((solution_lines sheet s t).rows ++ (solution_lines sheet s t).columns) ≡ listed sheet.lp.matrix h.tableau.point
      points = points_of_lines sheet s t ∙ same_points sheet.lp lawful s at t h.tableau tab h.is_tableau

      same_check : optimal_check sheet.lp (point_of sheet (solution_lines sheet s t)) (prices_of sheet (solution_lines sheet s t)) ≡
          optimal_check sheet.lp (value_at (listed sheet.lp.matrix h.tableau.point))
          (value_at (listed sheet.lp.matrix (price_at sheet.lp (basics_of s) h.tableau.rate)))
      same_check =
          ap₂ (λ (xs ys : List ℚ). optimal_check sheet.lp (value_at xs) (value_at ys)) points
          (prices_of_lines sheet s t ∙ same_prices sheet.lp lawful s at t h.tableau tab h.is_tableau)

      own : says C (optimal_steps sheet.lp (point_of sheet (solution_lines sheet s t)) (prices_of sheet (solution_lines sheet s t))) ≡ Checked
      own =
          last_checked (says C (equations sheet.lp 1 (point_of sheet lines))) (says C (reduced_costs sheet.lp (prices_of sheet lines)))
          (says C (flat_map (slack_steps sheet (point_of sheet lines) (slacks_of sheet lines)) (row_numbers sheet.lp)))
          (says C (optimal_steps sheet.lp (point_of sheet lines) (prices_of sheet lines))) checked

-- the test of SOLUTION never fails
pub solution_passes : (C : Checker) (sheet : Sheet) (s : Basis) (t : Tableau) (mark : Mark) → IsLinearProgram sheet.lp → IsTableau sheet.lp s t →
    IsNonsingularBasis sheet.lp s → (mark ≡ Optimal → IsProvedBest sheet.lp s t) →
    Passes C (solution_test C sheet mark (solution_lines sheet s t))
solution_passes C sheet s t Optimal lawful tab at best =
    let proved = best refl in reported_passes sheet s t lawful tab at C Optimal (best_passes sheet s t lawful tab at C proved.best proved.certificate)
solution_passes C sheet s t Infeasible lawful tab at best = reported_passes sheet s t lawful tab at C Infeasible (passes_checked C)
solution_passes C sheet s t Unbounded lawful tab at best = reported_passes sheet s t lawful tab at C Unbounded (passes_checked C)

-- ---- the question of SOLUTION

module _ (C : Checker) (suits : SuitsRuns C) (w : Walker) (s : State) (opening : Basis) (steps : List Basis) (card : ℕ) (mark : Mark)
    (present : Present) (lp : LinearProgram)
    (set : s.setup ≡ Some present)
    (is : selected present.problem (choice_of s.cells present.options) ≡ Ok lp) (waits : WaitsAt w.pending s) (limits : steps_allowed s.cells ≤ max_count)
    (lawful : IsLinearProgram lp) (at : IsNonsingularBasis lp (present_basis present))
    (best : mark ≡ Optimal → (t : Tableau) → IsTableau lp (present_basis present) t → IsProvedBest lp (present_basis present) t) where
  abbrev sheet : Sheet
  sheet = record { problem = present.problem; lp = lp }

  abbrev walked : State
  walked = record s { setup = rebased opening steps s.setup }

  abbrev set_up : Present
  set_up = record present { opening = opening; steps = steps }

  abbrev go : SolutionLines → StatementOutcome
  go lines = next (Prints (Solution mark lines)) (counted walked)

  abbrev own : SolutionLines → StatementOutcome
  own lines = next (Prints (Solution mark lines)) (counted s)

  test_passes : (t : Tableau) → IsTableau lp (present_basis present) t →
      Passes C (solution_test C sheet mark (solution_lines sheet (present_basis present) t))
  test_passes t tab = solution_passes C sheet (present_basis present) t mark lawful tab at (λ optimal. best optimal t tab)

  reported_lands : (t : Tableau) → IsTableau lp (present_basis present) t → (more : List ℕ) →
      IsDue w (own (solution_lines sheet (present_basis present) t)) more →
      Lands (RefusesTest C w) (own (solution_lines sheet (present_basis present) t)) more
      (answered C w (OfSolution mark) sheet go (judged C (OfSolution mark) sheet w.rest))
  reported_lands t tab more given =
      subst (λ (parsed : Parsed SolutionLines). LandsSo (tested_or (unread C reads w.rest) (solution_test C sheet mark) parsed)) (sym read)
      (judged_so C (solution_test C sheet mark lines) lines more LandsSo (test_passes t tab) (λ checked. right mark refl checked)
      (λ can. record { is_rest = refl; can = can }))
    where
      lines : SolutionLines
      lines = solution_lines sheet (present_basis present) t

      reads : (List ℕ → Option ℚ) → List ℕ → Parsed SolutionLines
      reads of = solution_in of sheet mark

      LandsSo : Judged SolutionLines → Type 0
      LandsSo j = Lands (RefusesTest C w) (own lines) more (answered C w (OfSolution mark) sheet go j)

      read : solution_in (fraction_in C) sheet mark w.rest ≡ Some (lines, more)
      read =
          ap (solution_in (fraction_in C) sheet mark) given.text
          ∙ reported_read (fraction_in C) suits.reads sheet (present_basis present) t mark more given.fits.0 given.fits.1

      -- the run goes on, and this is pending
      goes_on : (pending : Option Pending) → WaitsAt pending s →
          Lands (RefusesTest C w) (own lines) more (follows (record (passed more 1 w) { pending = pending }) (go lines))
      goes_on pending still = record { like = record { opening = opening; steps = steps; is = refl; limits = limits }; is_rest = refl; waits = still }

      settled_lands : (pending : Option Pending) → WaitsAt pending s → solution_test C sheet Optimal lines ≡ Checked → (turn : WalkTurn) →
          Lands (RefusesTest C w) (own lines) more turn → Lands (RefusesTest C w) (own lines) more (settled C w pending
          (point_of sheet lines lp.objective) turn)
      settled_lands None still checked turn lands = lands
      settled_lands (Some pending) still checked turn lands =
          subst (λ b. Lands (RefusesTest C w) (own lines) more (if b then turn else Finds (Wrong pending.rest)))
          (sym (settles_true sheet lawful (present_basis present) at t tab C suits pending
          (waits_here pending s.setup s.cells.xobj s.cells.xrhs present lp still set is) checked)) lands

      right : (m : Mark) → mark ≡ m → solution_test C sheet mark lines ≡ Checked → LandsSo (Right lines more)
      right m same checked = by m same
        where
          whole : Mark → Type 0
          whole m =
              Lands (RefusesTest C w) (own lines) more
              (settling C w (OfSolution m) sheet lines
              (follows (record (passed more 1 w) { pending = noted w (OfSolution m) sheet lines }) (go lines)))

          of_mark : (m : Mark) → mark ≡ m → whole m
          of_mark Optimal same =
              settled_lands w.pending waits (subst (λ (n : Mark). solution_test C sheet n lines ≡ Checked) same checked) _ (goes_on None tt)
          of_mark Infeasible same = goes_on w.pending waits
          of_mark Unbounded same = goes_on w.pending waits

          by : (m : Mark) → mark ≡ m → whole mark
          by m same = subst whole (sym same) (of_mark m same)

  pub reported_followed : IsFollowed C w card (asks (OfSolution mark) sheet set_up go) (asks (OfSolution mark) sheet present own)
  reported_followed =
      may_stop C w card (Asks (OfSolution mark) sheet (present_basis set_up) go) (Asks (OfSolution mark) sheet (present_basis present) own)
      (InAnswer (OfSolution mark) sheet (path_of set_up)) (InAnswer (OfSolution mark) sheet (path_of present)) tt
      (asked_lands C w card (OfSolution mark) sheet (present_basis set_up) (present_basis present) go own lands)
    where
      lands : card ≤ max_count → (answer : SolutionLines) (more : List ℕ) → IsRight linear_programming (OfSolution mark) sheet (present_basis present) answer →
          IsDue w (own answer) more → open_question w (OfSolution mark) sheet go ≡ None →
          Lands (RefusesTest C w) (own answer) more (answered C w (OfSolution mark) sheet go (judged C (OfSolution mark) sheet w.rest))
      lands small answer more right given none =
          let viewed : IsSolutionOf sheet (present_basis present) answer = knows_linear_programming.shows mark sheet (present_basis present) answer right in
          subst (λ (lines : SolutionLines). IsDue w (own lines) more →
          Lands (RefusesTest C w) (own lines) more (answered C w (OfSolution mark) sheet go (judged C (OfSolution mark) sheet w.rest)))
          (sym viewed.are_lines)
          (λ given. reported_lands viewed.tableau viewed.is_tableau more given) given
