-- A test of what a run prints never fails: what it prints is true, and in numbers of 128 bits the run has made the same check.
--     Passes C v                   no comparison fails, and if an operation is refused, the checker's arithmetic refuses it
--     verdict_passes, reported_passes    those of a verdict and of SOLUTION
use Rattle.std.proofs.Common.{◌≡◌, ◌⊎◌, inl, inr, ℕ, zero, suc, ◌+◌, ◌-◌, ◌<◌, ◌≤◌, Bool, true, false, List, [], ◌∷◌, ◌++◌, Some, refl, sym, ap, ap₂, subst}
use Rattle.std.proofs.Common.{◌∙◌, arith}
use Rattle.std.specs.Prelude.{if◌then◌else◌}
use Rattle.std.specs.List.{flat_map}
use Rattle.frac128.specs.declared.Op.{Op}
use Rattle.frac128.specs.declared.Op.TheVariants.{Sub}
use Rattle.frac128.specs.Operations.{refuses}
use Rattle.exact_values.specs.Rational.{ℚ, zero_ℚ, ◌+ℚ◌, ◌-ℚ◌, ◌*ℚ◌, ◌<ℚ◌}
use Rattle.exact_values.specs.Sums.{sum_to}
use Rattle.exact_values.specs.Tests.{eq_ℚ}
use Rattle.exact_values.proofs.Ring.{by_ring2, ◌⊕◌, ◌⊖◌, ◌≐◌}
use Rattle.exact_values.proofs.Sums.{sum_to-same}
use Rattle.exact_values.proofs.TestsLaws.{test_from_same}
use Rattle.lp_definitions.specs.LinearProgram.{LinearProgram, Vector, IsLinearProgram, IsColumn, KeepsEquations, value_at, numbers_from, entry, cost, for_min}
use Rattle.lp_definitions.specs.Solutions.{IsFeasible, IsBest, IsDualCertificate}
use Rattle.lp_definitions.specs.Basis.{Tableau, IsTableau, basics_of, price_at}
use Rattle.lp_laws.proofs.Equations.{KeepsEquations-same}
use Rattle.lp_laws.proofs.Optimal.{price_of_column}
use Rattle.check_definitions.specs.declared.Verdict.{Verdict}
use Rattle.check_definitions.specs.declared.Verdict.TheVariants.{Checked, Failed, Unchecked}
use Rattle.check_definitions.specs.Steps.{Step, operation, comparison, AllHold, verdict_of, followed_by, in_turn}
use Rattle.check_definitions.specs.Checks.{equations, within_limits, feasible_point, reduced_costs, standing_prices, optimal_steps, crossed_steps}
use Rattle.check_definitions.specs.Checks.{infeasible_steps, unbounded_steps, optimal_check, crossed_check, infeasible_check, unbounded_check}
use Rattle.check_definitions.proofs.Passing.{verdict-append, checked-append}
use Rattle.certificate_laws.specs.Parts.{AreReducedCosts}
use Rattle.certificate_laws.proofs.Truth.{all_hold, equations_hold, costs_hold, optimal_holds}
use Rattle.certificate_check.specs.Results.{IsNotFailed}
use Rattle.simplex_definitions.specs.Path.{PathEnding, EndsOptimal, EndsCrossed, EndsInfeasible, EndsUnbounded, listed}
use Rattle.simplex_laws.specs.Laws.{IsNonsingularBasis}
use Rattle.simplex_laws.proofs.Ends.{value_at-listed, IsFeasible-same}
use Rattle.simplex_laws.proofs.Numbered.{get_or-listed}
use Rattle.listing_definitions.specs.declared.Mark.{Mark}
use Rattle.listing_definitions.specs.declared.Mark.TheVariants.{Optimal}
use Rattle.listing_definitions.specs.Report.{PathVerdict, Check}
use Rattle.listing_definitions.specs.Report as reports
use Rattle.question_definitions.specs.Answers.{Basis, Sheet}
use Rattle.answer_definitions.specs.Lines.{row_numbers}
use Rattle.answer_definitions.specs.Verdicts.{check_of, found, IsVerdict}
use Rattle.answer_definitions.specs.Verdicts as verdicts
use Rattle.answer_definitions.specs.Sections.{solution_row, solution_lines}
use Rattle.walk_definitions.specs.Tables.{column_of}
use Rattle.walk_definitions.specs.Checkers.{Checker, says_checked, checker_of_128_bits, checker_of_any_length}
use Rattle.walk_definitions.specs.Tests.{asked, says, verdict_test, slack_steps, best_test, solution_test}
use Rattle.own_listing_laws.proofs.Columns.{column_is, first_of_pairs, second_of_pairs, multipliers_of_ray, points_of_lines, prices_of_lines}
use Rattle.own_listing_laws.proofs.Ended.{IsOf, claim_steps}
use Rattle.own_listing_laws.proofs.Suiting.{SuitsRuns}

abbrev pub IsPassed : Checker → Verdict → Type 0
IsPassed C Checked = Unit {0}
IsPassed C (Failed part number) = ⊥
IsPassed C (Unchecked r) = C.arithmetic.refused r.op r.left r.right ≡ true

pub record Passes (C : Checker) (v : Verdict) : Type 0 where
  pub of : IsPassed C v

pub never_failed : (C : Checker) (v : Verdict) → Passes C v → IsNotFailed v
never_failed C Checked passes part number e = cc e
never_failed C (Failed one two) passes part number e = passes.of
never_failed C (Unchecked r) passes part number e = cc e

-- where nothing is refused
pub passed_at_any_length : (v : Verdict) → Passes checker_of_any_length v → v ≡ Checked
passed_at_any_length Checked passes = refl
passed_at_any_length (Failed part number) passes = absurd passes.of
passed_at_any_length (Unchecked r) passes = let e : false ≡ true = passes.of in absurd (cc e)

module _ (C : Checker) where
  pub passes_checked : Passes C Checked
  passes_checked = record { of = tt }

  pub passes_same : (v w : Verdict) → v ≡ w → Passes C w → Passes C v
  passes_same v w same passes = subst (Passes C) (sym same) passes

  -- these verdicts pass, one after another
  pub record AllPass (vs : List Verdict) : Type 0 where
    pub passes : Passes C (in_turn vs)

  pub pass_none : AllPass []
  pass_none = record { passes = passes_checked }

  pub pass_then : (v : Verdict) (vs : List Verdict) → Passes C v → AllPass vs → AllPass (v ∷ vs)
  pass_then Checked vs passes later = record { passes = later.passes }
  pass_then (Failed part number) vs passes later = absurd passes.of
  pass_then (Unchecked r) vs passes later = record { passes = record { of = passes.of } }

  pub passes_asked : (b : Bool) → b ≡ true → Passes C (asked b)
  passes_asked true e = passes_checked
  passes_asked false e = absurd (cc e)

  -- ---- steps whose comparisons hold

  steps_passed : (steps : List Step) → AllHold steps → IsPassed C (says C steps)
  steps_passed [] h = tt
  steps_passed (operation op x y ∷ steps) h = by (C.arithmetic.refused op x y) refl (steps_passed steps h)
    where
      by : (b : Bool) → C.arithmetic.refused op x y ≡ b → IsPassed C (says C steps) →
          IsPassed C (if b then Unchecked (record { op = op; left = x; right = y }) else says C steps)
      by true is rest = is
      by false is rest = rest
  steps_passed (comparison part number true ∷ steps) h = steps_passed steps h.1
  steps_passed (comparison part number false ∷ steps) h = absurd (cc h.0)

  pub passes_steps : (steps : List Step) → AllHold steps → Passes C (says C steps)
  passes_steps steps h = record { of = steps_passed steps h }

  pub pass_steps : (steps : List Step) (vs : List Verdict) → AllHold steps → AllPass vs → AllPass (says C steps ∷ vs)
  pass_steps steps vs h later = pass_then (says C steps) vs (passes_steps steps h) later

  -- ---- a claim, with the word of the check that the run made of it

  said_passes : SuitsRuns C → (steps : List Step) (check : Check) → AllHold steps → verdict_of steps ≡ found check →
      Passes C (in_turn (says C steps ∷ asked (C.takes check) ∷ []))
  said_passes suits steps check h own = by (says C steps) refl (passes_steps steps h)
    where
      by : (v : Verdict) → says C steps ≡ v → Passes C v → Passes C (in_turn (v ∷ asked (C.takes check) ∷ []))
      by Checked is passes = (pass_then (asked (C.takes check)) [] (passes_asked (C.takes check) (suits.takes steps check own is)) pass_none).passes
      by (Failed part number) is passes = absurd passes.of
      by (Unchecked r) is passes = record { of = passes.of }

-- ---- verdicts

-- in numbers of 128 bits, what the run found of its own check is found
reported : (v : Verdict) (check : Check) → v ≡ found check → in_turn (v ∷ asked (says_checked check) ∷ []) ≡ found check
reported v reports.Checked e = ap (λ u. in_turn (u ∷ asked true ∷ [])) e
reported v (reports.Unchecked refused) e = ap (λ u. in_turn (u ∷ asked false ∷ [])) e

found_never : (v : Verdict) (check : Check) → v ≡ found check → IsNotFailed v
found_never v reports.Checked e part number failed = let both : Checked ≡ Failed part number = sym e ∙ failed in cc both
found_never v (reports.Unchecked refused) e part number failed = let both : Unchecked refused ≡ Failed part number = sym e ∙ failed in cc both

with_asked : (v : Verdict) (b : Bool) → b ≡ true → in_turn (v ∷ asked b ∷ []) ≡ v
with_asked Checked true e = refl
with_asked (Failed part number) true e = refl
with_asked (Unchecked refused) true e = refl
with_asked v false e = absurd (cc e)

-- ---- what is checked whole

checked_operation : (op : Op) (x y : ℚ) (steps : List Step) → refuses op x y ≡ false → verdict_of steps ≡ Checked →
    verdict_of (operation op x y ∷ steps) ≡ Checked
checked_operation op x y steps fits e = ap (λ b. if b then Unchecked (record { op = op; left = x; right = y }) else verdict_of steps) fits ∙ e

checked_comparison : (part number : ℕ) (b : Bool) → b ≡ true → verdict_of (comparison part number b ∷ []) ≡ Checked
checked_comparison part number true e = refl
checked_comparison part number false e = absurd (cc e)

checked_each : (f : ℕ → List Step) (first n : ℕ) → ((k : ℕ) → first ≤ k → k < first + n → verdict_of (f k) ≡ Checked) →
    verdict_of (flat_map f (numbers_from first n)) ≡ Checked
checked_each f first zero h = refl
checked_each f first (suc n) h =
    verdict-append (f first) (flat_map f (numbers_from (suc first) n))
    ∙ ap (λ v. followed_by v (verdict_of (flat_map f (numbers_from (suc first) n)))) (h first (omega arith) (omega arith))
    ∙ checked_each f (suc first) n (λ k low high. h k (omega arith) (omega arith))

all_checked : (a b c d : Verdict) → a ≡ Checked → b ≡ Checked → c ≡ Checked → d ≡ Checked → in_turn (a ∷ b ∷ c ∷ d ∷ []) ≡ Checked
all_checked a b c d is_a is_b is_c is_d =
    ap (λ v. in_turn (v ∷ b ∷ c ∷ d ∷ [])) is_a ∙ ap (λ v. in_turn (v ∷ c ∷ d ∷ [])) is_b ∙ ap (λ v. in_turn (v ∷ d ∷ [])) is_c
    ∙ ap (λ v. in_turn (v ∷ [])) is_d

module _ (sheet : Sheet) (s : Basis) (t : Tableau) where
  -- what is tested of an end; an optimal verdict is tested at SOLUTION
  abbrev claim_said : Checker → PathEnding → Check → Verdict
  claim_said C (EndsOptimal z y) check = Checked
  claim_said C ending check = in_turn (says C (claim_steps sheet.lp ending) ∷ asked (C.takes check) ∷ [])

  test_is : (C : Checker) (steps : ℕ) (ending : PathEnding) (check : Check) → IsOf sheet.lp s t ending →
      verdict_test C sheet (verdicts.verdict_of sheet steps ending) check ≡ claim_said C ending check
  test_is C steps (EndsOptimal z y) check is = refl
  test_is C steps (EndsCrossed k) check is = refl
  test_is C steps (EndsInfeasible w) check is =
      ap (λ (xs : List ℚ). in_turn (says C (infeasible_steps sheet.lp (value_at xs)) ∷ asked (C.takes check) ∷ [])) (multipliers_of_ray sheet w is)
  test_is C steps (EndsUnbounded z d) check is =
      let o = sheet.lp.objective in
      ap (λ v. in_turn (v ∷ asked (C.takes check) ∷ []))
      (ap₂ (λ (xs ys : List ℚ). in_turn (says C (unbounded_steps sheet.lp (value_at xs) (value_at ys)) ∷ asked (eq_ℚ (value_at z o) (value_at xs o)) ∷ []))
      (first_of_pairs sheet z d is.0) (second_of_pairs sheet z d is.1)
      ∙ with_asked (says C (unbounded_steps sheet.lp (value_at z) (value_at d))) (eq_ℚ (value_at z o) (value_at z o))
      (test_from_same (value_at z o) (value_at z o) refl))

  claim_passes : (C : Checker) → SuitsRuns C → (ending : PathEnding) (check : Check) → AllHold (claim_steps sheet.lp ending) →
      check_of sheet.lp ending ≡ found check → Passes C (claim_said C ending check)
  claim_passes C suits (EndsOptimal z y) check h own = passes_checked C
  claim_passes C suits (EndsCrossed k) check h own = said_passes C suits (crossed_steps sheet.lp k) check h own
  claim_passes C suits (EndsInfeasible w) check h own = said_passes C suits (infeasible_steps sheet.lp (value_at w)) check h own
  claim_passes C suits (EndsUnbounded z d) check h own = said_passes C suits (unbounded_steps sheet.lp (value_at z) (value_at d)) check h own

  -- where the end is true
  pub verdict_passes : (C : Checker) → SuitsRuns C → (steps : ℕ) (ending : PathEnding) (verdict : PathVerdict) (check : Check) → IsOf sheet.lp s t ending →
      AllHold (claim_steps sheet.lp ending) → IsVerdict sheet steps ending verdict check → Passes C (verdict_test C sheet verdict check)
  verdict_passes C suits steps ending verdict check is h reported_so =
      subst (λ v. Passes C (verdict_test C sheet v check)) (sym reported_so.is_verdict)
      (passes_same C _ (claim_said C ending check) (test_is C steps ending check is) (claim_passes C suits ending check h reported_so.is_check))

  -- ---- in numbers of 128 bits the run has made the same check

  said_so : (ending : PathEnding) (check : Check) → check_of sheet.lp ending ≡ found check →
      (claim_said checker_of_128_bits ending check ≡ Checked) ⊎ (claim_said checker_of_128_bits ending check ≡ found check)
  said_so (EndsOptimal z y) check own = inl refl
  said_so (EndsCrossed k) check own = inr (reported (crossed_check sheet.lp k) check own)
  said_so (EndsInfeasible w) check own = inr (reported (infeasible_check sheet.lp (value_at w)) check own)
  said_so (EndsUnbounded z d) check own = inr (reported (unbounded_check sheet.lp (value_at z) (value_at d)) check own)

  module _ (steps : ℕ) (ending : PathEnding) (verdict : PathVerdict) (is : IsOf sheet.lp s t ending) where
    same_test : (check : Check) → IsVerdict sheet steps ending verdict check →
        verdict_test checker_of_128_bits sheet verdict check ≡ claim_said checker_of_128_bits ending check
    same_test check reported_so =
        ap (λ v. verdict_test checker_of_128_bits sheet v check) reported_so.is_verdict ∙ test_is checker_of_128_bits steps ending check is

    pub verdict_never_fails : (check : Check) → IsVerdict sheet steps ending verdict check → IsNotFailed (verdict_test checker_of_128_bits sheet verdict check)
    verdict_never_fails check reported_so = by (said_so ending check reported_so.is_check)
      where
        by : (claim_said checker_of_128_bits ending check ≡ Checked) ⊎ (claim_said checker_of_128_bits ending check ≡ found check) →
            IsNotFailed (verdict_test checker_of_128_bits sheet verdict check)
        by (inl e) = found_never _ reports.Checked (same_test check reported_so ∙ e)
        by (inr e) = found_never _ check (same_test check reported_so ∙ e)

    -- where the run's check was made, its verdict passes
    pub verdict_checked : IsVerdict sheet steps ending verdict reports.Checked → verdict_test checker_of_128_bits sheet verdict reports.Checked ≡ Checked
    verdict_checked reported_so = same_test reports.Checked reported_so ∙ by (said_so ending reports.Checked reported_so.is_check)
      where
        by : (claim_said checker_of_128_bits ending reports.Checked ≡ Checked) ⊎ (claim_said checker_of_128_bits ending reports.Checked ≡ Checked) →
            claim_said checker_of_128_bits ending reports.Checked ≡ Checked
        by (inl e) = e
        by (inr e) = e

  -- ---- SOLUTION

  abbrev p : LinearProgram
  p = sheet.lp

  abbrev prices : Vector
  prices = price_at p (basics_of s) t.rate

  -- the point and the prices as they are printed
  abbrev pub reported_point : Vector
  reported_point = value_at (listed p.matrix t.point)

  abbrev pub reported_prices : Vector
  reported_prices = value_at (listed p.matrix prices)

  abbrev test_by : Checker → Mark → List ℚ → List ℚ → Verdict
  test_by C mark xs ys =
      in_turn (says C (equations p 1 (value_at xs)) ∷ says C (reduced_costs p (value_at ys)) ∷
      says C (flat_map (slack_steps sheet (value_at xs) (value_at (column_of 2 (solution_lines sheet s t).rows)))
      (row_numbers p)) ∷ best_test C sheet mark (value_at xs) (value_at ys) ∷ [])

  module _ (lawful : IsLinearProgram p) (tab : IsTableau p s t) (at : IsNonsingularBasis p s) where
    keeps : KeepsEquations p.matrix reported_point
    keeps = KeepsEquations-same p.matrix t.point reported_point (λ k is. sym (value_at-listed p.matrix t.point k is)) tab.is_point.keeps

    counts : (j : ℕ) → IsColumn p.matrix j → reported_prices (p.rows + j) +ℚ sum_to p.rows (λ i. reported_prices (suc i) *ℚ entry p.matrix (suc i) j) ≡ cost p j
    counts j is =
        ap₂ ◌+ℚ◌ (value_at-listed p.matrix prices (p.rows + j) (omega (arith, is.0), omega (arith, is.1)))
        (sum_to-same p.rows _ _
        (λ i below. ap (λ x. x *ℚ entry p.matrix (suc i) j) (value_at-listed p.matrix prices (suc i) (omega arith, omega (arith, below)))))
        ∙ price_of_column p lawful (basics_of s) at.nonsingular t.rate tab.are_rates j is

    reduced : AreReducedCosts p reported_prices
    reduced j is =
        by_ring2 (reported_prices (p.rows + j)) (sum_to p.rows (λ i. reported_prices (suc i) *ℚ entry p.matrix (suc i) j)) (λ y s. y ≐ y ⊕ s ⊖ s) refl
        ∙ ap (λ c. c -ℚ sum_to p.rows (λ i. reported_prices (suc i) *ℚ entry p.matrix (suc i) j)) (counts j is)

    slack_is : (i : ℕ) → 1 ≤ i → i < 1 + p.rows → value_at p.rhs i -ℚ reported_point i ≡ value_at (column_of 2 (solution_lines sheet s t).rows) i
    slack_is i low high =
        let own : 1 + (i - 1) ≡ i = omega (arith, low) in
        ap (λ x. value_at p.rhs i -ℚ x) (value_at-listed p.matrix t.point i (low, omega (arith, high)))
        ∙ ap (λ k. value_at p.rhs k -ℚ t.point k) (sym own)
        ∙ sym (get_or-listed (λ k. value_at p.rhs k -ℚ t.point k) p.rows 1 (i - 1) zero_ℚ (omega (arith, low, high)))
        ∙ ap (λ (xs : List ℚ). value_at xs i) (sym (column_is sheet (solution_row sheet s t) 2 (row_numbers p)))

    slacks_hold : AllHold (flat_map (slack_steps sheet reported_point (value_at (column_of 2 (solution_lines sheet s t).rows))) (row_numbers p))
    slacks_hold = all_hold (slack_steps sheet reported_point (value_at (column_of 2 (solution_lines sheet s t).rows))) 1 p.rows
        (λ i low high. (test_from_same _ _ (slack_is i low high), tt))

    pub reported_passes : (C : Checker) (mark : Mark) → Passes C (best_test C sheet mark reported_point reported_prices) →
        Passes C (solution_test C sheet mark (solution_lines sheet s t))
    reported_passes C mark best =
        passes_same C (solution_test C sheet mark (solution_lines sheet s t)) (test_by C mark (listed p.matrix t.point) (listed p.matrix prices))
        (ap₂ (test_by C mark) (points_of_lines sheet s t) (prices_of_lines sheet s t))
        (pass_steps C (equations p 1 reported_point) _ (equations_hold p 1 reported_point keeps)
        (pass_steps C (reduced_costs p reported_prices) _ (costs_hold p lawful.is_matrix reported_prices reduced)
        (pass_steps C (flat_map (slack_steps sheet reported_point (value_at (column_of 2 (solution_lines sheet s t).rows))) (row_numbers p)) _ slacks_hold
        (pass_then C _ [] best (pass_none C))))).passes

    -- no difference of a slack is refused
    abbrev pub MakesSlacks : Type 0
    MakesSlacks = (i : ℕ) → 1 ≤ i → i < 1 + p.rows → refuses Sub (value_at p.rhs i) (reported_point i) ≡ false

    slacks_checked : MakesSlacks →
        verdict_of (flat_map (slack_steps sheet reported_point (value_at (column_of 2 (solution_lines sheet s t).rows))) (row_numbers p)) ≡ Checked
    slacks_checked fit = checked_each (slack_steps sheet reported_point (value_at (column_of 2 (solution_lines sheet s t).rows))) 1 p.rows (λ i low high.
        checked_operation Sub (value_at p.rhs i) (reported_point i)
        (comparison 6 i (eq_ℚ (value_at p.rhs i -ℚ reported_point i) (value_at (column_of 2 (solution_lines sheet s t).rows) i)) ∷ []) (fit i low high)
        (checked_comparison 6 i _ (test_from_same _ _ (slack_is i low high))))

    -- where the run's own check was made it passes whole
    pub reported_checked : optimal_check p reported_point reported_prices ≡ Checked → MakesSlacks →
        solution_test checker_of_128_bits sheet Optimal (solution_lines sheet s t) ≡ Checked
    reported_checked own fit =
        let parts =
        checked-append (feasible_point p reported_point) (reduced_costs p reported_prices ++ standing_prices p reported_point reported_prices) own in
        let equal = (checked-append (equations p 1 reported_point) (within_limits p reported_point) parts.0).0 in
        let costs = (checked-append (reduced_costs p reported_prices) (standing_prices p reported_point reported_prices) parts.1).0 in
        ap₂ (test_by checker_of_128_bits Optimal) (points_of_lines sheet s t) (prices_of_lines sheet s t)
        ∙ all_checked (verdict_of (equations p 1 reported_point)) (verdict_of (reduced_costs p reported_prices)) _
        (optimal_check p reported_point reported_prices) equal costs (slacks_checked fit) own

    feasible : IsFeasible p t.point → IsFeasible p reported_point
    feasible h = IsFeasible-same p t.point reported_point (λ k is. sym (value_at-listed p.matrix t.point k is)) h

    certificate : IsDualCertificate p t.point prices → IsDualCertificate p reported_point reported_prices
    certificate h = record {
      reduced = reduced;
      at_lower =
          λ k is positive. h.at_lower k is (subst (λ y. zero_ℚ <ℚ for_min p.sense y) (value_at-listed p.matrix prices k is) positive)
          ∙ ap (λ (x : ℚ). Some x) (sym (value_at-listed p.matrix t.point k is));
      at_upper =
          λ k is negative. h.at_upper k is (subst (λ y. for_min p.sense y <ℚ zero_ℚ) (value_at-listed p.matrix prices k is) negative)
          ∙ ap (λ (x : ℚ). Some x) (sym (value_at-listed p.matrix t.point k is));
    }

    pub best_passes : (C : Checker) → IsBest p t.point → IsDualCertificate p t.point prices → Passes C (says C (optimal_steps p reported_point reported_prices))
    best_passes C best proves =
        passes_steps C (optimal_steps p reported_point reported_prices) (optimal_holds p lawful.is_matrix reported_point reported_prices
        (feasible best.feasible) (certificate proves))
