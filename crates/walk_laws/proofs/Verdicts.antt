-- A verdict that passes its test is true of the linear program.
use Rattle.std.proofs.Common.{◌≡◌, ℕ, List, [], ◌∷◌, Option, None, sym, ap, ◌∙◌, subst}
use Rattle.exact_values.specs.Rational.{ℚ}
use Rattle.exact_values.specs.Tests.{eq_ℚ}
use Rattle.exact_values.proofs.TestsLaws.{same_from_test}
use Rattle.lp_definitions.specs.LinearProgram.{Vector, value_at, with_change_row, IsVariable, IsLinearProgram}
use Rattle.lp_definitions.specs.Solutions.{IsCrossed, IsInfeasible, IsUnbounded}
use Rattle.lp_laws.proofs.Duality.{infeasible_by_crossed, infeasible_by_ray, unbounded_by_direction}
use Rattle.check_definitions.specs.declared.Verdict.{Verdict}
use Rattle.check_definitions.specs.declared.Verdict.TheVariants.{Checked}
use Rattle.check_definitions.specs.Steps.{Step, in_turn, AllHold}
use Rattle.check_definitions.specs.Checks.{crossed_steps, infeasible_steps, unbounded_steps}
use Rattle.check_definitions.proofs.Holding.{checked_hold}
use Rattle.certificate_laws.proofs.Meaning.{infeasible_ray_if_held, unbounded_if_held, crossed_if_held}
use Rattle.listing_definitions.specs.declared.Solver.{Solver}
use Rattle.listing_definitions.specs.declared.Solver.TheVariants.{Dual}
use Rattle.listing_definitions.specs.Report.{Line, PathVerdict, OptimalAt, CrossedAt, InfeasibleBy, UnboundedBy, Check}
use Rattle.question_definitions.specs.Answers.{Basis, Sheet, OfPath, Reached, PathEnd}
use Rattle.answer_definitions.specs.Lines.{pair_lines, ray_lines}
use Rattle.soundness_laws.specs.Truth.{AreLinesOfRay, AreLinesOfDirection, IsNotUnbounded}
use Rattle.walk_definitions.specs.Checkers.{Checker}
use Rattle.walk_definitions.specs.Words.{fraction_in}
use Rattle.walk_definitions.specs.Tables.{multipliers, column_of}
use Rattle.walk_definitions.specs.Tests.{says, asked, claim_test, verdict_test}
use Rattle.walk_definitions.specs.Reading.{Claim, Right, judged, tested_by, verdict_in}
use Rattle.walk_laws.specs.Views.{AreLinesOfGrowth, IsTrueAtFirst}
use Rattle.walk_laws.specs.Judged.{IsTrueUnlessOptimal}
use Rattle.walk_laws.proofs.Judging.{asked_holds, each_checked, right_is_passed, right_is_made}
use Rattle.walk_laws.proofs.Claims.{MayBeOptimal, IsFormed, verdict_formed}

module _ (C : Checker) (sheet : Sheet) (lawful : IsLinearProgram sheet.lp) where
  -- steps that are tested with the word of a check hold
  held : (steps : List Step) (check : Check) → in_turn (says C steps ∷ asked (C.takes check) ∷ []) ≡ Checked → AllHold steps
  held steps check e = checked_hold C.arithmetic steps (each_checked (says C steps ∷ asked (C.takes check) ∷ []) e).0

  crossed_is_true : (k : ℕ) → IsVariable sheet.lp.matrix k → AllHold (crossed_steps sheet.lp k) → IsCrossed sheet.lp k × IsInfeasible sheet.lp
  crossed_is_true k is e = let crossed = crossed_if_held sheet.lp k is e in (crossed, infeasible_by_crossed sheet.lp k crossed)

  ray_is_true : (lines : List Line) → lines ≡ ray_lines sheet (multipliers sheet lines)
      → AllHold (infeasible_steps sheet.lp (value_at (multipliers sheet lines)))
      → AreLinesOfRay sheet lines × IsInfeasible sheet.lp
  ray_is_true lines are e =
      let is_ray = infeasible_ray_if_held sheet.lp lawful.is_matrix (value_at (multipliers sheet lines)) e in
      (record { ray = multipliers sheet lines; is_ray = is_ray; are_lines = are }, infeasible_by_ray sheet.lp (value_at (multipliers sheet lines)) is_ray)

  growth_is_true : (steps : ℕ) (objective : ℚ) (lines : List Line) → lines ≡ pair_lines sheet (column_of 0 lines) (column_of 1 lines)
      → claim_test C sheet (UnboundedBy steps objective lines) ≡ Checked
      → AreLinesOfGrowth sheet objective lines × IsUnbounded sheet.lp
  growth_is_true steps objective lines are e =
      let z : Vector = value_at (column_of 0 lines) in
      let d : Vector = value_at (column_of 1 lines) in
      let each = each_checked (says C (unbounded_steps sheet.lp z d) ∷ asked (eq_ℚ objective (z sheet.lp.objective)) ∷ []) e in
      let proves = unbounded_if_held sheet.lp z d (checked_hold C.arithmetic (unbounded_steps sheet.lp z d) each.0) in (
        record {
          point = column_of 0 lines;
          direction = column_of 1 lines;
          proves = proves;
          is_activity = same_from_test objective (z sheet.lp.objective) (asked_holds _ each.1.0);
          are_lines = are;
        },
        unbounded_by_direction sheet.lp z d proves,
      )

  -- what is formed so and passes is true
  pub claim_is_true : (solver : Solver) (verdict : PathVerdict) (check : Check) → (MayBeOptimal solver → ⊥) → IsFormed solver sheet verdict →
      verdict_test C sheet verdict check ≡ Checked → IsTrueAtFirst sheet verdict
  claim_is_true solver (OptimalAt steps objective) check never formed e = never formed
  claim_is_true solver (CrossedAt k) check never formed e = crossed_is_true k formed (held (crossed_steps sheet.lp k) check e)
  claim_is_true solver (InfeasibleBy steps lines) check never formed e =
      ray_is_true lines formed (held (infeasible_steps sheet.lp (value_at (multipliers sheet lines))) check e)
  claim_is_true solver (UnboundedBy steps objective lines) check never formed e =
      growth_is_true steps objective lines formed.1 (each_checked (claim_test C sheet (UnboundedBy steps objective lines) ∷ asked (C.takes check) ∷ []) e).0

  -- without a change row the activity of the objective row is the objective
  direction_of : sheet.lp.change ≡ None → (objective : ℚ) (lines : List Line) → AreLinesOfGrowth sheet objective lines →
      AreLinesOfDirection sheet objective lines
  direction_of none objective lines h = record {
    point = h.point;
    direction = h.direction;
    proves = h.proves;
    is_objective = h.is_activity ∙ ap (λ change. with_change_row change (value_at h.point) (value_at h.point sheet.lp.objective)) (sym none);
    are_lines = h.are_lines;
  }

  pub verdict_of_claim : (solver : Solver) (verdict : PathVerdict) (check : Check) → sheet.lp.change ≡ None → IsFormed solver sheet verdict →
      verdict_test C sheet verdict check ≡ Checked → IsTrueUnlessOptimal sheet verdict
  verdict_of_claim solver (OptimalAt steps objective) check none formed e = tt
  verdict_of_claim solver (CrossedAt k) check none formed e = crossed_is_true k formed (held (crossed_steps sheet.lp k) check e)
  verdict_of_claim solver (InfeasibleBy steps lines) check none formed e =
      ray_is_true lines formed (held (infeasible_steps sheet.lp (value_at (multipliers sheet lines))) check e)
  verdict_of_claim solver (UnboundedBy steps objective lines) check none formed e =
      let h =
      growth_is_true steps objective lines formed.1 (each_checked (claim_test C sheet (UnboundedBy steps objective lines) ∷ asked (C.takes check) ∷ []) e).0 in
      (direction_of none objective lines h.0, h.1)

-- ---- the answer to the question for a path

-- the verdict was read, formed so, and passed
record IsJudged (C : Checker) (solver : Solver) (sheet : Sheet) (verdict : PathVerdict) (check : Check) : Type 0 where
  formed : IsFormed solver sheet verdict
  passes : verdict_test C sheet verdict check ≡ Checked

path_is_judged : (C : Checker) (solver : Solver) (limit : Option ℕ) (sheet : Sheet) (rest after : List ℕ) (bases : List Basis) (verdict : PathVerdict)
    (check : Check) →
    judged C (OfPath solver limit) sheet rest ≡ Right (Reached bases verdict check) after → IsJudged C solver sheet verdict check
path_is_judged C solver limit sheet rest after bases verdict check e =
    let test : Claim → Verdict = λ claim. verdict_test C sheet claim.0 claim.1 in
    let answer : Claim → PathEnd = λ claim. Reached [] claim.0 claim.1 in
    let made = right_is_made answer (tested_by C test (λ of. verdict_in of sheet solver) rest) (Reached bases verdict check) after e in
    let right = right_is_passed C test (λ of. verdict_in of sheet solver) rest made.made_of after made.is_right in
    of_same made.made_of made.is_made (verdict_formed (fraction_in C) sheet solver rest after made.made_of right.is_read) right.passes
  where
    of_same : (claim : Claim) → Reached [] claim.0 claim.1 ≡ Reached bases verdict check → IsFormed solver sheet claim.0 →
        verdict_test C sheet claim.0 claim.1 ≡ Checked → IsJudged C solver sheet verdict check
    of_same claim e formed passes =
        let same : claim.0 ≡ verdict = cc in
        let word : claim.1 ≡ check = cc in
        record {
          formed = subst (λ (v : PathVerdict). IsFormed solver sheet v) same formed;
          passes = sym (λ i. verdict_test C sheet (same i) (word i)) ∙ passes;
        }

pub verdict_is_true : (C : Checker) (solver : Solver) (limit : Option ℕ) (sheet : Sheet) (rest after : List ℕ) (bases : List Basis) (verdict : PathVerdict)
    (check : Check) →
    IsLinearProgram sheet.lp → sheet.lp.change ≡ None →
    judged C (OfPath solver limit) sheet rest ≡ Right (Reached bases verdict check) after → IsTrueUnlessOptimal sheet verdict
verdict_is_true C solver limit sheet rest after bases verdict check lawful none e =
    let h = path_is_judged C solver limit sheet rest after bases verdict check e in
    verdict_of_claim C sheet lawful solver verdict check none h.formed h.passes

pub dual_is_not_unbounded : (C : Checker) (limit : Option ℕ) (sheet : Sheet) (rest after : List ℕ) (bases : List Basis) (verdict : PathVerdict)
    (check : Check) →
    judged C (OfPath Dual limit) sheet rest ≡ Right (Reached bases verdict check) after → IsNotUnbounded verdict
dual_is_not_unbounded C limit sheet rest after bases verdict check e = by verdict (path_is_judged C Dual limit sheet rest after bases verdict check e).formed
  where
    by : (verdict : PathVerdict) → IsFormed Dual sheet verdict → IsNotUnbounded verdict
    by (OptimalAt steps objective) h = tt
    by (CrossedAt k) h = tt
    by (InfeasibleBy steps lines) h = tt
    by (UnboundedBy steps objective lines) h = h.0
