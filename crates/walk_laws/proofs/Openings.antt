-- The verdict of an opening that passes is true of the linear program at the first value.
use Rattle.std.proofs.Common.{◌≡◌, ℕ, List, [], ◌∷◌, Option, Some, None, subst}
use Rattle.exact_values.specs.Rational.{ℚ}
use Rattle.lp_definitions.specs.LinearProgram.{IsLinearProgram}
use Rattle.parametric_laws.proofs.OneObjective.{lawful_objective}
use Rattle.parametric_laws.proofs.OneRhs.{lawful_rhs}
use Rattle.check_definitions.specs.declared.Verdict.{Verdict}
use Rattle.check_definitions.specs.Steps.{in_turn}
use Rattle.listing_definitions.specs.declared.Solver.{Solver}
use Rattle.listing_definitions.specs.Report.{PathVerdict, OptimalAt, CrossedAt, InfeasibleBy, UnboundedBy, Check}
use Rattle.question_definitions.specs.Answers.{Basis, Sheet, Changing, Row, Set, parametric_solver, ParametricRun, ParametricRunEnd, OfParametricRun, Opening}
use Rattle.question_definitions.specs.Answers.{Chained}
use Rattle.answer_definitions.specs.ParametricRuns.{row_of, shifts_of, family_of, sheet_at}
use Rattle.walk_definitions.specs.Checkers.{Checker}
use Rattle.walk_definitions.specs.Words.{left_after, fraction_in}
use Rattle.walk_definitions.specs.Tests.{says, making_steps, verdict_test}
use Rattle.walk_definitions.specs.Reading.{Claim, Run, Right, judged, tested_by, verdict_in, parametric_run_head, run_in, opening_in, parametric_run_in}
use Rattle.soundness_laws.specs.ParametricRuns.{ChangesFreely}
use Rattle.walk_laws.specs.Views.{IsTrueAtFirst}
use Rattle.walk_laws.proofs.Judging.{each_checked, right_is_passed, right_is_made}
use Rattle.walk_laws.proofs.Claims.{MayBeOptimal, IsFormed, verdict_formed}
use Rattle.walk_laws.proofs.Verdicts.{claim_is_true}

-- the linear program at each value is lawful
pub lawful_family : (sheet : Sheet) (changing : Changing) → IsLinearProgram sheet.lp → ChangesFreely sheet changing → (theta : ℚ) →
    IsLinearProgram (family_of sheet changing theta)
lawful_family sheet (Row name) lawful may theta = lawful_objective sheet.lp (row_of sheet.problem name) lawful may.0 may.1 theta
lawful_family sheet (Set name) lawful may theta = lawful_rhs sheet.lp (shifts_of sheet.problem name) lawful theta

-- it has the same variables
formed_at : (sheet : Sheet) (changing : Changing) (theta : ℚ) (solver : Solver) (verdict : PathVerdict) → IsFormed solver sheet verdict →
    IsFormed solver (sheet_at sheet changing theta) verdict
formed_at sheet (Row name) theta solver (OptimalAt steps objective) h = h
formed_at sheet (Row name) theta solver (CrossedAt k) h = h
formed_at sheet (Row name) theta solver (InfeasibleBy steps lines) h = h
formed_at sheet (Row name) theta solver (UnboundedBy steps objective lines) h = h
formed_at sheet (Set name) theta solver (OptimalAt steps objective) h = h
formed_at sheet (Set name) theta solver (CrossedAt k) h = h
formed_at sheet (Set name) theta solver (InfeasibleBy steps lines) h = h
formed_at sheet (Set name) theta solver (UnboundedBy steps objective lines) h = h

never_optimal : (changing : Changing) → MayBeOptimal (parametric_solver changing) → ⊥
never_optimal (Row name) h = h
never_optimal (Set name) h = h

module _ (C : Checker) (sheet : Sheet) (parametric_run : ParametricRun) where
  abbrev first_sheet : Sheet
  first_sheet = sheet_at sheet parametric_run.changing parametric_run.from

  abbrev pub claim_steps : Claim → Verdict
  claim_steps claim = in_turn (says C (making_steps sheet parametric_run.changing parametric_run.from) ∷ verdict_test C first_sheet claim.0 claim.1 ∷ [])

  abbrev pub opening_of : Claim → ParametricRunEnd
  opening_of claim = Opening [] claim.0 claim.1

  -- an opening is read where no run of intervals begins
  no_intervals : (rest after : List ℕ) (bases : List Basis) (verdict : PathVerdict) (check : Check) (left : Option (List ℕ)) →
      parametric_run_in C sheet parametric_run rest left ≡ Right (Opening bases verdict check) after →
      opening_in C sheet parametric_run rest ≡ Right (Opening bases verdict check) after
  no_intervals rest after bases verdict check None e = e
  no_intervals rest after bases verdict check (Some on) e =
      let run : Run → ParametricRunEnd = λ run. Chained [] run.0 run.1 in
      let made = right_is_made run (run_in C sheet parametric_run on 1 parametric_run.from on) (Opening bases verdict check) after e in
      let two : Chained [] made.made_of.0 made.made_of.1 ≡ Opening bases verdict check = made.is_made in
      cc two

  pub opening_is_true : (rest after : List ℕ) (bases : List Basis) (verdict : PathVerdict) (check : Check) → IsLinearProgram sheet.lp →
      ChangesFreely sheet parametric_run.changing →
      judged C (OfParametricRun parametric_run) sheet rest ≡ Right (Opening bases verdict check) after → IsTrueAtFirst first_sheet verdict
  opening_is_true rest after bases verdict check lawful may e =
      let read = no_intervals rest after bases verdict check (left_after (parametric_run_head parametric_run) rest) e in
      let made =
      right_is_made opening_of (tested_by C claim_steps (λ of. verdict_in of sheet (parametric_solver parametric_run.changing)) rest)
      (Opening bases verdict check) after read in
      let right = right_is_passed C claim_steps (λ of. verdict_in of sheet (parametric_solver parametric_run.changing)) rest made.made_of after made.is_right in
      let claim : Claim = made.made_of in
      let each =
      each_checked (says C (making_steps sheet parametric_run.changing parametric_run.from) ∷ verdict_test C first_sheet claim.0 claim.1 ∷ []) right.passes in
      let formed =
      formed_at sheet parametric_run.changing parametric_run.from (parametric_solver parametric_run.changing) claim.0
      (verdict_formed (fraction_in C) sheet (parametric_solver parametric_run.changing) rest after claim right.is_read) in
      let is_true =
      claim_is_true C first_sheet (lawful_family sheet parametric_run.changing lawful may parametric_run.from)
      (parametric_solver parametric_run.changing) claim.0 claim.1 (never_optimal parametric_run.changing) formed each.1.0 in
      of_same claim made.is_made is_true
    where
      of_same : (claim : Claim) → Opening [] claim.0 claim.1 ≡ Opening bases verdict check → IsTrueAtFirst first_sheet claim.0 →
          IsTrueAtFirst first_sheet verdict
      of_same claim e h = let same : claim.0 ≡ verdict = cc in subst (λ (v : PathVerdict). IsTrueAtFirst first_sheet v) same h
