-- What is judged right passed its tests. The word of a check is one that the checker takes; that of an optimal verdict is tested later.
--     OnRight P judged             what is judged right is so
--     TakesUnlessOptimal C ..      the checker takes the word of a verdict's check, unless the verdict is optimal
use Rattle.std.proofs.Common.{◌≡◌, ℕ, Bool, true, false, List, [], ◌∷◌, Option, Some, None, refl, subst}
use Rattle.std.specs.Prelude.{if◌then◌else◌, ◌&&◌, is_some}
use Rattle.exact_values.specs.Rational.{ℚ}
use Rattle.check_definitions.specs.declared.Verdict.{Verdict}
use Rattle.check_definitions.specs.declared.Verdict.TheVariants.{Checked, Failed, Unchecked}
use Rattle.check_definitions.specs.Steps.{in_turn}
use Rattle.check_definitions.proofs.Passing.{both_checked, holds_if_checked}
use Rattle.listing_definitions.specs.declared.Solver.{Solver}
use Rattle.listing_definitions.specs.Report.{PathVerdict, OptimalAt, CrossedAt, InfeasibleBy, UnboundedBy, Check}
use Rattle.question_definitions.specs.Answers.{Basis, Sheet, parametric_solver, ParametricRun, OfPath, OfParametricRun, PathEnd, Reached, ParametricRunEnd}
use Rattle.question_definitions.specs.Answers.{Opening, Chained}
use Rattle.answer_definitions.specs.ParametricRuns.{sheet_at}
use Rattle.walk_definitions.specs.Checkers.{Checker}
use Rattle.walk_definitions.specs.Words.{Parsed, left_after, fraction_in, form_in}
use Rattle.walk_definitions.specs.Tests.{says, asked, claim_test, verdict_test, making_steps}
use Rattle.walk_definitions.specs.Reading.{Judged, Right, Fails, Refuses, by_verdict, tested_or, tested_by, judged_map, Claim, verdict_in, Run, run_in}
use Rattle.walk_definitions.specs.Reading.{parametric_run_head, parametric_run_in, judged}
use Rattle.walk_laws.specs.Views.{IsTrueAtFirst}

abbrev pub OnRight : {X : Type 0} → (X → Type 0) → Judged X → Type 0
OnRight P (Right x rest) = P x
OnRight P judged = Unit {0}

pub on_map : {X Y : Type 0} (P : Y → Type 0) (f : X → Y) (judged : Judged X) → OnRight (λ x. P (f x)) judged → OnRight P (judged_map f judged)
on_map P f (Right x rest) holds = holds
on_map P f Fails holds = tt
on_map P f Refuses holds = tt

pub on_any : {X : Type 0} (P : X → Type 0) → ((x : X) → P x) → (judged : Judged X) → OnRight P judged
on_any P all (Right x rest) = all x
on_any P all Fails = tt
on_any P all Refuses = tt

pub on_tested : (C : Checker) {X : Type 0} (P : X → Type 0) (test : X → Verdict) → ((x : X) → test x ≡ Checked → P x) →
    (reads : (List ℕ → Option ℚ) → List ℕ → Parsed X) (rest : List ℕ) → OnRight P (tested_by C test reads rest)
on_tested C {X} P test passes reads rest = by_reading (is_some C.most_digits && is_some (reads (form_in C) rest)) (reads (fraction_in C) rest)
  where
    by : (got : X × List ℕ) (verdict : Verdict) → test got.0 ≡ verdict → OnRight P (by_verdict verdict got.0 got.1)
    by got Checked e = passes got.0 e
    by got (Failed part number) e = tt
    by got (Unchecked refused) e = tt

    by_reading : (b : Bool) (parsed : Parsed X) → OnRight P (tested_or (if b then Refuses else Fails) test parsed)
    by_reading true None = tt
    by_reading false None = tt
    by_reading b (Some got) = by got (test got.0) refl

-- ---- the word of a check

module _ (C : Checker) where
  abbrev pub TakesUnlessOptimal : PathVerdict → Check → Type 0
  TakesUnlessOptimal (OptimalAt steps objective) check = Unit {0}
  TakesUnlessOptimal verdict check = C.takes check ≡ true

  by_word : (claim : Verdict) (check : Check) → in_turn (claim ∷ asked (C.takes check) ∷ []) ≡ Checked → C.takes check ≡ true
  by_word claim check e =
      let both = both_checked claim (in_turn (asked (C.takes check) ∷ [])) e in
      let second = both_checked (asked (C.takes check)) (in_turn []) both.1 in
      holds_if_checked 6 0 (C.takes check) second.0

  word_tested : (sheet : Sheet) (verdict : PathVerdict) (check : Check) → verdict_test C sheet verdict check ≡ Checked → TakesUnlessOptimal verdict check
  word_tested sheet (OptimalAt steps objective) check e = tt
  word_tested sheet (CrossedAt k) check e = by_word (claim_test C sheet (CrossedAt k)) check e
  word_tested sheet (InfeasibleBy steps lines) check e = by_word (claim_test C sheet (InfeasibleBy steps lines)) check e
  word_tested sheet (UnboundedBy steps objective lines) check e = by_word (claim_test C sheet (UnboundedBy steps objective lines)) check e

  -- ---- of a path

  abbrev OfEnd : PathEnd → Type 0
  OfEnd (Reached bases verdict check) = TakesUnlessOptimal verdict check
  OfEnd end = Unit {0}

  on_path : (solver : Solver) (limit : Option ℕ) (sheet : Sheet) (rest : List ℕ) → OnRight OfEnd (judged C (OfPath solver limit) sheet rest)
  on_path solver limit sheet rest =
      on_map OfEnd (λ (claim : Claim). Reached [] claim.0 claim.1)
      (tested_by C (λ (claim : Claim). verdict_test C sheet claim.0 claim.1) (λ of. verdict_in of sheet solver) rest)
      (on_tested C (λ (claim : Claim). TakesUnlessOptimal claim.0 claim.1) (λ (claim : Claim). verdict_test C sheet claim.0 claim.1)
      (λ claim e. word_tested sheet claim.0 claim.1 e) (λ of. verdict_in of sheet solver) rest)

  pub path_word : (solver : Solver) (limit : Option ℕ) (sheet : Sheet) (rest after : List ℕ) (bases : List Basis) (verdict : PathVerdict) (check : Check) →
      judged C (OfPath solver limit) sheet rest ≡ Right (Reached bases verdict check) after → TakesUnlessOptimal verdict check
  path_word solver limit sheet rest after bases verdict check e = subst (OnRight OfEnd) e (on_path solver limit sheet rest)

  -- ---- of an opening, which isn't optimal

  abbrev OfRunEnd : ParametricRunEnd → Type 0
  OfRunEnd (Opening bases verdict check) = TakesUnlessOptimal verdict check
  OfRunEnd end = Unit {0}

  module _ (sheet : Sheet) (parametric_run : ParametricRun) where
    abbrev first_sheet : Sheet
    first_sheet = sheet_at sheet parametric_run.changing parametric_run.from

    abbrev making : Verdict
    making = says C (making_steps sheet parametric_run.changing parametric_run.from)

    abbrev opening_test : Claim → Verdict
    opening_test claim = in_turn (making ∷ verdict_test C first_sheet claim.0 claim.1 ∷ [])

    opening_tested : (claim : Claim) → opening_test claim ≡ Checked → TakesUnlessOptimal claim.0 claim.1
    opening_tested claim e =
        let both = both_checked making (in_turn (verdict_test C first_sheet claim.0 claim.1 ∷ [])) e in
        let second = both_checked (verdict_test C first_sheet claim.0 claim.1) (in_turn []) both.1 in
        word_tested first_sheet claim.0 claim.1 second.0

    on_run : (rest : List ℕ) (left : Option (List ℕ)) → OnRight OfRunEnd (parametric_run_in C sheet parametric_run rest left)
    on_run rest None =
        on_map OfRunEnd (λ (claim : Claim). Opening [] claim.0 claim.1)
        (tested_by C opening_test (λ of. verdict_in of sheet (parametric_solver parametric_run.changing)) rest)
        (on_tested C (λ (claim : Claim). TakesUnlessOptimal claim.0 claim.1) opening_test opening_tested
        (λ of. verdict_in of sheet (parametric_solver parametric_run.changing)) rest)
    on_run rest (Some after) =
        on_map OfRunEnd (λ (run : Run). Chained [] run.0 run.1) (run_in C sheet parametric_run after 1 parametric_run.from after)
        (on_any (λ (run : Run). Unit {0}) (λ run. tt) _)

    not_optimal : (verdict : PathVerdict) (check : Check) → IsTrueAtFirst first_sheet verdict → TakesUnlessOptimal verdict check → C.takes check ≡ true
    not_optimal (OptimalAt steps objective) check truth takes = absurd truth
    not_optimal (CrossedAt k) check truth takes = takes
    not_optimal (InfeasibleBy steps lines) check truth takes = takes
    not_optimal (UnboundedBy steps objective lines) check truth takes = takes

    pub opening_word : (rest after : List ℕ) (bases : List Basis) (verdict : PathVerdict) (check : Check) → IsTrueAtFirst first_sheet verdict →
        judged C (OfParametricRun parametric_run) sheet rest ≡ Right (Opening bases verdict check) after → C.takes check ≡ true
    opening_word rest after bases verdict check truth e =
        not_optimal verdict check truth (subst (OnRight OfRunEnd) e (on_run rest (left_after (parametric_run_head parametric_run) rest)))
