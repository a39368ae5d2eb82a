-- Without a limit on the length of numbers nothing is refused.
use Rattle.std.proofs.Common.{◌≡◌, ℕ, ◌+◌, Bool, true, false, List, [], ◌∷◌, Option, Some, None, codes, nat_eq, if◌then◌else◌, refl}
use Rattle.exact_values.specs.Rational.{ℚ}
use Rattle.frac128.specs.declared.Refused.{Refused}
use Rattle.check_definitions.specs.declared.Verdict.{Verdict}
use Rattle.check_definitions.specs.declared.Verdict.TheVariants.{Checked, Failed, Unchecked}
use Rattle.check_definitions.specs.Steps.{in_turn}
use Rattle.listing_definitions.specs.Report.{ParametricInterval, ChainEnd}
use Rattle.question_definitions.specs.Answers.{Sheet, parametric_solver, ParametricRun, OfPath, OfSolution, OfRanges, OfParametricRun, OfPunch, OfInstall}
use Rattle.question_definitions.specs.Answers.{Reached, Opening, Chained}
use Rattle.answer_definitions.specs.ParametricRuns.{sheet_at}
use Rattle.walk_definitions.specs.Checkers.{Checker}
use Rattle.walk_definitions.specs.Words.{Parsed, left_after, fraction_in}
use Rattle.walk_definitions.specs.Tests.{says, making_steps, verdict_test, solution_test, interval_test, close_test}
use Rattle.walk_definitions.specs.Reading.{Judged, Right, Fails, Refuses, Claim, Run, by_verdict, tested_or, tested_by, judged_map, verdict_in, solution_in}
use Rattle.walk_definitions.specs.Reading.{interval_in, close_in, parametric_run_head, onward, part_in, run_in, parametric_run_in}
use Rattle.any_length_laws.specs.Laws.{without_limit, NeverRefuses}
use Rattle.any_length_laws.proofs.Tests.{IsTest, of_steps, over, next, verdict_is, solution_is, interval_is, close_is}

record NeverRefused {X : Type 0} (j : Judged X) : Type 0 where
  never : j ≡ Refuses → ⊥

failing : {X : Type 0} → NeverRefused {X = X} Fails
failing = record { never = λ e. cc e }

tested : {X : Type 0} (test : Checker → X → Verdict) (reads : (List ℕ → Option ℚ) → List ℕ → Parsed X) → ((x : X) → IsTest (λ C. test C x)) → (rest : List ℕ) →
    NeverRefused (tested_by without_limit (test without_limit) reads rest)
tested {X} test reads never rest = record { never = by (reads (fraction_in without_limit) rest) }
  where
    passed : (got : X × List ℕ) (v : Verdict) → ((refused : Refused) → v ≡ Unchecked refused → ⊥) → by_verdict v got.0 got.1 ≡ Refuses → ⊥
    passed got Checked h e = cc e
    passed got (Failed part number) h e = cc e
    passed got (Unchecked refused) h e = h refused refl

    by : (o : Parsed X) → tested_or Fails (test without_limit) o ≡ Refuses → ⊥
    by None e = cc e
    by (Some got) e = passed got (test without_limit got.0) ((never got.0).never None) e

made : {X Y : Type 0} (f : X → Y) (j : Judged X) → NeverRefused j → NeverRefused (judged_map f j)
made f (Right x rest) h = record { never = λ e. cc e }
made f Fails h = failing
made f Refuses h = record { never = λ e. h.never refl }

module _ (sheet : Sheet) (parametric_run : ParametricRun) where
  onwards : (go : ℚ → List ℕ → Judged Run) → ((last : ℚ) (rest : List ℕ) → NeverRefused (go last rest)) → (j : Judged ParametricInterval) → NeverRefused j →
      NeverRefused (onward go j)
  onwards go later (Right interval after) h = made (λ (run : Run). (interval ∷ run.0, run.1)) (go interval.to after) (later interval.to after)
  onwards go later Fails h = failing
  onwards go later Refuses h = record { never = λ e. h.never refl }

  part : (go : ℚ → List ℕ → Judged Run) → ((last : ℚ) (rest : List ℕ) → NeverRefused (go last rest)) →
      (number : ℕ) (last : ℚ) (rest : List ℕ) (o : Option (List ℕ)) →
      NeverRefused (part_in without_limit sheet parametric_run go number last rest o)
  part go later number last rest (Some left) =
      onwards go later _
      (tested (λ C. interval_test C sheet parametric_run.changing (nat_eq number 1) parametric_run.to) (λ of. interval_in of sheet number last)
      (interval_is sheet parametric_run.changing (nat_eq number 1) parametric_run.to) rest)
  part go later number last rest None = by (nat_eq number 1)
    where
      by : (b : Bool) → NeverRefused {X = Run} (if b then Fails else judged_map (λ (end : ChainEnd). ([], end))
          (tested_by without_limit (close_test without_limit sheet parametric_run.changing parametric_run.to last)
          (λ of. close_in of sheet (parametric_solver parametric_run.changing)) rest))
      by true = failing
      by false =
          made (λ (end : ChainEnd). ([], end)) _
          (tested (λ C. close_test C sheet parametric_run.changing parametric_run.to last)
          (λ of. close_in of sheet (parametric_solver parametric_run.changing)) (close_is sheet parametric_run.changing parametric_run.to last) rest)

  run : (room : List ℕ) (number : ℕ) (last : ℚ) (rest : List ℕ) → NeverRefused (run_in without_limit sheet parametric_run room number last rest)
  run [] number last rest = failing
  run (byte ∷ room) number last rest =
      part (run_in without_limit sheet parametric_run room (number + 1)) (run room (number + 1)) number last rest (left_after (codes "INTERVAL ") rest)

  whole : (rest : List ℕ) (o : Option (List ℕ)) → NeverRefused (parametric_run_in without_limit sheet parametric_run rest o)
  whole rest None =
      made (λ (claim : Claim). Opening [] claim.0 claim.1) _ (tested
      (λ C (claim : Claim). in_turn
      (says C (making_steps sheet parametric_run.changing parametric_run.from) ∷ verdict_test C
      (sheet_at sheet parametric_run.changing parametric_run.from) claim.0 claim.1 ∷ []))
      (λ of. verdict_in of sheet (parametric_solver parametric_run.changing))
      (λ claim. next (of_steps (making_steps sheet parametric_run.changing parametric_run.from))
      (next (verdict_is (sheet_at sheet parametric_run.changing parametric_run.from) claim.0 claim.1) over)) rest)
  whole rest (Some after) = made (λ (run : Run). Chained [] run.0 run.1) _ (run after 1 parametric_run.from after)

pub never_refuses : NeverRefuses
never_refuses (OfPath solver limit) sheet rest e =
    (made (λ (claim : Claim). Reached [] claim.0 claim.1) _
    (tested (λ C (claim : Claim). verdict_test C sheet claim.0 claim.1) (λ of. verdict_in of sheet solver)
    (λ claim. verdict_is sheet claim.0 claim.1) rest)).never e
never_refuses (OfSolution mark) sheet rest e =
    (tested (λ C. solution_test C sheet mark) (λ of. solution_in of sheet mark) (solution_is sheet mark) rest).never e
never_refuses OfRanges sheet rest e = cc e
never_refuses OfPunch sheet rest e = cc e
never_refuses (OfInstall basis) sheet rest e = cc e
never_refuses (OfParametricRun parametric_run) sheet rest e = (whole sheet parametric_run rest (left_after (parametric_run_head parametric_run) rest)).never e
