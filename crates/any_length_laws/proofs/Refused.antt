-- Where an answer is refused by a checker of any length, a number that is too long stands in the text of the listing.
use Rattle.std.proofs.Common.{◌≡◌, ◌⊎◌, inl, inr, ℕ, ◌+◌, Bool, true, false, List, [], ◌∷◌, ◌++◌, Option, Some, None, codes, nat_eq, if◌then◌else◌, refl, sym}
use Rattle.std.proofs.Common.{ap, ◌∙◌, subst}
use Rattle.std.specs.Prelude.{◌&&◌, is_some}
use Rattle.exact_values.specs.Rational.{ℚ}
use Rattle.frac128.specs.declared.Refused.{Refused}
use Rattle.check_definitions.specs.declared.Verdict.{Verdict}
use Rattle.check_definitions.specs.declared.Verdict.TheVariants.{Checked, Failed, Unchecked}
use Rattle.check_definitions.specs.Steps.{in_turn}
use Rattle.listing_definitions.specs.Report.{ParametricInterval, ChainEnd}
use Rattle.question_definitions.specs.Answers.{Sheet, parametric_solver, ParametricRun, OfPath, OfSolution, OfRanges, OfParametricRun, OfPunch, OfInstall}
use Rattle.question_definitions.specs.Answers.{Reached, Opening, Chained}
use Rattle.answer_definitions.specs.ParametricRuns.{sheet_at}
use Rattle.walk_definitions.specs.Checkers.{Checker, checker_of_any_length}
use Rattle.walk_definitions.specs.Words.{Parsed, left_after, fraction_in, form_in}
use Rattle.walk_definitions.specs.Tests.{says, making_steps, verdict_test, solution_test, interval_test, close_test}
use Rattle.walk_definitions.specs.Reading.{Judged, Right, Fails, Refuses, Claim, Run, by_verdict, tested_or, tested_by, judged_map, verdict_in, solution_in}
use Rattle.walk_definitions.specs.Reading.{interval_in, close_in, parametric_run_head, onward, part_in, run_in, parametric_run_in}
use Rattle.any_length_laws.specs.Laws.{HasLong, RefusesLong}
use Rattle.any_length_laws.proofs.Tests.{any, IsTest, of_steps, over, next, verdict_is, solution_is, interval_is, close_is}
use Rattle.any_length_laws.proofs.Longer.{IsSuffix, text_suffix, long_before, Reads}
use Rattle.any_length_laws.proofs.LongGrammar.{value_formed, verdict_reads, solution_reads, interval_reads, close_reads}
use Rattle.any_length_laws.proofs.Grammar as grammar

module _ (limit : Option ℕ) where
  -- where it is refused a long number stands
  record IsFor {X : Type 0} (j : Judged X) (rest : List ℕ) : Type 0 where
    long : j ≡ Refuses → HasLong (any limit) rest

  failing : {X : Type 0} (rest : List ℕ) → IsFor {X = X} Fails rest
  failing rest = record { long = λ e. cc e }

  tested : {X : Type 0} (test : Checker → X → Verdict) (reads : (List ℕ → Option ℚ) → List ℕ → Parsed X) → ((x : X) → IsTest (λ C. test C x)) →
      Reads (any limit) (reads (form_in (any limit))) (reads (fraction_in (any limit))) →
      (rest : List ℕ) → IsFor (tested_by (any limit) (test (any limit)) reads rest) rest
  tested {X} test reads never formed rest = record { long = by (reads (fraction_in (any limit)) rest) refl }
    where
      passed : (got : X × List ℕ) (v : Verdict) → ((refused : Refused) → v ≡ Unchecked refused → ⊥) → by_verdict v got.0 got.1 ≡ Refuses →
          HasLong (any limit) rest
      passed got Checked h e = cc e
      passed got (Failed part number) h e = cc e
      passed got (Unchecked refused) h e = absurd (h refused refl)

      by_form : (o : Parsed X) → reads (form_in (any limit)) rest ≡ o → reads (fraction_in (any limit)) rest ≡ None → (b : Bool) →
          (let unread : Judged X = if b && is_some o then Refuses else Fails in unread ≡ Refuses) → HasLong (any limit) rest
      by_form None is none true e = cc e
      by_form o is none false e = cc e
      by_form (Some got) is none true e = found (formed.agree rest got is)
        where
          found : (reads (fraction_in (any limit)) rest ≡ Some got) ⊎ HasLong (any limit) rest → HasLong (any limit) rest
          found (inl same) = let never : None ≡ Some got = sym none ∙ same in absurd (cc never)
          found (inr long) = long

      by : (o : Parsed X) → reads (fraction_in (any limit)) rest ≡ o →
          tested_or (if is_some limit && is_some (reads (form_in (any limit)) rest) then Refuses else Fails) (test (any limit)) o ≡ Refuses →
          HasLong (any limit) rest
      by None is e = by_form (reads (form_in (any limit)) rest) refl is (is_some limit) e
      by (Some got) is e = passed got (test (any limit) got.0) ((never got.0).never limit) e

  made : {X Y : Type 0} (f : X → Y) (j : Judged X) (rest : List ℕ) → IsFor j rest → IsFor (judged_map f j) rest
  made f (Right x left) rest h = record { long = λ e. cc e }
  made f Fails rest h = failing rest
  made f Refuses rest h = record { long = λ e. h.long refl }

  behind : {X : Type 0} (j : Judged X) (rest left : List ℕ) → IsSuffix rest left → IsFor j left → IsFor j rest
  behind j rest left suffix h = record { long = λ e. long_before (any limit) rest left suffix (h.long e) }

  module _ (sheet : Sheet) (parametric_run : ParametricRun) where
    onwards : (go : ℚ → List ℕ → Judged Run) (rest : List ℕ) → ((last : ℚ) (rest : List ℕ) → IsFor (go last rest) rest) → (j : Judged ParametricInterval) →
        IsFor j rest →
        ((interval : ParametricInterval) (left : List ℕ) → j ≡ Right interval left → IsSuffix rest left) → IsFor (onward go j) rest
    onwards go rest later (Right interval left) h suffix =
        made (λ (run : Run). (interval ∷ run.0, run.1)) (go interval.to left) rest
        (behind (go interval.to left) rest left (suffix interval left refl) (later interval.to left))
    onwards go rest later Fails h suffix = failing rest
    onwards go rest later Refuses h suffix = record { long = λ e. h.long refl }

    -- what is left of an interval that is right is left of the text
    left_of : (number : ℕ) (last : ℚ) (rest : List ℕ) (test : ParametricInterval → Verdict) (otherwise : Judged ParametricInterval) →
        ((interval : ParametricInterval) (left : List ℕ) → otherwise ≡ Right interval left → ⊥) →
        (interval : ParametricInterval) (left : List ℕ) →
        tested_or otherwise test (interval_in (fraction_in (any limit)) sheet number last rest) ≡ Right interval left → IsSuffix rest left
    left_of number last rest test otherwise never interval left e = by (interval_in (fraction_in (any limit)) sheet number last rest) refl e
      where
        passed : (got : ParametricInterval × List ℕ) (v : Verdict) → by_verdict v got.0 got.1 ≡ Right interval left → got.1 ≡ left
        passed got Checked e = cc e
        passed got (Failed part number) e = cc e
        passed got (Unchecked refused) e = cc e

        by : (o : Parsed ParametricInterval) → interval_in (fraction_in (any limit)) sheet number last rest ≡ o →
            tested_or otherwise test o ≡ Right interval left → IsSuffix rest left
        by None is e = absurd (never interval left e)
        by (Some got) is e =
            let formed =
            (grammar.interval_widens (fraction_in (any limit)) (form_in (any limit)) (value_formed (any limit)) sheet number last).by rest got is in
            subst (IsSuffix rest) (passed got (test got.0) e) ((interval_reads (any limit) sheet number last).leaves rest got formed)

    never_right : (b : Bool) (interval : ParametricInterval) (left : List ℕ) →
        ◌≡◌ {A = Judged ParametricInterval} (if b then Refuses else Fails) (Right interval left) → ⊥
    never_right true interval left e = cc e
    never_right false interval left e = cc e

    part : (go : ℚ → List ℕ → Judged Run) → ((last : ℚ) (rest : List ℕ) → IsFor (go last rest) rest) →
        (number : ℕ) (last : ℚ) (rest : List ℕ) (o : Option (List ℕ)) →
        IsFor (part_in (any limit) sheet parametric_run go number last rest o) rest
    part go later number last rest (Some left) =
        let test : Checker → ParametricInterval → Verdict = λ C. interval_test C sheet parametric_run.changing (nat_eq number 1) parametric_run.to in
        onwards go rest later _
        (tested test (λ of. interval_in of sheet number last) (interval_is sheet parametric_run.changing (nat_eq number 1) parametric_run.to)
        (interval_reads (any limit) sheet number last) rest)
        (left_of number last rest (test (any limit)) _ (never_right (is_some limit && is_some (interval_in (form_in (any limit)) sheet number last rest))))
    part go later number last rest None = by (nat_eq number 1)
      where
        by : (b : Bool) → IsFor {X = Run} (if b then Fails else judged_map (λ (end : ChainEnd). ([], end))
            (tested_by (any limit) (close_test (any limit) sheet parametric_run.changing parametric_run.to last)
            (λ of. close_in of sheet (parametric_solver parametric_run.changing)) rest)) rest
        by true = failing rest
        by false =
            made (λ (end : ChainEnd). ([], end)) _ rest
            (tested (λ C. close_test C sheet parametric_run.changing parametric_run.to last)
            (λ of. close_in of sheet (parametric_solver parametric_run.changing))
            (close_is sheet parametric_run.changing parametric_run.to last) (close_reads (any limit) sheet (parametric_solver parametric_run.changing)) rest)

    run : (room : List ℕ) (number : ℕ) (last : ℚ) (rest : List ℕ) → IsFor (run_in (any limit) sheet parametric_run room number last rest) rest
    run [] number last rest = failing rest
    run (byte ∷ room) number last rest =
        part (run_in (any limit) sheet parametric_run room (number + 1)) (run room (number + 1)) number last rest (left_after (codes "INTERVAL ") rest)

    whole : (rest : List ℕ) (o : Option (List ℕ)) → left_after (parametric_run_head parametric_run) rest ≡ o →
        IsFor (parametric_run_in (any limit) sheet parametric_run rest o) rest
    whole rest None head =
        made (λ (claim : Claim). Opening [] claim.0 claim.1) _ rest (tested
        (λ C (claim : Claim). in_turn
        (says C (making_steps sheet parametric_run.changing parametric_run.from) ∷ verdict_test C
        (sheet_at sheet parametric_run.changing parametric_run.from) claim.0 claim.1 ∷ []))
        (λ of. verdict_in of sheet (parametric_solver parametric_run.changing))
        (λ claim. next (of_steps (making_steps sheet parametric_run.changing parametric_run.from))
        (next (verdict_is (sheet_at sheet parametric_run.changing parametric_run.from) claim.0 claim.1) over))
        (verdict_reads (any limit) sheet (parametric_solver parametric_run.changing)) rest)
    whole rest (Some after) head =
        made (λ (run : Run). Chained [] run.0 run.1) _ rest
        (behind _ rest after (text_suffix (parametric_run_head parametric_run) rest after head) (run after 1 parametric_run.from after))

pub refuses_long : RefusesLong
refuses_long (OfPath solver limit) sheet rest e =
    (made (Some 100000) (λ (claim : Claim). Reached [] claim.0 claim.1) _ rest
    (tested (Some 100000) (λ C (claim : Claim). verdict_test C sheet claim.0 claim.1) (λ of. verdict_in of sheet solver)
    (λ claim. verdict_is sheet claim.0 claim.1)
    (verdict_reads checker_of_any_length sheet solver) rest)).long e
refuses_long (OfSolution mark) sheet rest e =
    (tested (Some 100000) (λ C. solution_test C sheet mark) (λ of. solution_in of sheet mark) (solution_is sheet mark)
    (solution_reads checker_of_any_length sheet mark) rest).long e
refuses_long OfRanges sheet rest e = cc e
refuses_long OfPunch sheet rest e = cc e
refuses_long (OfInstall basis) sheet rest e = cc e
refuses_long (OfParametricRun parametric_run) sheet rest e =
    (whole (Some 100000) sheet parametric_run rest (left_after (parametric_run_head parametric_run) rest) refl).long e
