-- What the checker of 128 bits judges right, that of any length judges right.
use Rattle.std.proofs.Common.{◌≡◌, ℕ, ◌+◌, Bool, true, false, List, [], ◌∷◌, Option, Some, None, codes, nat_eq, if◌then◌else◌, refl, ap, ◌∙◌}
use Rattle.exact_values.specs.Rational.{ℚ}
use Rattle.check_definitions.specs.declared.Verdict.{Verdict}
use Rattle.check_definitions.specs.declared.Verdict.TheVariants.{Checked, Failed, Unchecked}
use Rattle.check_definitions.specs.Steps.{in_turn}
use Rattle.listing_definitions.specs.Report.{ParametricInterval, ChainEnd}
use Rattle.question_definitions.specs.Answers.{Sheet, parametric_solver, ParametricRun, Question, OfPath, OfSolution, OfRanges, OfParametricRun, OfPunch}
use Rattle.question_definitions.specs.Answers.{OfInstall, AnswerTo, PathEnd, Reached, Opening, Chained}
use Rattle.answer_definitions.specs.ParametricRuns.{sheet_at}
use Rattle.walk_definitions.specs.Checkers.{Checker, checker_of_128_bits, checker_of_any_length}
use Rattle.walk_definitions.specs.Words.{Parsed, left_after, fraction_in}
use Rattle.walk_definitions.specs.Tests.{says, making_steps, verdict_test, solution_test, interval_test, close_test}
use Rattle.walk_definitions.specs.Reading.{Judged, Right, Fails, Refuses, Claim, Run, by_verdict, tested_or, unread, tested_by, judged_map, verdict_in}
use Rattle.walk_definitions.specs.Reading.{solution_in, interval_in, close_in, parametric_run_head, onward, part_in, run_in, parametric_run_in, judged}
use Rattle.any_length_laws.proofs.Short.{fraction_widens}
use Rattle.any_length_laws.proofs.Readers as readers
use Rattle.any_length_laws.proofs.Grammar as grammar
use Rattle.any_length_laws.proofs.Tests.{IsTest, of_steps, over, next, verdict_is, solution_is, interval_is, close_is}

-- where the first is right, so is the second
record Widens {X : Type 0} (j k : Judged X) : Type 0 where
  by : (x : X) (after : List ℕ) → j ≡ Right x after → k ≡ Right x after

tested_widens : {X : Type 0} (test : Checker → X → Verdict) (reads : (List ℕ → Option ℚ) → List ℕ → Parsed X) → ((x : X) → IsTest (λ C. test C x)) →
    readers.Widens (reads (fraction_in checker_of_128_bits)) (reads (fraction_in checker_of_any_length)) →
    (rest : List ℕ) →
    Widens (tested_by checker_of_128_bits (test checker_of_128_bits) reads rest) (tested_by checker_of_any_length (test checker_of_any_length) reads rest)
tested_widens {X} test reads passes widens rest = record { by = λ x after e. at (reads (fraction_in checker_of_128_bits) rest) refl x after e }
  where
    passed : (got : X × List ℕ) (v : Verdict) → test checker_of_128_bits got.0 ≡ v → (x : X) (after : List ℕ) → by_verdict v got.0 got.1 ≡ Right x after →
        by_verdict (test checker_of_any_length got.0) got.0 got.1 ≡ Right x after
    passed got Checked is x after e = ap (λ v. by_verdict v got.0 got.1) ((passes got.0).widens is) ∙ e
    passed got (Failed part number) is x after e = absurd (cc e)
    passed got (Unchecked refused) is x after e = absurd (cc e)

    at : (o : Parsed X) → reads (fraction_in checker_of_128_bits) rest ≡ o → (x : X) (after : List ℕ) →
        tested_or Fails (test checker_of_128_bits) o ≡ Right x after →
        tested_or (unread checker_of_any_length reads rest) (test checker_of_any_length) (reads (fraction_in checker_of_any_length) rest) ≡ Right x after
    at None is x after e = absurd (cc e)
    at (Some got) is x after e =
        ap (tested_or (unread checker_of_any_length reads rest) (test checker_of_any_length)) (widens.by rest got is)
        ∙ passed got (test checker_of_128_bits got.0) refl x after e

made_widens : {X Y : Type 0} (f : X → Y) (j k : Judged X) → Widens j k → Widens (judged_map f j) (judged_map f k)
made_widens {X} {Y} f j k widens = record { by = λ y after e. at j refl y after e }
  where
    at : (i : Judged X) → j ≡ i → (y : Y) (after : List ℕ) → judged_map f i ≡ Right y after → judged_map f k ≡ Right y after
    at (Right x left) is y after e = ap (judged_map f) (widens.by x left is) ∙ e
    at Fails is y after e = absurd (cc e)
    at Refuses is y after e = absurd (cc e)

none_widens : {X : Type 0} → Widens {X = X} Fails Fails
none_widens = record { by = λ x after e. e }

module _ (sheet : Sheet) (parametric_run : ParametricRun) where
  abbrev Go : Type 0
  Go = ℚ → List ℕ → Judged Run

  onward_widens : (go other : Go) → ((last : ℚ) (rest : List ℕ) → Widens (go last rest) (other last rest)) → (j k : Judged ParametricInterval) → Widens j k →
      Widens (onward go j) (onward other k)
  onward_widens go other later j k widens = record { by = λ run after e. at j refl run after e }
    where
      at : (i : Judged ParametricInterval) → j ≡ i → (run : Run) (after : List ℕ) → onward go i ≡ Right run after → onward other k ≡ Right run after
      at (Right interval left) is run after e =
          ap (onward other) (widens.by interval left is)
          ∙ (made_widens (λ (run : Run). (interval ∷ run.0, run.1)) (go interval.to left) (other interval.to left) (later interval.to left)).by run after e
      at Fails is run after e = absurd (cc e)
      at Refuses is run after e = absurd (cc e)

  part_widens : (go other : Go) → ((last : ℚ) (rest : List ℕ) → Widens (go last rest) (other last rest)) →
      (number : ℕ) (last : ℚ) (rest : List ℕ) (o : Option (List ℕ)) →
      Widens (part_in checker_of_128_bits sheet parametric_run go number last rest o)
      (part_in checker_of_any_length sheet parametric_run other number last rest o)
  part_widens go other later number last rest (Some left) =
      onward_widens go other later _ _
      (tested_widens (λ C. interval_test C sheet parametric_run.changing (nat_eq number 1) parametric_run.to) (λ of. interval_in of sheet number last)
      (interval_is sheet parametric_run.changing (nat_eq number 1) parametric_run.to)
      (grammar.interval_widens (fraction_in checker_of_128_bits) (fraction_in checker_of_any_length) fraction_widens sheet number last) rest)
  part_widens go other later number last rest None = by (nat_eq number 1)
    where
      closes : Widens
          (tested_by checker_of_128_bits (close_test checker_of_128_bits sheet parametric_run.changing parametric_run.to last)
          (λ of. close_in of sheet (parametric_solver parametric_run.changing)) rest)
          (tested_by checker_of_any_length (close_test checker_of_any_length sheet parametric_run.changing parametric_run.to last)
          (λ of. close_in of sheet (parametric_solver parametric_run.changing)) rest)
      closes =
          tested_widens (λ C. close_test C sheet parametric_run.changing parametric_run.to last)
          (λ of. close_in of sheet (parametric_solver parametric_run.changing)) (close_is sheet parametric_run.changing parametric_run.to last)
          (grammar.close_widens (fraction_in checker_of_128_bits) (fraction_in checker_of_any_length) fraction_widens sheet
          (parametric_solver parametric_run.changing)) rest

      by : (b : Bool) → Widens {X = Run}
          (if b then Fails else judged_map (λ (end : ChainEnd). ([], end))
          (tested_by checker_of_128_bits (close_test checker_of_128_bits sheet parametric_run.changing parametric_run.to last)
          (λ of. close_in of sheet (parametric_solver parametric_run.changing)) rest))
          (if b then Fails else judged_map (λ (end : ChainEnd). ([], end))
          (tested_by checker_of_any_length (close_test checker_of_any_length sheet parametric_run.changing parametric_run.to last)
          (λ of. close_in of sheet (parametric_solver parametric_run.changing)) rest))
      by true = none_widens
      by false = made_widens (λ (end : ChainEnd). ([], end)) _ _ closes

  run_widens : (room : List ℕ) (number : ℕ) (last : ℚ) (rest : List ℕ) →
      Widens (run_in checker_of_128_bits sheet parametric_run room number last rest) (run_in checker_of_any_length sheet parametric_run room number last rest)
  run_widens [] number last rest = none_widens
  run_widens (byte ∷ room) number last rest =
      part_widens (run_in checker_of_128_bits sheet parametric_run room (number + 1)) (run_in checker_of_any_length sheet parametric_run room (number + 1))
      (run_widens room (number + 1)) number last rest (left_after (codes "INTERVAL ") rest)

  parametric_run_widens : (rest : List ℕ) (o : Option (List ℕ)) →
      Widens (parametric_run_in checker_of_128_bits sheet parametric_run rest o) (parametric_run_in checker_of_any_length sheet parametric_run rest o)
  parametric_run_widens rest None =
      made_widens (λ (claim : Claim). Opening [] claim.0 claim.1) _ _ (tested_widens
      (λ C (claim : Claim). in_turn
      (says C (making_steps sheet parametric_run.changing parametric_run.from) ∷ verdict_test C
      (sheet_at sheet parametric_run.changing parametric_run.from) claim.0 claim.1 ∷ []))
      (λ of. verdict_in of sheet (parametric_solver parametric_run.changing))
      (λ claim. next (of_steps (making_steps sheet parametric_run.changing parametric_run.from))
      (next (verdict_is (sheet_at sheet parametric_run.changing parametric_run.from) claim.0 claim.1) over))
      (grammar.verdict_widens (fraction_in checker_of_128_bits) (fraction_in checker_of_any_length) fraction_widens sheet
      (parametric_solver parametric_run.changing)) rest)
  parametric_run_widens rest (Some after) =
      made_widens (λ (run : Run). Chained [] run.0 run.1) _ _ (run_widens after 1 parametric_run.from after)

pub judged_widens : (question : Question) (sheet : Sheet) (rest after : List ℕ) (answer : AnswerTo question) →
    judged checker_of_128_bits question sheet rest ≡ Right answer after →
    judged checker_of_any_length question sheet rest ≡ Right answer after
judged_widens (OfPath solver limit) sheet rest after answer e =
    (made_widens {Y = PathEnd} (λ (claim : Claim). Reached [] claim.0 claim.1) _ _
    (tested_widens (λ C (claim : Claim). verdict_test C sheet claim.0 claim.1) (λ of. verdict_in of sheet solver)
    (λ claim. verdict_is sheet claim.0 claim.1)
    (grammar.verdict_widens (fraction_in checker_of_128_bits) (fraction_in checker_of_any_length) fraction_widens sheet solver) rest)).by answer after e
judged_widens (OfSolution mark) sheet rest after answer e =
    (tested_widens (λ C. solution_test C sheet mark) (λ of. solution_in of sheet mark) (solution_is sheet mark)
    (grammar.solution_widens (fraction_in checker_of_128_bits) (fraction_in checker_of_any_length) fraction_widens sheet mark) rest).by answer after e
judged_widens OfRanges sheet rest after answer e = absurd (cc e)
judged_widens OfPunch sheet rest after answer e = absurd (cc e)
judged_widens (OfInstall basis) sheet rest after answer e = absurd (cc e)
judged_widens (OfParametricRun parametric_run) sheet rest after answer e =
    (parametric_run_widens sheet parametric_run rest (left_after (parametric_run_head parametric_run) rest)).by answer after e
