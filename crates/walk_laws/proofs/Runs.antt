-- What is judged right was read of its text.
use Rattle.std.proofs.Common.{◌≡◌, ℕ, ◌+◌, Bool, true, false, List, [], ◌∷◌, ◌++◌, Option, Some, None, codes, if◌then◌else◌, refl, sym, ap, ap₂, ◌∙◌}
use Rattle.std.proofs.Common.{append_assoc, append-nil}
use Rattle.std.specs.Prelude.{nat_eq, ◌&&◌, is_some}
use Rattle.std.specs.List.{flat_map, enumerate_from}
use Rattle.exact_values.specs.Rational.{ℚ}
use Rattle.check_definitions.specs.declared.Verdict.{Verdict}
use Rattle.check_definitions.specs.declared.Verdict.TheVariants.{Checked, Failed, Unchecked}
use Rattle.check_definitions.specs.Steps.{in_turn}
use Rattle.listing_definitions.specs.declared.Solver.{Solver}
use Rattle.listing_definitions.specs.Numbers.{rational_text}
use Rattle.listing_definitions.specs.Report.{ParametricInterval}
use Rattle.listing_definitions.specs.Text.{solver_text, interval_text, chain_end_text, verdict_text, solution_text}
use Rattle.listing_definitions.specs.Listing.{reports_text}
use Rattle.question_definitions.specs.Answers.{Sheet, changing_name, parametric_solver, ParametricRun, OfPath, OfSolution, OfRanges, OfParametricRun, OfPunch}
use Rattle.question_definitions.specs.Answers.{OfInstall, PathEnd, ParametricRunEnd, Reached, Opening, Chained}
use Rattle.answer_definitions.specs.ParametricRuns.{sheet_at}
use Rattle.walk_definitions.specs.Checkers.{Checker}
use Rattle.walk_definitions.specs.Words.{Parsed, left_after, fraction_in, form_in}
use Rattle.walk_definitions.specs.Tests.{says, verdict_test, solution_test, making_steps, interval_test, close_test}
use Rattle.walk_definitions.specs.Reading.{Judged, Right, Fails, Refuses, by_verdict, tested_or, unread, tested_by, judged_map, Claim, verdict_in, solution_in}
use Rattle.walk_definitions.specs.Reading.{interval_in, close_in, parametric_run_head, Run, onward, part_in, run_in, parametric_run_in}
use Rattle.walk_definitions.proofs.Texts.{is_text}
use Rattle.walk_laws.specs.Read.{reported, ReadingLaw}
use Rattle.walk_laws.proofs.Pieces.{Tells, fraction_spells}
use Rattle.walk_laws.proofs.VerdictTexts.{verdict_tells}
use Rattle.walk_laws.proofs.Sections.{solution_tells, interval_tells, close_tells}

-- what passes its test was read
tested_right : {X : Type 0} (otherwise : Judged X) (test : X → Verdict) (o : Parsed X) (x : X) (after : List ℕ) → (otherwise ≡ Right x after → ⊥) →
    tested_or otherwise test o ≡ Right x after → o ≡ Some (x, after)
tested_right otherwise test None x after never e = absurd (never e)
tested_right {X} otherwise test (Some got) x after never e = by (test got.0) e
  where
    by : (verdict : Verdict) → by_verdict verdict got.0 got.1 ≡ Right x after → Some got ≡ Some (x, after)
    by Checked e = let x_is : got.0 ≡ x = cc e in let after_is : got.1 ≡ after = cc e in ap₂ (λ y left. Some (y, left)) x_is after_is
    by (Failed part number) e = absurd (cc e)
    by (Unchecked refused) e = absurd (cc e)

-- what isn't read isn't right
never_right : {X : Type 0} (b : Bool) (x : X) (after : List ℕ) → ◌≡◌ {A = Judged X} (if b then Refuses else Fails) (Right x after) → ⊥
never_right true x after e = cc e
never_right false x after e = cc e

-- what is read tells its text, and so does what is made of it
reported_by : {X Y : Type 0} (rest : List ℕ) (f : X → Y) (text : X → List ℕ) (whole : Y → List ℕ) (j : Judged X) →
    ((x : X) (after : List ℕ) → j ≡ Right x after → rest ≡ text x ++ after) → ((x : X) → text x ≡ whole (f x)) →
    (y : Y) (after : List ℕ) → judged_map f j ≡ Right y after → rest ≡ whole y ++ after
reported_by rest f text whole (Right x left) tells is y after e =
    let y_is : f x ≡ y = cc e in
    let left_is : left ≡ after = cc e in
    tells x left refl ∙ ap (λ b. b ++ left) (is x ∙ ap whole y_is) ∙ ap (λ r. whole y ++ r) left_is
reported_by rest f text whole Fails tells is y after e = absurd (cc e)
reported_by rest f text whole Refuses tells is y after e = absurd (cc e)

tested_tells : (C : Checker) {X : Type 0} (test : X → Verdict) (reads : (List ℕ → Option ℚ) → List ℕ → Parsed X) (text : X → List ℕ) →
    Tells [] (reads (fraction_in C)) text → (rest : List ℕ) (x : X) (after : List ℕ) →
    tested_by C test reads rest ≡ Right x after → rest ≡ text x ++ after
tested_tells C test reads text tells rest x after e =
    tells.of rest (x, after)
    (tested_right (unread C reads rest) test (reads (fraction_in C) rest) x after
    (never_right (is_some C.most_digits && is_some (reads (form_in C) rest)) x after) e)

-- ---- parametric runs

-- the intervals from this number on, and the close
run_text : Solver → ℕ → Run → List ℕ
run_text solver number run = flat_map interval_text (enumerate_from number run.0) ++ chain_end_text solver run.1

module _ (C : Checker) (sheet : Sheet) (parametric_run : ParametricRun) where
  abbrev solver : Solver
  solver = parametric_solver parametric_run.changing

  abbrev ReportsRun : ℕ → (ℚ → List ℕ → Judged Run) → Type 0
  ReportsRun number go = (last : ℚ) (rest : List ℕ) (run : Run) (after : List ℕ) → go last rest ≡ Right run after → rest ≡ run_text solver number run ++ after

  onward_tells : (go : ℚ → List ℕ → Judged Run) (number : ℕ) → ReportsRun (number + 1) go → (rest : List ℕ) (j : Judged ParametricInterval) →
      ((x : ParametricInterval) (left : List ℕ) → j ≡ Right x left → rest ≡ interval_text (number, x) ++ left) →
      (run : Run) (after : List ℕ) → onward go j ≡ Right run after → rest ≡ run_text solver number run ++ after
  unfolding run_text
  onward_tells go number later rest (Right interval left) tells run after e =
      tells interval left refl
      ∙ reported_by (interval_text (number, interval) ++ left) (λ more. (interval ∷ more.0, more.1))
      (λ more. interval_text (number, interval) ++ run_text solver (number + 1) more) (run_text solver number) (go interval.to left)
      (λ more after e. ap (λ r. interval_text (number, interval) ++ r) (later interval.to left more after e)
      ∙ sym (append_assoc (interval_text (number, interval)) (run_text solver (number + 1) more) after))
      (λ more. sym
      (append_assoc (interval_text (number, interval)) (flat_map interval_text (enumerate_from (number + 1) more.0)) (chain_end_text solver more.1)))
      run after e
  onward_tells go number later rest Fails tells run after e = absurd (cc e)
  onward_tells go number later rest Refuses tells run after e = absurd (cc e)

  part_tells : (go : ℚ → List ℕ → Judged Run) (number : ℕ) → ReportsRun (number + 1) go →
      (last : ℚ) (rest : List ℕ) (o : Option (List ℕ)) (run : Run) (after : List ℕ) → part_in C sheet parametric_run go number last rest o ≡ Right run after →
      rest ≡ run_text solver number run ++ after
  unfolding run_text
  part_tells go number later last rest (Some left) run after e =
      onward_tells go number later rest
      (tested_by C (interval_test C sheet parametric_run.changing (nat_eq number 1) parametric_run.to) (λ of. interval_in of sheet number last) rest)
      (tested_tells C (interval_test C sheet parametric_run.changing (nat_eq number 1) parametric_run.to) (λ of. interval_in of sheet number last)
      (λ interval. interval_text (number, interval)) (interval_tells (fraction_in C) (fraction_spells C) sheet number last) rest) run after e
  part_tells go number later last rest None run after e = by (nat_eq number 1) e
    where
      by : (b : Bool) →
          (if b then Fails else judged_map (λ end. ([], end))
          (tested_by C (close_test C sheet parametric_run.changing parametric_run.to last) (λ of. close_in of sheet solver) rest)) ≡ Right run after →
          rest ≡ run_text solver number run ++ after
      by true e = absurd (cc e)
      by false e =
          reported_by rest (λ end. ([], end)) (chain_end_text solver) (run_text solver number)
          (tested_by C (close_test C sheet parametric_run.changing parametric_run.to last) (λ of. close_in of sheet solver) rest)
          (tested_tells C (close_test C sheet parametric_run.changing parametric_run.to last) (λ of. close_in of sheet solver) (chain_end_text solver)
          (close_tells (fraction_in C) (fraction_spells C) sheet solver) rest) (λ end. refl) run after e

  run_tells : (room : List ℕ) (number : ℕ) → ReportsRun number (run_in C sheet parametric_run room number)
  run_tells [] number last rest run after e = absurd (cc e)
  run_tells (byte ∷ room) number last rest run after e =
      part_tells (run_in C sheet parametric_run room (number + 1)) number (run_tells room (number + 1)) last rest
      (left_after (codes "INTERVAL ") rest) run after e

  as_chain : (who from start change name end intervals close : List ℕ) → (who ++ (from ++ (start ++ (change ++ (name ++ end))))) ++ (intervals ++ close) ≡
      (who ++ (from ++ (start ++ (change ++ (name ++ (end ++ (intervals ++ (close ++ [])))))))) ++ []
  as_chain who from start change name end intervals close = simp (append_assoc, append-nil)

  abbrev parametric_run_text : ParametricRunEnd → List ℕ
  parametric_run_text end = reports_text (reported (OfParametricRun parametric_run) end)

  parametric_run_tells : (rest : List ℕ) (o : Option (List ℕ)) → left_after (parametric_run_head parametric_run) rest ≡ o →
      (end : ParametricRunEnd) (after : List ℕ) → parametric_run_in C sheet parametric_run rest o ≡ Right end after → rest ≡ parametric_run_text end ++ after
  unfolding run_text
  parametric_run_tells rest None head end after e =
      let test =
      λ (claim : Claim). in_turn
      (says C (making_steps sheet parametric_run.changing parametric_run.from) ∷ verdict_test C
      (sheet_at sheet parametric_run.changing parametric_run.from) claim.0 claim.1 ∷ []) in
      reported_by rest (λ claim. Opening [] claim.0 claim.1) (λ claim. verdict_text solver claim.0 claim.1) parametric_run_text
      (tested_by C test (λ of. verdict_in of sheet solver) rest)
      (tested_tells C test (λ of. verdict_in of sheet solver) (λ claim. verdict_text solver claim.0 claim.1)
      (verdict_tells (fraction_in C) (fraction_spells C) sheet solver) rest) (λ claim. sym (append-nil (verdict_text solver claim.0 claim.1))) end after e
  parametric_run_tells rest (Some left) head end after e =
      reported_by rest (λ run. Chained [] run.0 run.1) (λ run. parametric_run_head parametric_run ++ run_text solver 1 run) parametric_run_text
      (run_in C sheet parametric_run left 1 parametric_run.from left)
      (λ run after e. is_text (parametric_run_head parametric_run) rest left head
      ∙ ap (λ r. parametric_run_head parametric_run ++ r) (run_tells left 1 parametric_run.from left run after e)
      ∙ sym (append_assoc (parametric_run_head parametric_run) (run_text solver 1 run) after))
      (λ run. as_chain (solver_text solver) (codes " FROM ") (rational_text parametric_run.from) (codes " CHANGE ") (changing_name parametric_run.changing)
      (codes "\n") (flat_map interval_text (enumerate_from 1 run.0)) (chain_end_text solver run.1))
      end after e

-- ---- the law

pub reading_laws : (C : Checker) → ReadingLaw C
reading_laws C (OfPath solver limit) sheet rest after answer e =
    let test = λ (claim : Claim). verdict_test C sheet claim.0 claim.1 in
    reported_by rest (λ claim. Reached [] claim.0 claim.1) (λ claim. verdict_text solver claim.0 claim.1)
    (λ (end : PathEnd). reports_text (reported (OfPath solver limit) end)) (tested_by C test (λ of. verdict_in of sheet solver) rest)
    (tested_tells C test (λ of. verdict_in of sheet solver) (λ claim. verdict_text solver claim.0 claim.1)
    (verdict_tells (fraction_in C) (fraction_spells C) sheet solver) rest) (λ claim. sym (append-nil (verdict_text solver claim.0 claim.1))) answer after e
reading_laws C (OfSolution mark) sheet rest after answer e =
    tested_tells C (solution_test C sheet mark) (λ of. solution_in of sheet mark) (solution_text mark)
    (solution_tells (fraction_in C) (fraction_spells C) sheet mark) rest answer after e
    ∙ ap (λ t. t ++ after) (sym (append-nil (solution_text mark answer)))
reading_laws C OfRanges sheet rest after answer e = absurd (cc e)
reading_laws C (OfParametricRun parametric_run) sheet rest after answer e =
    parametric_run_tells C sheet parametric_run rest (left_after (parametric_run_head parametric_run) rest) refl answer after e
reading_laws C OfPunch sheet rest after answer e = absurd (cc e)
reading_laws C (OfInstall basis) sheet rest after answer e = absurd (cc e)
