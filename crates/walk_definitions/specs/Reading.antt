-- What is read of a listing where a question was asked, and how it is judged.
--     Judged X                     what is read is right; or it isn't of its form or fails a test; or a number is too long, or an operation of a test
--                                  is refused
--     judged C question sheet rest the answer to a question, taken from a listing by a checker
use Rattle.std.specs.Prelude.{ℕ, ◌+◌, ◌-◌, ◌&&◌, is_some, List, [], ◌∷◌, ◌++◌, Option, Some, None, codes, option_map, option_and_then, nat_eq, if◌then◌else◌}
use Rattle.std.specs.Option.{option_or}
use Rattle.exact_values.specs.Rational.{ℚ}
use Rattle.lp_definitions.specs.LinearProgram.{variables, size, lower_of, upper_of, cost}
use Rattle.check_definitions.specs.declared.Verdict.{Verdict}
use Rattle.check_definitions.specs.Steps.{in_turn}
use Rattle.check_definitions.specs.declared.Verdict.TheVariants.{Checked, Failed, Unchecked}
use Rattle.card_definitions.specs.Words.{named}
use Rattle.listing_definitions.specs.declared.Mark.{Mark}
use Rattle.listing_definitions.specs.declared.Solver.{Solver}
use Rattle.listing_definitions.specs.declared.Solver.TheVariants.{Primal, Dual, Paraobj, Pararhs}
use Rattle.listing_definitions.specs.Numbers.{digits, rational_text}
use Rattle.listing_definitions.specs.Report.{Number, limit_value, PathVerdict, OptimalAt, CrossedAt, InfeasibleBy, UnboundedBy, Check, SolutionLines}
use Rattle.listing_definitions.specs.Report.{RangeLines, ParametricInterval, ChainEnd, EndsAt, UnboundedPast, InfeasiblePast}
use Rattle.listing_definitions.specs.Report as reports
use Rattle.listing_definitions.specs.Text.{solver_text, mark_text}
use Rattle.question_definitions.specs.Answers.{Sheet, changing_name, parametric_solver, ParametricRun, Question, OfPath, OfSolution, OfRanges, OfParametricRun}
use Rattle.question_definitions.specs.Answers.{OfPunch, OfInstall, AnswerTo, Reached, ParametricRunEnd, Opening, Chained}
use Rattle.answer_definitions.specs.Lines.{row_numbers, column_numbers}
use Rattle.answer_definitions.specs.ParametricRuns.{sheet_at}
use Rattle.walk_definitions.specs.Checkers.{Checker, checker_of_128_bits}
use Rattle.walk_definitions.specs.Words.{Parsed, left_after, with_text, with_word, fraction_in, form_in, count_in, max_count}
use Rattle.walk_definitions.specs.Forms.{all_operations}
use Rattle.walk_definitions.specs.Tables.{Slot, AnyCode, AnyNumber, Known, pair_slots, part_slots, table_in, ray_in}
use Rattle.walk_definitions.specs.Tests.{says, verdict_test, solution_test, making_steps, interval_test, close_test}

pub data Judged (X : Type 0) : Type 0 where
  Right : X → List ℕ → Judged X
  Fails Refuses : Judged X

-- what is read, by the verdict on it
abbrev pub by_verdict : {X : Type 0} → Verdict → X → List ℕ → Judged X
by_verdict Checked x rest = Right x rest
by_verdict (Failed part number) x rest = Fails
by_verdict (Unchecked refused) x rest = Refuses

-- where nothing is read, this; and else by its test
abbrev pub tested_or : {X : Type 0} → Judged X → (X → Verdict) → Parsed X → Judged X
tested_or otherwise test None = otherwise
tested_or otherwise test (Some got) = by_verdict (test got.0) got.0 got.1

abbrev pub tested : {X : Type 0} → (X → Verdict) → Parsed X → Judged X
tested test parsed = tested_or Fails test parsed

-- a number in it is too long to be read, and all else is of its form
abbrev pub unread : {X : Type 0} → Checker → ((List ℕ → Option ℚ) → List ℕ → Parsed X) → List ℕ → Judged X
unread C reads rest = if is_some C.most_digits && is_some (reads (form_in C) rest) then Refuses else Fails

abbrev pub tested_by : {X : Type 0} → Checker → (X → Verdict) → ((List ℕ → Option ℚ) → List ℕ → Parsed X) → List ℕ → Judged X
tested_by C test reads rest = tested_or (unread C reads rest) test (reads (fraction_in C) rest)

-- what is made of what is right
abbrev pub judged_map : {X Y : Type 0} → (X → Y) → Judged X → Judged Y
judged_map f (Right x rest) = Right (f x) rest
judged_map f Fails = Fails
judged_map f Refuses = Refuses

-- ---- verdicts

-- The word of a check, and what stands after it. It is a run that found an operation refused, so its numbers have 128 bits, whatever the
-- checker.
abbrev pub with_check : {X : Type 0} → (Check → List ℕ → Option X) → List ℕ → Option X
with_check reads rest = option_or (with_text (codes "CHECKED\n") (reads reports.Checked) rest)
    (with_text (codes "UNCHECKED ") (with_word (named all_operations) (λ op. with_text (codes " ") (with_word (fraction_in checker_of_128_bits) (λ left.
    with_text (codes " ")
    (with_word (fraction_in checker_of_128_bits)
    (λ right. with_text (codes "\n") (reads (reports.Unchecked (record { op = op; left = left; right = right }))))))))) rest)

-- a verdict after the name of its verb, with its check
abbrev pub Claim : Type 0
Claim = PathVerdict × Check

abbrev pub crossed_in : Sheet → List ℕ → Parsed Claim
crossed_in sheet = with_text (codes "INFEASIBLE STEPS 0 CROSSED ") (with_word (count_in (size sheet.lp.matrix)) (λ k.
    with_text (codes " ") (with_check (λ check rest. if nat_eq k 0 then None else Some ((CrossedAt k, check), rest)))))

-- ---- the lines of SOLUTION: the limits and the costs are those of the linear program

abbrev pub row_slots : Sheet → ℕ → List Slot
row_slots sheet k = AnyCode ∷ AnyNumber ∷ AnyNumber ∷ Known (limit_value (lower_of sheet.lp k)) ∷ Known (limit_value (upper_of sheet.lp k)) ∷ AnyNumber ∷ []

abbrev pub column_slots : Sheet → ℕ → List Slot
column_slots sheet k =
    AnyCode ∷ AnyNumber ∷ Known (Number (cost sheet.lp (k - sheet.lp.rows))) ∷ Known (limit_value (lower_of sheet.lp k)) ∷ Known
    (limit_value (upper_of sheet.lp k)) ∷ AnyNumber ∷ []

-- by how the word of a number is read
module _ (of : List ℕ → Option ℚ) (sheet : Sheet) where
  -- ---- verdicts, by their verbs

  abbrev pub optimal_in : List ℕ → Parsed Claim
  optimal_in = with_text (codes "OPTIMAL STEPS ") (with_word (count_in max_count) (λ steps. with_text (codes " OBJECTIVE ") (with_word of (λ objective.
      with_text (codes " ") (with_check (λ check rest. Some ((OptimalAt steps objective, check), rest)))))))

  abbrev pub infeasible_in : List ℕ → Parsed Claim
  infeasible_in = with_text (codes "INFEASIBLE STEPS ") (with_word (count_in max_count) (λ steps. with_text (codes " RAY ") (with_check (λ check rest.
      option_map (λ got. ((InfeasibleBy steps got.0, check), got.1)) (ray_in of sheet (variables sheet.lp.matrix) rest)))))

  abbrev pub unbounded_in : List ℕ → Parsed Claim
  unbounded_in = with_text (codes "UNBOUNDED STEPS ") (with_word (count_in max_count) (λ steps. with_text (codes " OBJECTIVE ") (with_word of (λ objective.
      with_text (codes " ") (with_check (λ check rest.
      option_map (λ got. ((UnboundedBy steps objective got.0, check), got.1)) (table_in of sheet pair_slots (variables sheet.lp.matrix) rest)))))))

  -- DUAL never finds that there is no best point; a parametric opening that is reported isn't optimal
  abbrev pub claim_in : Solver → List ℕ → Parsed Claim
  claim_in Primal rest = option_or (optimal_in rest) (option_or (crossed_in sheet rest) (option_or (infeasible_in rest) (unbounded_in rest)))
  claim_in Dual rest = option_or (optimal_in rest) (option_or (crossed_in sheet rest) (infeasible_in rest))
  claim_in solver rest = option_or (crossed_in sheet rest) (option_or (infeasible_in rest) (unbounded_in rest))

  abbrev pub verdict_in : Solver → List ℕ → Parsed Claim
  verdict_in solver rest = with_text (solver_text solver ++ codes " ") (claim_in solver) rest

  -- ---- SOLUTION

  abbrev pub solution_in : Mark → List ℕ → Parsed SolutionLines
  solution_in mark rest =
      option_and_then (λ got. option_map (λ more. (record { rows = got.0; columns = more.0 }, more.1))
      (with_text (codes "SECTION 2 - COLUMNS\nNUMBER COLUMN AT ACTIVITY COST LOWER UPPER REDUCED\n")
      (table_in of sheet (column_slots sheet) (column_numbers sheet.lp)) got.1))
      (with_text (codes "SOLUTION " ++ (mark_text mark ++ codes "\nSECTION 1 - ROWS\nNUMBER ROW AT ACTIVITY SLACK LOWER UPPER DUAL\n"))
      (table_in of sheet (row_slots sheet) (row_numbers sheet.lp)) rest)

  -- ---- parametric runs

  -- the interval of a number, from the last end on
  abbrev pub interval_in : ℕ → ℚ → List ℕ → Parsed ParametricInterval
  interval_in number from =
      with_text (codes "INTERVAL " ++ (digits number ++ (codes " FROM " ++ (rational_text from ++ codes " TO "))))
      (with_word of (λ to. with_text (codes "\n") (λ rest.
      option_map (λ got. (record { from = from; to = to; lines = got.0 }, got.1)) (table_in of sheet part_slots (variables sheet.lp.matrix) rest))))

  -- a run of the objective may end unbounded, and one of the right-hand side infeasible
  abbrev pub close_in : Solver → List ℕ → Parsed ChainEnd
  close_in solver rest = with_text (solver_text solver) (λ left. option_or
      (with_text (codes " ENDS AT ") (with_word of (λ t. with_text (codes "\n") (λ after. Some (EndsAt t, after)))) left) (by solver left)) rest
    where
      by : Solver → List ℕ → Parsed ChainEnd
      by Paraobj left = with_text (codes " UNBOUNDED PAST ") (with_word of (λ t. with_text (codes "\n") (λ after.
          option_map (λ got. (UnboundedPast t got.0, got.1)) (table_in of sheet pair_slots (variables sheet.lp.matrix) after)))) left
      by Pararhs left = with_text (codes " INFEASIBLE PAST ") (with_word of (λ t. with_text (codes "\n") (λ after.
          option_map (λ got. (InfeasiblePast t got.0, got.1)) (ray_in of sheet (variables sheet.lp.matrix) after)))) left
      by solver left = None

-- what stands before the first interval
abbrev pub parametric_run_head : ParametricRun → List ℕ
parametric_run_head parametric_run =
    solver_text (parametric_solver parametric_run.changing) ++
    (codes " FROM " ++ (rational_text parametric_run.from ++ (codes " CHANGE " ++ (changing_name parametric_run.changing ++ codes "\n"))))

-- the intervals of a run, and how it closes
abbrev pub Run : Type 0
Run = List ParametricInterval × ChainEnd

-- an interval, and the rest of the run after it
abbrev pub onward : (ℚ → List ℕ → Judged Run) → Judged ParametricInterval → Judged Run
onward go (Right interval after) = judged_map (λ run. (interval ∷ run.0, run.1)) (go interval.to after)
onward go Fails = Fails
onward go Refuses = Refuses

module _ (C : Checker) (sheet : Sheet) (parametric_run : ParametricRun) where
  -- where an interval stands it is read and tested before the next one; else the run closes, but not before its first interval
  abbrev pub part_in : (ℚ → List ℕ → Judged Run) → ℕ → ℚ → List ℕ → Option (List ℕ) → Judged Run
  part_in go number last rest (Some after) =
      onward go (tested_by C (interval_test C sheet parametric_run.changing (nat_eq number 1) parametric_run.to) (λ of. interval_in of sheet number last) rest)
  part_in go number last rest None =
      if nat_eq number 1 then Fails
      else judged_map (λ end. ([], end))
      (tested_by C (close_test C sheet parametric_run.changing parametric_run.to last)
      (λ of. close_in of sheet (parametric_solver parametric_run.changing)) rest)

  -- the interval of this number is due, from the last end on; each takes a byte of room at least
  abbrev pub run_in : List ℕ → ℕ → ℚ → List ℕ → Judged Run
  run_in [] number last rest = Fails
  run_in (byte ∷ room) number last rest = part_in (run_in room (number + 1)) number last rest (left_after (codes "INTERVAL ") rest)

  -- an opening that isn't optimal speaks of the linear program at the first value, which is made once the report is read
  abbrev pub opening_in : List ℕ → Judged ParametricRunEnd
  opening_in rest = judged_map (λ claim. Opening [] claim.0 claim.1)
      (tested_by C
      (λ claim. in_turn
      (says C (making_steps sheet parametric_run.changing parametric_run.from) ∷ verdict_test C
      (sheet_at sheet parametric_run.changing parametric_run.from) claim.0 claim.1 ∷ []))
      (λ of. verdict_in of sheet (parametric_solver parametric_run.changing)) rest)

  abbrev pub parametric_run_in : List ℕ → Option (List ℕ) → Judged ParametricRunEnd
  parametric_run_in rest None = opening_in rest
  parametric_run_in rest (Some after) = judged_map (λ run. Chained [] run.0 run.1) (run_in after 1 parametric_run.from after)

-- the answer to a question, as the listing has it; those of RANGE, PUNCH and INSERT can't be computed without a basis
abbrev pub judged : Checker → (question : Question) → Sheet → List ℕ → Judged (AnswerTo question)
judged C (OfPath solver limit) sheet rest =
    judged_map (λ claim. Reached [] claim.0 claim.1) (tested_by C (λ claim. verdict_test C sheet claim.0 claim.1) (λ of. verdict_in of sheet solver) rest)
judged C (OfSolution mark) sheet rest = tested_by C (solution_test C sheet mark) (λ of. solution_in of sheet mark) rest
judged C OfRanges sheet rest = Fails
judged C OfPunch sheet rest = Fails
judged C (OfInstall basis) sheet rest = Fails
judged C (OfParametricRun parametric_run) sheet rest = parametric_run_in C sheet parametric_run rest (left_after (parametric_run_head parametric_run) rest)
