-- What is taken of a listing for an answer: a parametric run that isn't broken ends at the last value, and nothing is cut off at a limit.
use Rattle.std.proofs.Common.{◌≡◌, ℕ, ◌+◌, Bool, true, false, List, [], ◌∷◌, Option, Some, None, subst, codes, nat_eq}
use Rattle.std.specs.Prelude.{if◌then◌else◌}
use Rattle.exact_values.specs.Rational.{ℚ}
use Rattle.exact_values.specs.Tests.{eq_ℚ}
use Rattle.exact_values.proofs.TestsLaws.{same_from_test}
use Rattle.check_definitions.specs.declared.Verdict.TheVariants.{Checked}
use Rattle.check_definitions.specs.Steps.{in_turn}
use Rattle.check_definitions.proofs.Passing.{both_checked, holds_if_checked}
use Rattle.listing_definitions.specs.declared.Solver.{Solver}
use Rattle.listing_definitions.specs.Report.{ParametricInterval, ChainEnd, EndsAt, UnboundedPast, InfeasiblePast}
use Rattle.question_definitions.specs.Answers.{Sheet, Changing, Row, Set, parametric_solver, ParametricRun, OfPath, OfParametricRun, PathEnd, Reached}
use Rattle.question_definitions.specs.Answers.{ParametricRunEnd, Opening, Chained, ParametricRunLimit}
use Rattle.walk_definitions.specs.Checkers.{Checker}
use Rattle.walk_definitions.specs.Words.{left_after}
use Rattle.walk_definitions.specs.Tests.{asked, interval_test, close_test}
use Rattle.walk_definitions.specs.Reading.{Judged, Right, Fails, Refuses, tested_by, judged_map, Claim, interval_in, close_in, parametric_run_head, Run, onward}
use Rattle.walk_definitions.specs.Reading.{part_in, run_in, parametric_run_in, judged}
use Rattle.walk_laws.specs.Proved.{IsTaken}
use Rattle.walk_laws.proofs.Rightly.{OnRight, on_map, on_any, on_tested}
use Rattle.one_story_laws.proofs.Ends.{IsLast}

-- ---- parametric runs

at_last : (last max value : ℚ) → in_turn (asked (eq_ℚ value last) ∷ asked (eq_ℚ value max) ∷ []) ≡ Checked → value ≡ max
at_last last max value e =
    let both = both_checked (asked (eq_ℚ value last)) (in_turn (asked (eq_ℚ value max) ∷ [])) e in
    let second = both_checked (asked (eq_ℚ value max)) (in_turn []) both.1 in
    same_from_test value max (holds_if_checked 6 0 (eq_ℚ value max) second.0)

last_by_test : (C : Checker) (sheet : Sheet) (changing : Changing) (max last : ℚ) (end : ChainEnd) → close_test C sheet changing max last end ≡ Checked →
    IsLast max end
last_by_test C sheet (Row name) max last (EndsAt value) e = at_last last max value e
last_by_test C sheet (Set name) max last (EndsAt value) e = at_last last max value e
last_by_test C sheet changing max last (UnboundedPast value lines) e = tt
last_by_test C sheet changing max last (InfeasiblePast value lines) e = tt

abbrev pub MayBeTaken : ParametricRun → ParametricRunEnd → Type 0
MayBeTaken parametric_run (Opening bases verdict check) = Unit {0}
MayBeTaken parametric_run (Chained bases intervals end) = IsLast parametric_run.to end
MayBeTaken parametric_run ParametricRunLimit = ⊥

module _ (C : Checker) (sheet : Sheet) (parametric_run : ParametricRun) where
  abbrev Closes : Run → Type 0
  Closes run = IsLast parametric_run.to run.1

  on_onward : (go : ℚ → List ℕ → Judged Run) → ((last : ℚ) (rest : List ℕ) → OnRight Closes (go last rest)) → (judged : Judged ParametricInterval) →
      OnRight Closes (onward go judged)
  on_onward go later (Right interval after) = on_map Closes (λ (run : Run). (interval ∷ run.0, run.1)) (go interval.to after) (later interval.to after)
  on_onward go later Fails = tt
  on_onward go later Refuses = tt

  on_close : (first : Bool) (last : ℚ) (rest : List ℕ) →
      OnRight Closes
      (if first then Fails else judged_map (λ (end : ChainEnd). ([], end))
      (tested_by C (close_test C sheet parametric_run.changing parametric_run.to last)
      (λ of. close_in of sheet (parametric_solver parametric_run.changing)) rest))
  on_close true last rest = tt
  on_close false last rest =
      on_map Closes (λ (end : ChainEnd). ([], end))
      (tested_by C (close_test C sheet parametric_run.changing parametric_run.to last)
      (λ of. close_in of sheet (parametric_solver parametric_run.changing)) rest)
      (on_tested C (IsLast parametric_run.to) (close_test C sheet parametric_run.changing parametric_run.to last)
      (last_by_test C sheet parametric_run.changing parametric_run.to last) (λ of. close_in of sheet (parametric_solver parametric_run.changing)) rest)

  on_part : (go : ℚ → List ℕ → Judged Run) → ((last : ℚ) (rest : List ℕ) → OnRight Closes (go last rest)) →
      (number : ℕ) (last : ℚ) (rest : List ℕ) (left : Option (List ℕ)) →
      OnRight Closes (part_in C sheet parametric_run go number last rest left)
  on_part go later number last rest (Some after) =
      on_onward go later
      (tested_by C (interval_test C sheet parametric_run.changing (nat_eq number 1) parametric_run.to) (λ of. interval_in of sheet number last) rest)
  on_part go later number last rest None = on_close (nat_eq number 1) last rest

  on_run : (room : List ℕ) (number : ℕ) (last : ℚ) (rest : List ℕ) → OnRight Closes (run_in C sheet parametric_run room number last rest)
  on_run [] number last rest = tt
  on_run (byte ∷ room) number last rest =
      on_part (run_in C sheet parametric_run room (number + 1)) (λ last rest. on_run room (number + 1) last rest) number last rest
      (left_after (codes "INTERVAL ") rest)

  on_parametric_run : (rest : List ℕ) (left : Option (List ℕ)) → OnRight (MayBeTaken parametric_run) (parametric_run_in C sheet parametric_run rest left)
  on_parametric_run rest None =
      on_map (MayBeTaken parametric_run) (λ (claim : Claim). Opening [] claim.0 claim.1) _ (on_any (λ (claim : Claim). Unit {0}) (λ claim. tt) _)
  on_parametric_run rest (Some after) =
      on_map (MayBeTaken parametric_run) (λ (run : Run). Chained [] run.0 run.1) (run_in C sheet parametric_run after 1 parametric_run.from after)
      (on_run after 1 parametric_run.from after)

pub parametric_run_taken : (C : Checker) (sheet : Sheet) (parametric_run : ParametricRun) (end : ParametricRunEnd) →
    IsTaken C (OfParametricRun parametric_run) sheet end → MayBeTaken parametric_run end
parametric_run_taken C sheet parametric_run end taken =
    subst (OnRight (MayBeTaken parametric_run)) taken.2
    (on_parametric_run C sheet parametric_run taken.0 (left_after (parametric_run_head parametric_run) taken.0))

-- ---- paths

abbrev pub IsReached : PathEnd → Type 0
IsReached (Reached bases verdict check) = Unit {0}
IsReached end = ⊥

on_path : (judged : Judged Claim) → OnRight IsReached (judged_map (λ (claim : Claim). Reached [] claim.0 claim.1) judged)
on_path judged = on_map IsReached (λ (claim : Claim). Reached [] claim.0 claim.1) judged (on_any (λ (claim : Claim). Unit {0}) (λ claim. tt) judged)

pub path_taken : (C : Checker) (solver : Solver) (limit : Option ℕ) (sheet : Sheet) (end : PathEnd) → IsTaken C (OfPath solver limit) sheet end → IsReached end
path_taken C solver limit sheet end taken = subst (OnRight IsReached) taken.2 (on_path _)
