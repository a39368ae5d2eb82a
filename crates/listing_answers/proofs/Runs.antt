-- The intervals of a run, one after another: what is left decides the whole.
use Rattle.std.proofs.Common.{◌≡◌, ℕ, ◌+◌, ◌<◌, false, List, [], ◌∷◌, ◌++◌, Option, Some, None, Result, Ok, Err, refl, sym, ap, subst, ◌∙◌, append_assoc, arith}
use Rattle.std.proofs.Common.{add-one, length, get_or, drop, if◌then◌else◌}
use Rattle.std.proofs.Math.Seq.{drop-cons}
use Rattle.std.specs.Prelude.{codes, nat_eq, IsErrAnd}
use Rattle.std.proofs.lemmas.Bool.Decides.{nat_tests}
use Rattle.exact_values.specs.Rational.{ℚ}
use Rattle.listing_definitions.specs.Report.{ParametricInterval, ChainEnd}
use Rattle.question_definitions.specs.Answers.{Sheet, ParametricRun, parametric_solver}
use Rattle.run_definitions.specs.Verbs.{last_value}
use Rattle.walk_definitions.specs.Checkers.{Checker}
use Rattle.walk_definitions.specs.Words.{left_after}
use Rattle.walk_definitions.specs.Tests.{interval_test, close_test}
use Rattle.walk_definitions.specs.Reading.{Judged, Right, Fails, Refuses, tested_by, judged_map, Run, interval_in, close_in, onward, part_in, run_in}
use Rattle.listing_claims.specs.declared.claims.Stop.{Stop}
use Rattle.listing_claims.specs.declared.claims.Stop.TheVariants as stops
use Rattle.listing_answers.specs.Intervals.{first_by, first_in}
use Rattle.listing_answers.specs.Taken.{IsStopped, Taken}
use Rattle.listing_answers.proofs.Judging.{handed_on}

abbrev pub after : List ParametricInterval → Judged Run → Judged Run
after intervals rest = judged_map (λ run. (intervals ++ run.0, run.1)) rest

after_none : (rest : Judged Run) → after [] rest ≡ rest
after_none (Right run left) = refl
after_none Fails = refl
after_none Refuses = refl

after_more : (intervals : List ParametricInterval) (interval : ParametricInterval) (rest : Judged Run) →
    after intervals (judged_map (λ run. (interval ∷ run.0, run.1)) rest) ≡ after (intervals ++ interval ∷ []) rest
after_more intervals interval (Right run left) = ap (λ all. Right (all, run.1) left) (sym (append_assoc intervals (interval ∷ []) run.0))
after_more intervals interval Fails = refl
after_more intervals interval Refuses = refl

-- what is shown of the answer
abbrev pub EndsRun : ℚ → Run → Type 0
EndsRun last run = last ≡ last_value run.1

abbrev pub EndsPart : ℚ → ParametricInterval → Type 0
EndsPart to interval = to ≡ interval.to

abbrev pub EndsChain : ℚ → ChainEnd → Type 0
EndsChain last end = last ≡ last_value end

module _ (C : Checker) (sheet : Sheet) (parametric_run : ParametricRun) where
  -- some intervals were read
  pub record IsRunSoFar (whole : Judged Run) (room : List ℕ) (number : ℕ) (last : ℚ) (rest : List ℕ) : Type 0 where
    pub intervals : List ParametricInterval
    pub decides : whole ≡ after intervals (run_in C sheet parametric_run room number last rest)

  -- ---- the first interval

  run_by_first : (byte : ℕ) (room rest : List ℕ) →
      run_in C sheet parametric_run (byte ∷ room) 1 parametric_run.from rest ≡ onward (run_in C sheet parametric_run room (1 + 1))
      (first_in C sheet parametric_run rest)
  run_by_first byte room rest = by (left_after (codes "INTERVAL ") rest)
    where
      by : (o : Option (List ℕ)) →
          part_in C sheet parametric_run (run_in C sheet parametric_run room (1 + 1)) 1 parametric_run.from rest o ≡ onward
          (run_in C sheet parametric_run room (1 + 1)) (first_by C sheet parametric_run rest o)
      by None = refl
      by (Some left) = refl

  pub run_begins : (bytes : List ℕ) (to : ℚ) (new : List ℕ) → Taken EndsPart (first_in C sheet parametric_run bytes) new (Ok to) →
      IsRunSoFar (run_in C sheet parametric_run bytes 1 parametric_run.from bytes) (drop 1 bytes) (1 + 1) to new
  run_begins [] to new taken = absurd (cc taken.is_right)
  run_begins (byte ∷ room) to new taken = record {
    intervals = taken.answer ∷ [];
    decides =
        run_by_first byte room (byte ∷ room) ∙ ap (onward (run_in C sheet parametric_run room (1 + 1))) taken.is_right
        ∙ sym (after_none (judged_map (λ run. (taken.answer ∷ run.0, run.1)) (run_in C sheet parametric_run room (1 + 1) taken.answer.to new)))
        ∙ after_more [] taken.answer (run_in C sheet parametric_run room (1 + 1) taken.answer.to new)
        ∙ ap (λ t. after (taken.answer ∷ []) (run_in C sheet parametric_run room (1 + 1) t new)) (sym taken.shows);
  }

  pub first_stops : (bytes : List ℕ) (stop : Stop) → IsStopped (first_in C sheet parametric_run bytes) stop →
      IsStopped (run_in C sheet parametric_run bytes 1 parametric_run.from bytes) stop
  first_stops [] stops.Wrong wrong = refl
  first_stops [] stops.Unchecked refused = absurd (cc refused)
  first_stops [] stops.NoMemory none = tt
  first_stops (byte ∷ room) stops.Wrong wrong = run_by_first byte room (byte ∷ room) ∙ ap (onward (run_in C sheet parametric_run room (1 + 1))) wrong
  first_stops (byte ∷ room) stops.Unchecked refused = run_by_first byte room (byte ∷ room) ∙ ap (onward (run_in C sheet parametric_run room (1 + 1))) refused
  first_stops (byte ∷ room) stops.NoMemory none = tt

  -- ---- those after it

  -- each interval takes a byte of room
  pub room_left : (whole : Judged Run) (bytes : List ℕ) (i : ℕ) (last : ℚ) (rest : List ℕ) → i < length bytes →
      IsRunSoFar whole (drop i bytes) (i + 1) last rest → IsRunSoFar whole (get_or bytes i 0 ∷ drop (i + 1) bytes) (i + 1) last rest
  room_left whole bytes i last rest below so_far =
      subst (λ (room : List ℕ). IsRunSoFar whole room (i + 1) last rest)
      (drop-cons bytes i 0 below ∙ ap (λ j. get_or bytes i 0 ∷ drop j bytes) (sym (add-one i))) so_far

  abbrev part_judged : ℕ → ℚ → List ℕ → Judged ParametricInterval
  part_judged number last rest =
      tested_by C (interval_test C sheet parametric_run.changing (nat_eq number 1) parametric_run.to) (λ of. interval_in of sheet number last) rest

  abbrev close_judged : ℚ → List ℕ → Judged ChainEnd
  close_judged last rest =
      tested_by C (close_test C sheet parametric_run.changing parametric_run.to last) (λ of. close_in of sheet (parametric_solver parametric_run.changing)) rest

  module _ (whole : Judged Run) (byte : ℕ) (room : List ℕ) (number : ℕ) (last : ℚ) (rest : List ℕ)
      (so_far : IsRunSoFar whole (byte ∷ room) number last rest) where
    -- an interval stands here
    module _ (left : List ℕ) (stands : left_after (codes "INTERVAL ") rest ≡ Some left) where
      here : whole ≡ after so_far.intervals (onward (run_in C sheet parametric_run room (number + 1)) (part_judged number last rest))
      here =
          so_far.decides
          ∙ ap (λ o. after so_far.intervals (part_in C sheet parametric_run (run_in C sheet parametric_run room (number + 1)) number last rest o)) stands

      pub run_goes_on : (to : ℚ) (new : List ℕ) → Taken EndsPart (part_judged number last rest) new (Ok to) → IsRunSoFar whole room (number + 1) to new
      run_goes_on to new taken = record {
        intervals = so_far.intervals ++ taken.answer ∷ [];
        decides =
            here ∙ ap (λ j. after so_far.intervals (onward (run_in C sheet parametric_run room (number + 1)) j)) taken.is_right
            ∙ after_more so_far.intervals taken.answer (run_in C sheet parametric_run room (number + 1) taken.answer.to new)
            ∙ ap (λ t. after (so_far.intervals ++ taken.answer ∷ []) (run_in C sheet parametric_run room (number + 1) t new)) (sym taken.shows);
      }

      stops_by : (stop : Stop) → IsStopped (part_judged number last rest) stop → IsStopped whole stop
      stops_by stops.Wrong wrong = here ∙ ap (λ j. after so_far.intervals (onward (run_in C sheet parametric_run room (number + 1)) j)) wrong
      stops_by stops.Unchecked refused = here ∙ ap (λ j. after so_far.intervals (onward (run_in C sheet parametric_run room (number + 1)) j)) refused
      stops_by stops.NoMemory none = tt

      pub run_stops : (stop : Stop) (new : List ℕ) (result : Result ℚ Stop) → IsStopped (part_judged number last rest) stop → IsErrAnd result (λ y. y ≡ stop) →
          Taken EndsRun whole new result
      run_stops stop new result h handed = handed_on EndsRun whole new result stop (stops_by stop h) handed

    -- none stands here
    module _ (missing : left_after (codes "INTERVAL ") rest ≡ None) where
      over : whole ≡ after so_far.intervals (if nat_eq number 1 then Fails else judged_map (λ end. ([], end)) (close_judged last rest))
      over =
          so_far.decides
          ∙ ap (λ o. after so_far.intervals (part_in C sheet parametric_run (run_in C sheet parametric_run room (number + 1)) number last rest o)) missing

      closing : 1 < number → whole ≡ after so_far.intervals (judged_map (λ end. ([], end)) (close_judged last rest))
      closing later =
          let is : nat_eq number 1 ≡ false = grind (arith, nat_tests, later) in
          over ∙ ap (λ b. after so_far.intervals (if b then Fails else judged_map (λ end. ([], end)) (close_judged last rest))) is

      pub run_closes : 1 < number → (new : List ℕ) (result : Result ℚ Stop) → Taken EndsChain (close_judged last rest) new result →
          Taken EndsRun whole new result
      run_closes later new (Ok x) taken = record {
        answer = (so_far.intervals ++ [], taken.answer);
        is_right = closing later ∙ ap (λ j. after so_far.intervals (judged_map (λ end. ([], end)) j)) taken.is_right;
        shows = taken.shows;
      }
      run_closes later new (Err stops.Wrong) wrong = closing later ∙ ap (λ j. after so_far.intervals (judged_map (λ end. ([], end)) j)) wrong
      run_closes later new (Err stops.Unchecked) refused = closing later ∙ ap (λ j. after so_far.intervals (judged_map (λ end. ([], end)) j)) refused
      run_closes later new (Err stops.NoMemory) none = tt
