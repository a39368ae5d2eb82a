-- The answer to a parametric run, by what stands before it.
use Rattle.std.proofs.Common.{◌≡◌, ℕ, List, [], Some, None, Result, Ok, ap, ◌∙◌}
use Rattle.std.specs.Prelude.{IsErrAnd}
use Rattle.exact_values.specs.Rational.{ℚ}
use Rattle.listing_definitions.specs.declared.Mark.{Mark}
use Rattle.question_definitions.specs.Answers.{Sheet, ParametricRun, ParametricRunEnd, Chained}
use Rattle.walk_definitions.specs.Checkers.{Checker}
use Rattle.walk_definitions.specs.Words.{left_after}
use Rattle.walk_definitions.specs.Reading.{Judged, judged_map, Run, run_in, parametric_run_head, opening_in, parametric_run_in}
use Rattle.listing_answers.specs.declared.answer.ParametricRunAnswer.{ParametricRunAnswer}
use Rattle.listing_answers.specs.declared.answer.ParametricRunAnswer.TheVariants.{Opened, RanThrough}
use Rattle.listing_claims.specs.declared.claims.Stop.{Stop}
use Rattle.listing_claims.specs.declared.claims.Stop.TheVariants as stops
use Rattle.listing_answers.specs.Taken.{IsParametricRunAnswer, IsOpened, IsStopped, Taken}
use Rattle.listing_answers.proofs.Judging.{handed_on}
use Rattle.listing_answers.proofs.Runs.{EndsRun}

module _ (C : Checker) (sheet : Sheet) (parametric_run : ParametricRun) (old : List ℕ) where
  abbrev whole : Judged ParametricRunEnd
  whole = parametric_run_in C sheet parametric_run old (left_after (parametric_run_head parametric_run) old)

  module _ (missing : left_after (parametric_run_head parametric_run) old ≡ None) where
    opens : whole ≡ opening_in C sheet parametric_run old
    opens = ap (parametric_run_in C sheet parametric_run old) missing

    pub parametric_run_opened : (mark : Mark) (new : List ℕ) → Taken IsOpened (opening_in C sheet parametric_run old) new (Ok mark) →
        Taken IsParametricRunAnswer whole new (Ok (Opened mark))
    parametric_run_opened mark new taken = record { answer = taken.answer; is_right = opens ∙ taken.is_right; shows = taken.shows }

    opening_stops : (stop : Stop) → IsStopped (opening_in C sheet parametric_run old) stop → IsStopped whole stop
    opening_stops stops.Wrong wrong = opens ∙ wrong
    opening_stops stops.Unchecked refused = opens ∙ refused
    opening_stops stops.NoMemory none = tt

    pub parametric_run_opening_stops : (stop : Stop) (new : List ℕ) (result : Result ParametricRunAnswer Stop) →
        IsStopped (opening_in C sheet parametric_run old) stop → IsErrAnd result (λ y. y ≡ stop) → Taken IsParametricRunAnswer whole new result
    parametric_run_opening_stops stop new result h handed = handed_on IsParametricRunAnswer whole new result stop (opening_stops stop h) handed

  module _ (after : List ℕ) (stands : left_after (parametric_run_head parametric_run) old ≡ Some after) where
    abbrev run : Judged Run
    run = run_in C sheet parametric_run after 1 parametric_run.from after

    goes : whole ≡ judged_map (λ run. Chained [] run.0 run.1) run
    goes = ap (parametric_run_in C sheet parametric_run old) stands

    pub parametric_ran : (last : ℚ) (new : List ℕ) → Taken EndsRun run new (Ok last) → Taken IsParametricRunAnswer whole new (Ok (RanThrough last))
    parametric_ran last new taken = record {
      answer = Chained [] taken.answer.0 taken.answer.1;
      is_right = goes ∙ ap (judged_map (λ run. Chained [] run.0 run.1)) taken.is_right;
      shows = taken.shows;
    }

    run_stops : (stop : Stop) → IsStopped run stop → IsStopped whole stop
    run_stops stops.Wrong wrong = goes ∙ ap (judged_map (λ run. Chained [] run.0 run.1)) wrong
    run_stops stops.Unchecked refused = goes ∙ ap (judged_map (λ run. Chained [] run.0 run.1)) refused
    run_stops stops.NoMemory none = tt

    pub parametric_run_stops : (stop : Stop) (new : List ℕ) (result : Result ParametricRunAnswer Stop) → IsStopped run stop → IsErrAnd result (λ y. y ≡ stop) →
        Taken IsParametricRunAnswer whole new result
    parametric_run_stops stop new result h handed = handed_on IsParametricRunAnswer whole new result stop (run_stops stop h) handed
