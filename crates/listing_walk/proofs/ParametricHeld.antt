-- What PARAOBJ and PARARHS come to in the walk, also where a run left a value in XPARAM that no cell holds.
use Rattle.std.proofs.Common.{◌≡◌, ℕ, List, [], Option, Some, None, Result, Ok, Err, IfOk, refl, ap, subst, ◌∙◌}
use Rattle.std.specs.Prelude.{unwrap_or}
use Rattle.std.specs.declared.alloc.AllocError.{AllocError as NoMemory}
use Rattle.exact_values.specs.Rational.{ℚ}
use Rattle.lp_definitions.specs.LinearProgram.{LinearProgram}
use Rattle.problem_definitions.specs.Problem.{Problem}
use Rattle.problem_file.specs.Filed.{filed_under}
use Rattle.control_definitions.specs.Cells.{Cells, steps_allowed}
use Rattle.listing_definitions.specs.declared.Mark.TheVariants.{Optimal, Infeasible, Unbounded}
use Rattle.listing_definitions.specs.declared.VerbFault.TheVariants.{NoSetup}
use Rattle.question_definitions.specs.Answers.{Changing, OfParametricRun}
use Rattle.run_definitions.specs.State.{choice_of}
use Rattle.run_machine.specs.declared.act.Act.{Act}
use Rattle.run_machine.specs.declared.act.Act.TheVariants as acts
use Rattle.run_machine.specs.declared.end.End.TheVariants as ends
use Rattle.run_machine.specs.declared.finding.Finding.{Finding}
use Rattle.run_machine.specs.declared.finding.Finding.TheVariants as findings
use Rattle.run_machine.specs.declared.machine.Machine.{Machine}
use Rattle.run_machine.specs.Findings.{act_of}
use Rattle.run_machine.specs.Standing.{AreDemands}
use Rattle.walk_definitions.specs.Checkers.{Checker}
use Rattle.parametric_request.specs.declared.request.ParametricVerb.{ParametricVerb}
use Rattle.parametric_request.specs.declared.request.RequestStop.{RequestStop}
use Rattle.parametric_request.specs.declared.request.RequestStop.TheVariants as request_stops
use Rattle.parametric_request.specs.Asking.{verb_of, Changes, IsAsked, no_value, IsNotAsked}
use Rattle.listing_claims.specs.declared.claims.AskedRun.{AskedRun}
use Rattle.listing_claims.specs.Asked.{parametric_run_of}
use Rattle.listing_answers.specs.declared.answer.ParametricRunAnswer.{ParametricRunAnswer}
use Rattle.listing_answers.specs.declared.answer.ParametricRunAnswer.TheVariants.{RanThrough}
use Rattle.listing_answers.specs.Taken.{IsParametricRunAnswer}
use Rattle.listing_walk.specs.declared.answering.Stopped.{Stopped}
use Rattle.listing_walk.specs.declared.chosen.Chosen.{Chosen}
use Rattle.listing_walk.specs.declared.found.Found.{Found}
use Rattle.listing_walk.specs.declared.place.ListingPlace.{ListingPlace}
use Rattle.listing_walk.specs.declared.selecting.Unselected.{Unselected}
use Rattle.listing_walk.specs.declared.walk_step.WalkStep.{WalkStep}
use Rattle.listing_walk.specs.declared.walk_step.WalkStep.TheVariants as walk_step
use Rattle.listing_walk.specs.Choosing.{IsMade, IsNotMade}
use Rattle.listing_walk.specs.Standing.{holding}
use Rattle.listing_walk.specs.Walking.{Finishes, Passes, Walks, Refuses, IsUnchecked}
use Rattle.listing_walk.specs.Asking.{Answered, IsStopStep}
use Rattle.listing_walk.specs.ParametricVerbs.{beginning, IsNotLast, finding_of, left_by, IsUnasked}
use Rattle.listing_walk.proofs.ParametricWalks.{parametric_no_setup, parametric_refused, parametric_unasked, parametric_stopped, parametric_ended}
use Rattle.listing_walk.proofs.ParametricWalks.{parametric_long}

-- ---- the machine with a value in XPARAM

-- its cells, with the value from which a run begins
pub cells_held : (last : Option ℚ) (machine : Machine Chosen) (from : ℚ) → from ≡ unwrap_or last machine.cells.xparam →
    beginning from machine.cells ≡ (holding last machine).cells
cells_held None machine from is = ap (λ x. beginning x machine.cells) is
cells_held (Some value) machine from is = ap (λ x. beginning x machine.cells) is

demands_held : (last : Option ℚ) (machine : Machine Chosen) → AreDemands machine.cells → AreDemands (holding last machine).cells
demands_held None machine demands = demands
demands_held (Some value) machine demands = record { infeasible = demands.infeasible; unbounded = demands.unbounded }

-- what follows doesn't look at XPARAM
pub act_held : (last : Option ℚ) (machine : Machine Chosen) (card : ℕ) (finding : Finding) →
    act_of machine.cells card finding ≡ act_of (holding last machine).cells card finding
act_held None machine card finding = refl
act_held (Some value) machine card (findings.Refused fault) = refl
act_held (Some value) machine card (findings.Overflow e place) = refl
act_held (Some value) machine card (findings.WrongPrices variable) = refl
act_held (Some value) machine card findings.Limit = refl
act_held (Some value) machine card (findings.Ended Optimal) = refl
act_held (Some value) machine card (findings.Ended Infeasible) = refl
act_held (Some value) machine card (findings.Ended Unbounded) = refl
act_held (Some value) machine card findings.Printed = refl
act_held (Some value) machine card (findings.RanThrough x) = refl

unmarked_held : (last : Option ℚ) (machine : Machine Chosen) → record (holding last machine) { mark = None } ≡ holding last (record machine { mark = None })
unmarked_held None machine = refl
unmarked_held (Some value) machine = refl

-- a last value stands in place of the one before it
pub reached_held : (last : Option ℚ) (machine : Machine Chosen) (value : ℚ) →
    left_by (findings.RanThrough value) machine ≡ left_by (findings.RanThrough value) (holding last machine)
reached_held None machine value = refl
reached_held (Some before) machine value = refl

-- no last value stops the verb
pub unasked_by_last : (verb : ParametricVerb) (problem : Problem ℕ) (cells : Cells) (changing : Changing) → Changes verb problem cells changing →
    (stop : RequestStop) → IsNotLast cells stop → IsNotAsked verb problem cells stop
unasked_by_last verb problem cells changing changes (request_stops.Fault fault) none = no_value changes none
unasked_by_last verb problem cells changing changes request_stops.NoMemory none = tt

-- ---- the verb in the walk

module _ (C : Checker) (verb : ParametricVerb) (card : ℕ) (cards : List (List ℕ)) (machine : Machine Chosen) (old new : ListingPlace) where
  pub held_no_setup : (last : Option ℚ) → machine.setup ≡ None → (result : Result WalkStep NoMemory) →
      IfOk result (Passes (holding last machine) old new (acts.Ends (ends.Verb NoSetup card)) []) →
      IfOk result (Walks C (verb_of verb) card cards (holding last machine) (holding last machine) old new)
  held_no_setup None none = parametric_no_setup C verb card cards machine old new none
  held_no_setup (Some value) none = parametric_no_setup C verb card cards (holding (Some value) machine) old new none

  module _ (chosen : Chosen) (is_setup : machine.setup ≡ Some chosen) (problem : Problem ℕ)
      (on_file : filed_under chosen.name machine.file ≡ Some problem) where
    pub held_refused : (last : Option ℚ) (found : Found) → IsUnchecked old found → (refusal : Unselected) →
        IsNotMade problem (choice_of machine.cells chosen.options) refusal →
        (result : Result WalkStep NoMemory) → IfOk result (Refuses (holding last machine) old new card refusal found) →
        IfOk result (Walks C (verb_of verb) card cards (holding last machine) (holding last machine) old new)
    held_refused None = parametric_refused C verb card cards machine old new chosen is_setup problem on_file
    held_refused (Some value) = parametric_refused C verb card cards (holding (Some value) machine) old new chosen is_setup problem on_file

    module _ (lp : LinearProgram) (made : IsMade problem (choice_of machine.cells chosen.options) lp) (from : ℚ) where
      unasked_at : (last : Option ℚ) (stop : RequestStop) → IsNotAsked verb problem (holding last machine).cells stop → (result : Result WalkStep NoMemory) →
          IfOk result (IsUnasked (holding last machine) old new card stop) →
          IfOk result (Walks C (verb_of verb) card cards (holding last machine) (holding last machine) old new)
      unasked_at None = parametric_unasked C verb card cards machine old new chosen is_setup problem on_file lp made
      unasked_at (Some value) = parametric_unasked C verb card cards (holding (Some value) machine) old new chosen is_setup problem on_file lp made

      pub held_unasked : (last : Option ℚ) → from ≡ unwrap_or last machine.cells.xparam → (stop : RequestStop) →
          IsNotAsked verb problem (beginning from machine.cells) stop → (result : Result WalkStep NoMemory) →
          IfOk result (IsUnasked (holding last machine) old new card stop) →
          IfOk result (Walks C (verb_of verb) card cards (holding last machine) (holding last machine) old new)
      held_unasked last is stop h = unasked_at last stop (subst (λ (c : Cells). IsNotAsked verb problem c stop) (cells_held last machine from is) h)

      module _ (request : AskedRun) where
        abbrev IsAskedAt : Cells → Type 0
        IsAskedAt cells = IsAsked verb problem cells (parametric_run_of (steps_allowed machine.cells) request)

        abbrev IsAnswered : ListingPlace → Result ParametricRunAnswer Stopped → Type 0
        IsAnswered mid result =
            (limit : ℕ) →
            Answered C (OfParametricRun (parametric_run_of limit request)) (record { problem = problem; lp = lp }) old mid IsParametricRunAnswer result

        abbrev asked_held : (last : Option ℚ) → from ≡ unwrap_or last machine.cells.xparam → IsAskedAt (beginning from machine.cells) →
            IsAskedAt (holding last machine).cells
        asked_held last is asked = subst IsAskedAt (cells_held last machine from is) asked

        stopped_at : (last : Option ℚ) → IsAskedAt (holding last machine).cells → (stopped : Stopped) → IsAnswered new (Err stopped) →
            (result : Result WalkStep NoMemory) → IfOk result (IsStopStep stopped) →
            IfOk result (Walks C (verb_of verb) card cards (holding last machine) (holding last machine) old new)
        stopped_at None asked = parametric_stopped C verb card cards machine old new chosen is_setup problem on_file lp made request asked machine
        stopped_at (Some value) asked =
            parametric_stopped C verb card cards (holding (Some value) machine) old new chosen is_setup problem on_file lp made request asked
            (holding (Some value) machine)

        pub held_stopped : (last : Option ℚ) → from ≡ unwrap_or last machine.cells.xparam → IsAskedAt (beginning from machine.cells) → (stopped : Stopped) →
            IsAnswered new (Err stopped) → (result : Result WalkStep NoMemory) → IfOk result (IsStopStep stopped) →
            IfOk result (Walks C (verb_of verb) card cards (holding last machine) (holding last machine) old new)
        held_stopped last is asked = stopped_at last (asked_held last is asked)

        module _ (demands : AreDemands machine.cells) where
          ended_at : (last : Option ℚ) → IsAskedAt (holding last machine).cells → (mid : ListingPlace) (x : ParametricRunAnswer) → IsAnswered mid (Ok x) →
              (after : Machine Chosen) → after ≡ left_by (finding_of x) (holding last machine) →
              (act : Act) → act ≡ act_of after.cells card (finding_of x) → (result : Result WalkStep NoMemory) → IfOk result (Finishes mid new act) →
              IfOk result (Walks C (verb_of verb) card cards (holding last machine) after old new)
          ended_at None asked = parametric_ended C verb card cards machine old new chosen is_setup problem on_file lp made request asked demands
          ended_at (Some value) asked =
              parametric_ended C verb card cards (holding (Some value) machine) old new chosen is_setup problem on_file lp made request asked
              (demands_held (Some value) machine demands)

          -- what is left of the value before is with the machine after
          pub held_ended : (last : Option ℚ) → from ≡ unwrap_or last machine.cells.xparam → IsAskedAt (beginning from machine.cells) →
              (mid : ListingPlace) (x : ParametricRunAnswer) → IsAnswered mid (Ok x) →
              (left : Option ℚ) (after : Machine Chosen) → holding left after ≡ left_by (finding_of x) (holding last machine) → (act : Act) →
              act ≡ act_of after.cells card (finding_of x) → (result : Result WalkStep NoMemory) → IfOk result (Finishes mid new act) →
              IfOk result (Walks C (verb_of verb) card cards (holding last machine) (holding left after) old new)
          held_ended last is asked mid x answered left after stays act is_act =
              ended_at last (asked_held last is asked) mid x answered (holding left after) stays act (is_act ∙ act_held left after card (finding_of x))

          long_at : (last : Option ℚ) → IsAskedAt (holding last machine).cells → (x : ParametricRunAnswer) (value : ℚ) → x ≡ RanThrough value →
              IsAnswered new (Ok x) →
              Walks C (verb_of verb) card cards (holding last machine) (record (holding last machine) { mark = None }) old new (walk_step.Leaves value)
          long_at None asked = parametric_long C verb card cards machine old new chosen is_setup problem on_file lp made request asked demands
          long_at (Some before) asked =
              parametric_long C verb card cards (holding (Some before) machine) old new chosen is_setup problem on_file lp made request asked
              (demands_held (Some before) machine demands)

          pub held_long : (last : Option ℚ) → from ≡ unwrap_or last machine.cells.xparam → IsAskedAt (beginning from machine.cells) →
              (x : ParametricRunAnswer) (value : ℚ) → x ≡ RanThrough value → IsAnswered new (Ok x) →
              Walks C (verb_of verb) card cards (holding last machine) (holding last (record machine { mark = None })) old new (walk_step.Leaves value)
          held_long last is asked x value ran answered =
              subst (λ (m : Machine Chosen). Walks C (verb_of verb) card cards (holding last machine) m old new (walk_step.Leaves value))
              (unmarked_held last machine) (long_at last (asked_held last is asked) x value ran answered)
