-- Where the path ends and nothing stops a call on it, the call answers this end.
use Rattle.std.proofs.Common.{ℕ, List, Result, Ok, Err, inl, inr, refl, sym, ap, ap₂, ◌∙◌, length}
use Rattle.std.specs.Prelude.{IfOk, IfErr}
use Rattle.lp_definitions.specs.LinearProgram.{LinearProgram, Matrix, IsLinearProgram}
use Rattle.lp_definitions.specs.Basis.{Basics}
use Rattle.lp_definitions.specs.declared.Status.{Status}
use Rattle.lp_model.specs.declared.Stop.{Stop}
use Rattle.lp_model.specs.declared.Stop.TheVariants as stop
use Rattle.lp_model.specs.declared.reports.Outcome.{Outcome}
use Rattle.simplex_definitions.specs.Path.{PathEnding, Rule, turn, RulePathEnds, last_of}
use Rattle.simplex_definitions.specs.Counts.{counted_steps}
use Rattle.simplex_laws.specs.Laws.{IsNonsingularBasis, SameEnds}
use Rattle.simplex_laws.proofs.OnePath.{one_path, not_both}
use Rattle.termination_laws.specs.Laws.{lists_of}
use Rattle.basis_values.specs.Calls.{HasRates}
use Rattle.bounded_primal.specs.Calls.{CallEnds, RuleCallEnds, outcome_of}
use Rattle.bounded_primal.specs.Stops.{PrimalStopsAlong, primal_stop_of}
use Rattle.bounded_primal.specs.Complete.{EndsOverflowFree, EndsFreely, IsEndOr, IsEndOrMemory, IsFreeEndOrMemory}
use Rattle.bounded_primal.specs.declared.moves.PrimalStop.{PrimalStop}
use Rattle.bounded_primal.specs.declared.moves.PrimalStop.TheVariants.{Limit, Overflow, NoMemory}

-- by a rule that has one path from a basis
module _ (rule : Rule) (p : LinearProgram)
    (one : (s : List Status) (bases others : List (List Status)) (ending other : PathEnding) → IsNonsingularBasis p s →
    RulePathEnds rule p s bases ending → RulePathEnds rule p s others other → SameEnds bases others ending other) where
  -- there is one end
  pub answers_end : {E : Type 0} (s : List Status) → IsNonsingularBasis p s →
      (now : List Status) (bases : List (List Status)) (ending : PathEnding) (limit : ℕ) (none : E) (outcome : Outcome) →
      RulePathEnds rule p s bases ending → RuleCallEnds rule p s now limit outcome → IsEndOr none s bases ending now (Ok outcome)
  answers_end s at now bases ending limit none outcome ends given =
      let same = one s bases given.bases ending given.ending at ends given.ends in
      inl (
        ap (λ o. Ok o) (given.is_outcome ∙ sym (ap₂ (λ xs e. outcome_of (counted_steps (length xs)) e) same.same_bases same.same_ending)),
        ap
            (last_of s) same.same_bases ∙ given.reaches,
      )

-- ---- the simplex path

module _ (p : LinearProgram) (lawful : IsLinearProgram p) (a : Matrix) (b : Basics) (s : List Status) (has : HasRates a b p s) (now : List Status)
    (bases : List (List Status)) (ending : PathEnding) where
  begun : IsNonsingularBasis p s
  begun = record { is_basis = has.is_basis; nonsingular = has.nonsingular }

  pub path_answered : (limit : ℕ) (before after : List Basics) (result : Result Outcome PrimalStop) → IfOk result (CallEnds p s now limit) →
      IfErr result (PrimalStopsAlong p s now limit before after) →
      EndsOverflowFree p s limit before bases ending → IsEndOrMemory s bases ending now result
  path_answered limit before after (Ok outcome) ends stops goes =
      answers_end turn p (one_path p lawful) s begun now bases ending limit NoMemory outcome goes.ends ends
  path_answered limit before after (Err Limit) ends stops goes =
      absurd (not_both p lawful limit s begun (record { bases = bases; ending = ending; ends = goes.ends; within = goes.within }) stops.goes_on)
  path_answered limit before after (Err (Overflow e)) ends stops goes = absurd (goes.no_evidence now after e stops)
  path_answered limit before after (Err NoMemory) ends stops goes = inr refl

  pub free_path_answered : (before after : List Basics) (result : Result Outcome Stop) → IfOk result (CallEnds p s now (lists_of p)) →
      IfErr result (λ why. PrimalStopsAlong p s now (lists_of p) before after (primal_stop_of why)) →
      EndsFreely p s before bases ending → IsFreeEndOrMemory s bases ending now result
  free_path_answered before after (Ok outcome) ends stops goes =
      answers_end turn p (one_path p lawful) s begun now bases ending (lists_of p) stop.NoMemory outcome goes.ends ends
  free_path_answered before after (Err (stop.Overflow e)) ends stops goes = absurd (goes.no_evidence now after e stops)
  free_path_answered before after (Err stop.NoMemory) ends stops goes = inr refl
