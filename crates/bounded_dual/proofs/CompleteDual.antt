-- What a call of the dual method answers, from the path that it has followed.
use Rattle.std.proofs.Common.{◌≡◌, ℕ, List, length, Result, Ok, Err, inl, inr, refl, sym, subst}
use Rattle.std.specs.Prelude.{None, IfOk, IfErr}
use Rattle.exact_values.specs.Rational.{ℚ}
use Rattle.lp_definitions.specs.LinearProgram.{Matrix, LinearProgram, IsLinearProgram}
use Rattle.lp_definitions.specs.Basis.{Basics}
use Rattle.lp_definitions.specs.declared.Status.{Status}
use Rattle.lp_model.specs.declared.reports.Outcome.{Outcome}
use Rattle.simplex_definitions.specs.Counts.{counted_steps}
use Rattle.simplex_definitions.specs.DualPath.{dual_turn, HasRightPrices, DualEndsAt}
use Rattle.simplex_definitions.specs.Path.{PathEnding, EndsOptimal, EndsCrossed, EndsInfeasible, EndsUnbounded, last_of}
use Rattle.simplex_definitions.specs.Statements.{Dual}
use Rattle.simplex_laws.specs.Laws.{IsNonsingularBasis}
use Rattle.basis_values.specs.Calls.{HasRates}
use Rattle.bounded_primal.specs.Calls.{RuleCallEnds, outcome_of}
use Rattle.bounded_primal.specs.Complete.{RuleEndsOverflowFree, IsEndOr}
use Rattle.bounded_primal.specs.Outcomes.{IsTrueOutcome}
use Rattle.bounded_primal.proofs.CompletePaths.{answers_end}
use Rattle.bounded_primal.proofs.TrueOutcomes.{true_end}
use Rattle.simplex_laws.proofs.DualTurns.{dual_end, never_unbounded, not_both_prices}
use Rattle.simplex_laws.proofs.OneDualPath.{dual_path_leads, path_right, one_path, not_both}
use Rattle.bounded_primal.specs.declared.moves.PrimalStop.TheVariants.{Limit, Overflow, NoMemory}
use Rattle.bounded_dual.specs.Stops.{DualEnds, DualStopsAlong, IsNotUnbounded}
use Rattle.bounded_dual.specs.declared.moves.DualStop.{DualStop}
use Rattle.bounded_dual.specs.declared.moves.DualStop.TheVariants.{NotDualFeasible, Path}

module _ (p : LinearProgram) (lawful : IsLinearProgram p) (no_change : p.change ≡ None) (a : Matrix) (b : Basics) (s : List Status)
    (has : HasRates a b p s) where
  at : IsNonsingularBasis p s
  at = record { is_basis = has.is_basis; nonsingular = has.nonsingular }

  module _ (right : HasRightPrices p s) (now : List Status) (limit : ℕ) where
    ends_right : (outcome : Outcome) (call : RuleCallEnds dual_turn p s now limit outcome) → HasRightPrices p (last_of s call.bases)
    ends_right outcome call = path_right p lawful no_change s call.bases at right call.ends.is_path

    dual_ends : (outcome : Outcome) → RuleCallEnds dual_turn p s now limit outcome → DualEnds p s now limit outcome
    dual_ends outcome call = record { right = right; stays = subst (HasRightPrices p) call.reaches (ends_right outcome call); call = call }

    has_bound : (steps : ℕ) (at_end : List Status) (ending : PathEnding) → DualEndsAt p at_end ending → IsNotUnbounded (outcome_of steps ending)
    has_bound steps at_end (EndsOptimal z y) ends = tt
    has_bound steps at_end (EndsCrossed k) ends = tt
    has_bound steps at_end (EndsInfeasible w) ends = tt
    has_bound steps at_end (EndsUnbounded z d) ends = absurd (never_unbounded p at_end z d ends)

    dual_bounded : (outcome : Outcome) → RuleCallEnds dual_turn p s now limit outcome → IsNotUnbounded outcome
    dual_bounded outcome call =
        subst IsNotUnbounded (sym call.is_outcome) (has_bound (counted_steps (length call.bases)) (last_of s call.bases) call.ending call.ends.ends)

    dual_truth : (outcome : Outcome) → RuleCallEnds dual_turn p s now limit outcome → IsTrueOutcome p outcome
    dual_truth outcome call =
        let there = dual_path_leads p s call.bases at call.ends.is_path in
        subst (IsTrueOutcome p) (sym call.is_outcome) (true_end p lawful (last_of s call.bases) there (counted_steps (length call.bases)) call.ending
        (dual_end p (last_of s call.bases) call.ending lawful there (ends_right outcome call) call.ends.ends))

    -- of a call that may have stopped
    pub ends_result : {E : Type 0} (result : Result Outcome E) → IfOk result (RuleCallEnds dual_turn p s now limit) → IfOk result (DualEnds p s now limit)
    ends_result (Ok outcome) call = dual_ends outcome call
    ends_result (Err why) call = tt

  pub bounded_result : {E : Type 0} (now : List Status) (limit : ℕ) (result : Result Outcome E) → IfOk result (DualEnds p s now limit) →
      IfOk result IsNotUnbounded
  bounded_result now limit (Ok outcome) ends = dual_bounded ends.right now limit outcome ends.call
  bounded_result now limit (Err why) ends = tt

  pub true_result : {E : Type 0} (now : List Status) (limit : ℕ) (result : Result Outcome E) → IfOk result (DualEnds p s now limit) →
      IfOk result (IsTrueOutcome p)
  true_result now limit (Ok outcome) ends = dual_truth ends.right now limit outcome ends.call
  true_result now limit (Err why) ends = tt

  -- where the path ends from right prices and nothing stops the call, it answers this end
  pub dual_answered : (now : List Status) (limit : ℕ) (before more : List Basics) (bases : List (List Status)) (ending : PathEnding)
      (result : Result Outcome DualStop) → IfOk result (DualEnds p s now limit) → IfErr result (DualStopsAlong p s now limit before more) →
      HasRightPrices p s → RuleEndsOverflowFree dual_turn (Dual p) p s limit before bases ending → IsEndOr (Path NoMemory) s bases ending now result
  dual_answered now limit before more bases ending (Ok outcome) ends stops right goes =
      answers_end dual_turn p (one_path p lawful) s at now bases ending limit (Path NoMemory) outcome goes.ends ends.call
  dual_answered now limit before more bases ending (Err (NotDualFeasible j)) ends stops right goes = absurd (not_both_prices p s j lawful at right stops.0)
  dual_answered now limit before more bases ending (Err (Path Limit)) ends stops right goes =
      absurd (not_both p lawful limit s at (record { bases = bases; ending = ending; ends = goes.ends; within = goes.within }) stops.1.goes_on)
  dual_answered now limit before more bases ending (Err (Path (Overflow e))) ends stops right goes = absurd (goes.no_evidence now more e stops)
  dual_answered now limit before more bases ending (Err (Path NoMemory)) ends stops right goes = inr refl
