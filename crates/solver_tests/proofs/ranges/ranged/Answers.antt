-- The path has ended optimal, and so the basis that it has reached is optimal.
use Rattle.std.proofs.Common.{◌≡◌, ◌∙◌, sym, ℕ, List, length, subst}
use Rattle.exact_values.specs.Rational.{ℚ}
use Rattle.lp_definitions.specs.LinearProgram.{LinearProgram, IsLinearProgram}
use Rattle.lp_definitions.specs.Basis.{IsOptimalBasis}
use Rattle.lp_definitions.specs.declared.Status.{Status}
use Rattle.lp_model.specs.declared.reports.Outcome.{Outcome}
use Rattle.lp_model.specs.declared.reports.Outcome.TheVariants.{Optimal}
use Rattle.simplex_definitions.specs.Path.{PathEnding, EndsOptimal, EndsCrossed, EndsInfeasible, EndsUnbounded, EndsAt}
use Rattle.simplex_laws.specs.Laws.{IsNonsingularBasis}
use Rattle.simplex_laws.proofs.Ends.{optimal_end}
use Rattle.simplex_definitions.specs.Counts.{counted_steps}
use Rattle.bounded_primal.specs.Calls.{CallEnds, outcome_of}
use Rattle.solver_tests.proofs.ranges.ranged.Goals as goal

optimal_ending : (p : LinearProgram) (now : List Status) (ending : PathEnding) (steps n : ℕ) (z y : List ℚ) → IsLinearProgram p → IsNonsingularBasis p now →
    EndsAt p now ending →
    outcome_of steps ending ≡ Optimal n z y → IsOptimalBasis p now
optimal_ending p now (EndsOptimal z y) steps _ _ _ lawful at ends is = (optimal_end p now z y lawful at ends).optimal
optimal_ending p now (EndsCrossed k) steps _ _ _ lawful at ends is = absurd (cc is)
optimal_ending p now (EndsInfeasible w) steps _ _ _ lawful at ends is = absurd (cc is)
optimal_ending p now (EndsUnbounded z d) steps _ _ _ lawful at ends is = absurd (cc is)

call_optimal : (p : LinearProgram) (s now : List Status) (limit n : ℕ) (outcome : Outcome) (z y : List ℚ) → IsLinearProgram p → IsNonsingularBasis p now →
    CallEnds p s now limit outcome →
    outcome ≡ Optimal n z y → IsOptimalBasis p now
call_optimal p s now limit n outcome z y lawful at ends is =
    optimal_ending p now ends.ending (counted_steps (length ends.bases)) n z y lawful at
    (subst (λ (b : List Status). EndsAt p b ends.ending) ends.reaches ends.ends.ends) (sym ends.is_outcome ∙ is)

pub range-requires-clause-optimal : goal.range-requires-clause-optimal
range-requires-clause-optimal c =
    call_optimal c.args.lp.now _ c.primal.new.basis _ _ _ _ _ c.number_of_variables-limit.ensures.lawful
    (record { is_basis = c.primal.ensures.rates.is_basis; nonsingular = c.primal.ensures.rates.nonsingular })
    c.in-Ok-Optimal.ensures.ends c.in-Ok-Optimal.field-0-is
