-- A linear program has one mark and one best objective.
--     IsOfMark p mark              a point is best in it, or no point is feasible, or none is best
--     FailsAt p verdict            it is of the verdict's mark, which isn't OPTIMAL
use Rattle.std.proofs.Common.{◌≡◌, ℕ, refl, sym, ap, ◌∙◌}
use Rattle.exact_values.specs.Rational.{ℚ, neg_ℚ, ◌≤ℚ◌}
use Rattle.exact_values.proofs.Order.{lt_not_le, le_antisymm}
use Rattle.exact_values.proofs.Ring.{by_ring1, opposite, ◌≐◌}
use Rattle.lp_definitions.specs.declared.Sense.{Sense}
use Rattle.lp_definitions.specs.declared.Sense.TheVariants.{Min, Max}
use Rattle.lp_definitions.specs.LinearProgram.{LinearProgram, Vector, value_at, objective_value, for_min}
use Rattle.lp_definitions.specs.Solutions.{IsBest, IsInfeasible, IsUnbounded}
use Rattle.simplex_definitions.specs.Path.{PathEnding, EndsOptimal, EndsCrossed, EndsInfeasible, EndsUnbounded}
use Rattle.listing_definitions.specs.declared.Mark.{Mark}
use Rattle.listing_definitions.specs.declared.Mark.TheVariants.{Optimal, Infeasible, Unbounded}
use Rattle.listing_definitions.specs.Report.{PathVerdict, OptimalAt, CrossedAt, InfeasibleBy, UnboundedBy}
use Rattle.question_definitions.specs.Answers.{Sheet}
use Rattle.run_definitions.specs.Verbs.{mark_of}
use Rattle.soundness_laws.specs.Truth.{IsBestObjective, IsTrueOf}
use Rattle.parametric_laws.specs.Truth.{IsTrueFailure}
use Rattle.answer_definitions.specs.Verdicts.{verdict_of}
use Rattle.walk_laws.specs.Views.{IsTrueAtFirst}
use Rattle.one_story_laws.specs.Story.{SameObjective, SameVerdict}

abbrev pub IsOfMark : LinearProgram → Mark → Type 0
IsOfMark p Optimal = (z : Vector) × IsBest p z
IsOfMark p Infeasible = IsInfeasible p
IsOfMark p Unbounded = IsUnbounded p

best_or_unbounded : (p : LinearProgram) (z : Vector) → IsBest p z → IsUnbounded p → ⊥
best_or_unbounded p z best unbounded_end =
    let more = unbounded_end.improved z best.feasible in
    lt_not_le more.1.improve (best.unimproved more.0 more.1.feasible)

pub one_mark : (p : LinearProgram) (mark other : Mark) → IsOfMark p mark → IsOfMark p other → mark ≡ other
one_mark p Optimal Optimal first second = refl
one_mark p Optimal Infeasible first second = absurd (second first.0 first.1.feasible)
one_mark p Optimal Unbounded first second = absurd (best_or_unbounded p first.0 first.1 second)
one_mark p Infeasible Optimal first second = absurd (first second.0 second.1.feasible)
one_mark p Infeasible Infeasible first second = refl
one_mark p Infeasible Unbounded first second = absurd (first second.point second.feasible)
one_mark p Unbounded Optimal first second = absurd (best_or_unbounded p second.0 second.1 first)
one_mark p Unbounded Infeasible first second = absurd (second first.point first.feasible)
one_mark p Unbounded Unbounded first second = refl

-- ---- objectives

same_value : (sense : Sense) (x y : ℚ) → for_min sense x ≤ℚ for_min sense y → for_min sense y ≤ℚ for_min sense x → x ≡ y
same_value Min x y below above = le_antisymm below above
same_value Max x y below above =
    by_ring1 x (λ x. x ≐ opposite (opposite x)) refl ∙ ap neg_ℚ (le_antisymm below above) ∙ by_ring1 y (λ y. opposite (opposite y) ≐ y) refl

pub best_objective : (p : LinearProgram) (z w : Vector) → IsBest p z → IsBest p w → objective_value p z ≡ objective_value p w
best_objective p z w first second =
    same_value p.sense (objective_value p z) (objective_value p w) (first.unimproved w second.feasible) (second.unimproved z first.feasible)

one_objective : (p : LinearProgram) (x y : ℚ) → IsBestObjective p x → IsBestObjective p y → x ≡ y
one_objective p x y first second =
    first.is_objective ∙ best_objective p (value_at first.point) (value_at second.point) first.best second.best ∙ sym second.is_objective

-- ---- verdicts

of_verdict : (sheet : Sheet) (verdict : PathVerdict) → IsTrueOf sheet verdict → IsOfMark sheet.lp (mark_of verdict)
of_verdict sheet (OptimalAt steps objective) holds = (value_at holds.point, holds.best)
of_verdict sheet (CrossedAt k) holds = holds.1
of_verdict sheet (InfeasibleBy steps lines) holds = holds.1
of_verdict sheet (UnboundedBy steps objective lines) holds = holds.1

same_objective : (sheet : Sheet) (verdict other : PathVerdict) → IsTrueOf sheet verdict → IsTrueOf sheet other → SameObjective verdict other
same_objective sheet (OptimalAt steps x) (OptimalAt others y) first second = one_objective sheet.lp x y first second
same_objective sheet (OptimalAt steps x) (CrossedAt k) first second = tt
same_objective sheet (OptimalAt steps x) (InfeasibleBy others lines) first second = tt
same_objective sheet (OptimalAt steps x) (UnboundedBy others y lines) first second = tt
same_objective sheet (CrossedAt k) other first second = tt
same_objective sheet (InfeasibleBy steps lines) other first second = tt
same_objective sheet (UnboundedBy steps x lines) other first second = tt

-- two verdicts that are true of one linear program
pub same_verdict : (sheet : Sheet) (verdict other : PathVerdict) → IsTrueOf sheet verdict → IsTrueOf sheet other → SameVerdict verdict other
same_verdict sheet verdict other first second = (
  one_mark sheet.lp (mark_of verdict) (mark_of other) (of_verdict sheet verdict first)
      (of_verdict sheet other second),
  same_objective sheet verdict other first second,
)

-- ---- openings that are reported

pub record FailsAt (p : LinearProgram) (verdict : PathVerdict) : Type 0 where
  pub of_mark : IsOfMark p (mark_of verdict)
  pub not_best : mark_of verdict ≡ Optimal → ⊥

pub fails_at_first : (sheet : Sheet) (verdict : PathVerdict) → IsTrueAtFirst sheet verdict → FailsAt sheet.lp verdict
fails_at_first sheet (OptimalAt steps objective) holds = absurd holds
fails_at_first sheet (CrossedAt k) holds = record { of_mark = holds.1; not_best = λ e. cc e }
fails_at_first sheet (InfeasibleBy steps lines) holds = record { of_mark = holds.1; not_best = λ e. cc e }
fails_at_first sheet (UnboundedBy steps objective lines) holds = record { of_mark = holds.1; not_best = λ e. cc e }

-- an end of an opening path that isn't optimal
pub fails_by_ending : (sheet : Sheet) (steps : ℕ) (ending : PathEnding) → IsTrueFailure sheet.lp ending → FailsAt sheet.lp (verdict_of sheet steps ending)
fails_by_ending sheet steps (EndsOptimal z y) holds = absurd holds
fails_by_ending sheet steps (EndsCrossed k) holds = record { of_mark = holds.1; not_best = λ e. cc e }
fails_by_ending sheet steps (EndsInfeasible w) holds = record { of_mark = holds.infeasible; not_best = λ e. cc e }
fails_by_ending sheet steps (EndsUnbounded z d) holds = record { of_mark = holds.unbounded; not_best = λ e. cc e }

failing_objective : (p : LinearProgram) (verdict other : PathVerdict) → FailsAt p verdict → SameObjective verdict other
failing_objective p (OptimalAt steps x) other fails = absurd (fails.not_best refl)
failing_objective p (CrossedAt k) other fails = tt
failing_objective p (InfeasibleBy steps lines) other fails = tt
failing_objective p (UnboundedBy steps x lines) other fails = tt

-- two openings that fail in one linear program
pub same_failure : (p : LinearProgram) (verdict other : PathVerdict) → FailsAt p verdict → FailsAt p other → SameVerdict verdict other
same_failure p verdict other first second = (one_mark p (mark_of verdict) (mark_of other) first.of_mark second.of_mark, failing_objective p verdict other first)

-- an opening doesn't fail where a point is best
pub fails_or_best : (p : LinearProgram) (verdict : PathVerdict) (z : Vector) → FailsAt p verdict → IsBest p z → ⊥
fails_or_best p verdict z fails best = fails.not_best (one_mark p (mark_of verdict) Optimal fails.of_mark (z, best))
