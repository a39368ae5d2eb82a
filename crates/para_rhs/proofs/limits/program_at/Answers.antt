use Rattle.std.proofs.Common.{rules, vec_len, ◌≡◌, List, length, sym, subst₂, ap, ◌∙◌}
use Rattle.std.specs.Prelude.{Option}
use Rattle.exact_values.specs.Rational.{ℚ}
use Rattle.lp_definitions.specs.LinearProgram.{HasNoLimits, ChangeIsFree, with_limits}
use Rattle.parametric_laws.proofs.OneRhs.{lawful_rhs}
use Rattle.para_rhs.proofs.limits.program_at.Goals as goal

pub with_limits-requires-clause-lower : goal.with_limits-requires-clause-lower
with_limits-requires-clause-lower c =
    let counted : vec_len c.in_ok-lower.lower ≡ length c.in_ok-lower.lower.items = search rules in
    counted ∙ ap (λ (xs : List (Option ℚ)). length xs) c.in_ok-lower.ensures.limits
    ∙ (lawful_rhs c.args.lp.now c.args.shift.now c.limits_at.ensures.lawful c.args.theta).lower_counted

pub with_limits-requires-clause-upper : goal.with_limits-requires-clause-upper
with_limits-requires-clause-upper c =
    let counted : vec_len c.in_ok-upper.upper ≡ length c.in_ok-upper.upper.items = search rules in
    counted ∙ ap (λ (xs : List (Option ℚ)). length xs) c.in_ok-upper.ensures.limits
    ∙ (lawful_rhs c.args.lp.now c.args.shift.now c.limits_at.ensures.lawful c.args.theta).upper_counted

pub with_limits-requires-clause-objective : goal.with_limits-requires-clause-objective
with_limits-requires-clause-objective c =
    subst₂ (λ (low high : List (Option ℚ)). HasNoLimits (with_limits c.args.lp.now low high) c.args.lp.now.objective)
    (sym c.in_ok-lower.ensures.limits) (sym c.in_ok-upper.ensures.limits)
    (lawful_rhs c.args.lp.now c.args.shift.now c.limits_at.ensures.lawful c.args.theta).objective_free

pub with_limits-requires-clause-change : goal.with_limits-requires-clause-change
with_limits-requires-clause-change c =
    subst₂ (λ (low high : List (Option ℚ)). ChangeIsFree (with_limits c.args.lp.now low high) c.args.lp.now.change)
    (sym c.in_ok-lower.ensures.limits) (sym c.in_ok-upper.ensures.limits)
    (lawful_rhs c.args.lp.now c.args.shift.now c.limits_at.ensures.lawful c.args.theta).change_free
