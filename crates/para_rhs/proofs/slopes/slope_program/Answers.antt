use Rattle.std.proofs.Common.{rules, vec_len, ◌≡◌, List, length, sym, subst₂, ap, ◌∙◌}
use Rattle.std.specs.Prelude.{Option}
use Rattle.exact_values.specs.Rational.{ℚ}
use Rattle.lp_definitions.specs.LinearProgram.{HasNoLimits, ChangeIsFree, with_limits}
use Rattle.para_rhs.proofs.SlopePrograms.{lawful_slope}
use Rattle.para_rhs.proofs.slopes.slope_program.Goals as goal

pub with_limits-requires-clause-lower : goal.with_limits-requires-clause-lower
with_limits-requires-clause-lower c =
    let counted : vec_len c.in_ok-lower.lower ≡ length c.in_ok-lower.lower.items = search rules in
    counted ∙ ap (λ (xs : List (Option ℚ)). length xs) c.in_ok-lower.ensures.shifts
    ∙ (lawful_slope c.args.lp.now c.args.shift.now c.shifts_of.ensures.lawful).lower_counted

pub with_limits-requires-clause-upper : goal.with_limits-requires-clause-upper
with_limits-requires-clause-upper c =
    let counted : vec_len c.in_ok-upper.upper ≡ length c.in_ok-upper.upper.items = search rules in
    counted ∙ ap (λ (xs : List (Option ℚ)). length xs) c.in_ok-upper.ensures.shifts
    ∙ (lawful_slope c.args.lp.now c.args.shift.now c.shifts_of.ensures.lawful).upper_counted

pub with_limits-requires-clause-objective : goal.with_limits-requires-clause-objective
with_limits-requires-clause-objective c =
    subst₂ (λ (low high : List (Option ℚ)). HasNoLimits (with_limits c.args.lp.now low high) c.args.lp.now.objective)
    (sym c.in_ok-lower.ensures.shifts) (sym c.in_ok-upper.ensures.shifts)
    (lawful_slope c.args.lp.now c.args.shift.now c.shifts_of.ensures.lawful).objective_free

pub with_limits-requires-clause-change : goal.with_limits-requires-clause-change
with_limits-requires-clause-change c =
    subst₂ (λ (low high : List (Option ℚ)). ChangeIsFree (with_limits c.args.lp.now low high) c.args.lp.now.change)
    (sym c.in_ok-lower.ensures.shifts) (sym c.in_ok-upper.ensures.shifts) (lawful_slope c.args.lp.now c.args.shift.now c.shifts_of.ensures.lawful).change_free
