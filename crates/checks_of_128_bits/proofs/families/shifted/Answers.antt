use Rattle.std.proofs.Common.{rules, vec_len, ◌≡◌, List, length, sym, subst₂, ap, ◌∙◌}
use Rattle.std.specs.Prelude.{Option}
use Rattle.exact_values.specs.Rational.{ℚ}
use Rattle.lp_definitions.specs.LinearProgram.{HasNoLimits, with_limits}
use Rattle.parametric_laws.proofs.OneRhs.{lawful_rhs}
use Rattle.checks_of_128_bits.proofs.families.shifted.Goals as goal

pub with_limits-requires-clause-lower : goal.with_limits-requires-clause-lower
with_limits-requires-clause-lower c =
    let limits = c.in_ok-limits.ensures c.args.shift.now c.args.theta c.in_ok-rows.ensures.1 in
    let counted : vec_len c.in_ok-limits.limits.lower ≡ length c.in_ok-limits.limits.lower.items = search rules in
    counted ∙ ap (λ (xs : List (Option ℚ)). length xs) limits.lower
    ∙ (lawful_rhs c.args.sheet.lp.now c.args.shift.now c.requires.lawful c.args.theta).lower_counted

pub with_limits-requires-clause-upper : goal.with_limits-requires-clause-upper
with_limits-requires-clause-upper c =
    let limits = c.in_ok-limits.ensures c.args.shift.now c.args.theta c.in_ok-rows.ensures.1 in
    let counted : vec_len c.in_ok-limits.limits.upper ≡ length c.in_ok-limits.limits.upper.items = search rules in
    counted ∙ ap (λ (xs : List (Option ℚ)). length xs) limits.upper
    ∙ (lawful_rhs c.args.sheet.lp.now c.args.shift.now c.requires.lawful c.args.theta).upper_counted

pub with_limits-requires-clause-objective : goal.with_limits-requires-clause-objective
with_limits-requires-clause-objective c =
    let limits = c.in_ok-limits.ensures c.args.shift.now c.args.theta c.in_ok-rows.ensures.1 in
    subst₂ (λ (low high : List (Option ℚ)). HasNoLimits (with_limits c.args.sheet.lp.now low high) c.args.sheet.lp.now.objective)
    (sym limits.lower) (sym limits.upper) (lawful_rhs c.args.sheet.lp.now c.args.shift.now c.requires.lawful c.args.theta).objective_free
