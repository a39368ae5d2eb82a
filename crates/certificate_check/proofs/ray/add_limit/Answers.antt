use Rattle.std.proofs.Common.{rules, ◌≡◌, ◌≢◌, ◌∙◌, sym, ap}
use Rattle.std.specs.Prelude.{if◌then◌else◌}
use Rattle.exact_values.specs.Rational.{ℚ, zero_ℚ}
use Rattle.exact_values.specs.Tests.{lt_ℚ}
use Rattle.lp_definitions.specs.LinearProgram.{value_at, lower_of, upper_of}
use Rattle.certificate_check.proofs.Limits.{adds_none, adds_one}
use Rattle.certificate_check.proofs.ray.add_limit.Goals as goal

pub returns-then-is_zero : goal.returns-then-is_zero
returns-then-is_zero c =
    let none : c.value_of-multiplier.result ≡ zero_ℚ = search rules in
    adds_none c.args.lp.now (value_at c.args.ray.now) c.args.sum c.args.k (sym c.value_of-multiplier.ensures ∙ none)

pub returns : goal.returns
returns c =
    let apart : c.value_of-multiplier.result ≢ zero_ℚ = search rules in
    adds_one c.args.lp.now
    (value_at c.args.ray.now) c.add_met.result c.args.sum c.args.k c.value_of-multiplier.result c.limit_met.result c.value_of-multiplier.ensures
    (c.limit_met.ensures
    ∙ ap (λ (m : ℚ). if lt_ℚ zero_ℚ m then upper_of c.args.lp.now c.args.k else lower_of c.args.lp.now c.args.k) c.value_of-multiplier.ensures)
    (λ e. apart (c.value_of-multiplier.ensures ∙ e)) c.add_met.ensures
