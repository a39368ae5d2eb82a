use Rattle.std.proofs.Common.{rules, ◌≡◌, ◌≢◌, ◌∙◌, sym, ap, arith}
use Rattle.std.specs.Prelude.{if◌then◌else◌}
use Rattle.exact_values.specs.Rational.{ℚ, zero_ℚ}
use Rattle.exact_values.specs.Tests.{lt_ℚ}
use Rattle.lp_definitions.specs.LinearProgram.{value_at, lower_of, upper_of}
use Rattle.lp_laws.proofs.Places.{value_read}
use Rattle.certificate_check.proofs.Limits.{adds_none}
use Rattle.checks_of_128_bits.proofs.ClosingSums.{adds_made}
use Rattle.checks_of_128_bits.proofs.closing_tests.plus_limit.Goals as goal

pub returns-then-is_zero : goal.returns-then-is_zero
returns-then-is_zero c =
    let ray = c.args.ray.now in
    let is : c.index-ray-k.result ≡ value_at ray c.args.k = value_read ray c.args.k c.index-ray-k.result (omega arith) c.index-ray-k.is in
    let none : c.index-ray-k.result ≡ zero_ℚ = search rules in
    adds_none c.args.lp.now (value_at ray) c.args.sum c.args.k (sym is ∙ none)

pub returns : goal.returns
returns c =
    let ray = c.args.ray.now in
    let p = c.args.lp.now in
    let is : c.index-ray-k.result ≡ value_at ray c.args.k = value_read ray c.args.k c.index-ray-k.result (omega arith) c.index-ray-k.is in
    let apart : c.index-ray-k.result ≢ zero_ℚ = search rules in
    adds_made p (value_at ray) c.args.sum c.args.k c.index-ray-k.result c.limit_met.result is
    (c.limit_met.ensures ∙ ap (λ (m : ℚ). if lt_ℚ zero_ℚ m then upper_of p c.args.k else lower_of p c.args.k) is)
    (λ e. apart (is ∙ e)) c.plus_met.result c.plus_met.ensures
