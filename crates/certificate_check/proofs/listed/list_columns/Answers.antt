use Rattle.std.proofs.Common.{rules, arith, ◌≡◌, ◌+◌, ◌<◌, ap, ◌∙◌, sym, subst, ℕ, length, take}
use Rattle.exact_values.specs.Rational.{zero_ℚ}
use Rattle.lp_definitions.specs.LinearProgram.{LinearProgram, value_at}
use Rattle.certificate_check.specs.Listed.{AreListed}
use Rattle.certificate_check.proofs.Skips.{listed_zero, listed_more}
use Rattle.certificate_check.proofs.listed.list_columns.Goals as goal

-- a column of value 0 isn't listed
pub loop-j-preserved-then-is_zero : goal.loop-j-preserved-then-is_zero
loop-j-preserved-then-is_zero c =
    let rows : c.lp.inside.rows ≡ c.args.lp.now.rows = ap (λ (p : LinearProgram). p.rows) c.lp.view_is in
    let same : c.args.lp.now.rows + (c.loop-j.j + 1) ≡ c.lp.inside.rows + c.loop-j.j + 1 = omega (arith, rows) in
    let none : c.value_of.result ≡ zero_ℚ = search rules in (
      c.loop-j.invariant.0,
      listed_zero (λ k. value_at c.args.values.now (c.args.lp.now.rows + k)) 0 (take c.loop-j.count c.loop-j.listed) c.loop-j.j
          (ap (value_at c.args.values.now) same ∙ sym c.value_of.ensures ∙ none) c.loop-j.invariant.1,
    )

pub loop-j-preserved : goal.loop-j-preserved
loop-j-preserved c =
    let below : c.loop-j.count < length c.loop-j.listed = search rules in (
      search rules,
      listed_more (λ k. value_at c.args.values.now (c.args.lp.now.rows + k)) c.loop-j.listed c.loop-j.count c.loop-j.j below c.loop-j.invariant.1,
    )

pub returns-clause-listed : goal.returns-clause-listed
returns-clause-listed c =
    let all : c.loop-j.j ≡ c.lp.inside.cols = search rules in
    subst (λ (last : ℕ). AreListed (λ k. value_at c.args.values.now (c.args.lp.now.rows + k)) 0
    (take c.loop-j.count c.loop-j.listed) last) all c.loop-j.invariant.1
