use Rattle.std.proofs.Common.{◌+◌, sym, ap, subst₂, ◌∙◌, arith}
use Rattle.std.specs.Prelude.{is_none, IsTrue, ◌||◌}
use Rattle.exact_values.specs.Rational.{ℚ, ◌*ℚ◌}
use Rattle.frac128.specs.Operations.{refuses}
use Rattle.frac128.specs.declared.Op.TheVariants.{Sub, Mul}
use Rattle.lp_definitions.specs.LinearProgram.{value_at}
use Rattle.lp_laws.proofs.Places.{value_next}
use Rattle.dual_step.proofs.Taken.{taken_past}
use Rattle.dual_step.proofs.prices.take_multiple.Goals as goal

pub loop-k-preserved-then-is_zero : goal.loop-k-preserved-then-is_zero
loop-k-preserved-then-is_zero c =
    let still = value_next c.args.row.now c.loop-k.k c.index-row-k.result (omega arith) c.index-row-k.is ∙ c.is_zero.ensures.0 c.if-is_zero.true in
    record {
      taken =
          taken_past c.args.step (value_at c.args.row.now) (value_at c.args.prices.now) (value_at c.loop-k.prices) c.loop-k.k still
          (c.loop-k.invariant.rest (c.loop-k.k + 1) (omega arith)) c.loop-k.invariant.taken;
      rest = λ j above. c.loop-k.invariant.rest j (omega (arith, above));
    }

pub returns-in_default-clause-refused : goal.returns-in_default-clause-refused
returns-in_default-clause-refused c is =
    let rate_is = sym (value_next c.args.row.now c.loop-k.k c.index-row-k.result (omega arith) c.index-row-k.is) in
    let price_is =
    sym (value_next c.loop-k.prices c.loop-k.k c.index-prices-k.result (omega arith) c.index-prices-k.is)
    ∙ c.loop-k.invariant.rest (c.loop-k.k + 1) (omega arith) in
    record {
      k = c.loop-k.k + 1;
      low = omega arith;
      high = omega arith;
      refused =
          subst₂ (λ (x w : ℚ). IsTrue (refuses Mul c.args.step x || refuses Sub w (c.args.step *ℚ x))) rate_is price_is
          (c.sub_product.ensures.refused (ap is_none c.in_default.is));
    }
