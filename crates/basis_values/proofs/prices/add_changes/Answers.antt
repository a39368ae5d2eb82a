use Rattle.std.proofs.Common.{◌≡◌, ◌+◌, Err, rules, sym, ◌∙◌, subst, arith}
use Rattle.exact_values.specs.Rational.{ℚ}
use Rattle.lp_definitions.specs.LinearProgram.{value_at}
use Rattle.basis_values.specs.Formulas.{IsTermRefusal}
use Rattle.basis_values.specs.Prices.{price_formula}
use Rattle.basis_values.specs.declared.formula.Formula.{Formula}
use Rattle.basis_values.proofs.prices.add_changes.Goals as goal
use Rattle.lp_laws.proofs.Places.{value_next}

pub returns-in_err-price-clause-refused : goal.returns-in_err-price-clause-refused
returns-in_err-price-clause-refused c =
    let is_err : c.from_residual.result ≡ Err c.in_err-price.field-0.0 = search rules in
    let rate_is =
    sym (value_next c.loop-k.prices c.loop-k.k c.index-prices-k.result (omega arith) c.index-prices-k.is)
    ∙ c.loop-k.invariant.rest (c.loop-k.k + 1) (omega arith) in
    let change_is = sym (value_next c.args.change.now c.loop-k.k c.index-change-k.result (omega arith) c.index-change-k.is) in
    rw is_err (record {
      j = c.loop-k.k + 1;
      low = omega arith;
      high = omega arith;
      changes = λ e. c.in_err-price.ensures.needed (change_is ∙ e);
      refused =
          subst (λ (x : ℚ). IsTermRefusal (price_formula (c.loop-k.k + 1) c.args.theta)
          (value_at c.args.prices.now (c.loop-k.k + 1)) c.args.theta x c.in_err-price.field-0.0) change_is
          (subst (λ (x : ℚ). IsTermRefusal
          (price_formula (c.loop-k.k + 1) c.args.theta) x c.args.theta c.index-change-k.result c.in_err-price.field-0.0) rate_is
          (subst (λ (f : Formula). IsTermRefusal f c.index-prices-k.result c.args.theta c.index-change-k.result c.in_err-price.field-0.0) c.formula.ensures
          c.in_err-price.ensures.refused));
    })
