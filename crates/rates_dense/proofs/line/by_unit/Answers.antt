use Rattle.std.proofs.Common.{◌∙◌, negsuc}
use Rattle.exact_values.specs.Rational.{whole, one_ℚ}
use Rattle.rates_dense.proofs.Values.{same_reported, times_minus_one, over_minus_one}
use Rattle.rates_dense.proofs.line.by_unit.Goals as goal
use Rattle.lp_laws.proofs.Idle.{right_once, over_once}

pub returns-then-eq-clause-product : goal.returns-then-eq-clause-product
returns-then-eq-clause-product c =
    right_once c.args.x c.args.factor (same_reported c.args.factor one_ℚ c.whole.result c.eq.result c.eq.ensures c.if-eq.true c.whole.ensures)

pub returns-then-eq-clause-quotient : goal.returns-then-eq-clause-quotient
returns-then-eq-clause-quotient c =
    over_once c.args.x c.args.factor (same_reported c.args.factor one_ℚ c.whole.result c.eq.result c.eq.ensures c.if-eq.true c.whole.ensures)

pub returns-then-eq-2-clause-product : goal.returns-then-eq-2-clause-product
returns-then-eq-2-clause-product c =
    c.neg.ensures
    ∙ times_minus_one c.args.x c.args.factor
    (same_reported c.args.factor (whole (negsuc 0)) c.whole-else-eq.result c.eq-else-eq.result c.eq-else-eq.ensures c.if-eq-2.true c.whole-else-eq.ensures)

pub returns-then-eq-2-clause-quotient : goal.returns-then-eq-2-clause-quotient
returns-then-eq-2-clause-quotient c =
    c.neg.ensures
    ∙ over_minus_one c.args.x c.args.factor
    (same_reported c.args.factor (whole (negsuc 0)) c.whole-else-eq.result c.eq-else-eq.result c.eq-else-eq.ensures c.if-eq-2.true c.whole-else-eq.ensures)
