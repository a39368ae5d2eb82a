use Rattle.std.proofs.Common.{rules, ◌≡◌, arith, refl}
use Rattle.exact_values.specs.Rational.{zero_ℚ}
use Rattle.lp_model.proofs.NonzeroLists.{begun, item_within, item_cleared, cleared_to_end}
use Rattle.lp_model.proofs.sparse.clear.Goals as goal

pub loop-k-init : goal.loop-k-init
loop-k-init c = (refl, begun c.args.values.now c.args.listed.now c.requires)

pub overflow_sub-k : goal.overflow_sub-k
overflow_sub-k c = (item_within c.args.values.now c.loop-k.values c.args.listed.now c.loop-k.k-index c.loop-k-test.true c.loop-k.invariant.1).0

pub bounds-values-k : goal.bounds-values-k
bounds-values-k c =
    let within = item_within c.args.values.now c.loop-k.values c.args.listed.now c.loop-k.k-index c.loop-k-test.true c.loop-k.invariant.1 in
    omega (arith, within.0, within.1, c.loop-k.invariant.0)

pub loop-k-preserved : goal.loop-k-preserved
loop-k-preserved c =
    let zero : c.of.result ≡ zero_ℚ = search rules in (
      search rules,
      item_cleared c.args.values.now c.loop-k.values c.args.listed.now c.loop-k.k-index c.loop-k-test.true c.of.result zero
          c.loop-k.invariant.0 c.loop-k.invariant.1,
    )

pub returns : goal.returns
returns c =
    record {
      zero = cleared_to_end c.args.values.now c.loop-k.values c.args.listed.now c.loop-k.k-index
          (omega (arith, c.loop-k-test.false)) c.loop-k.invariant.1;
    }
