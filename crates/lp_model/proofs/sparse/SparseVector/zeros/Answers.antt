use Rattle.std.proofs.Common.{rules, ◌≡◌, replicate}
use Rattle.exact_values.specs.Rational.{zero_ℚ}
use Rattle.lp_model.proofs.NonzeroLists.{zeros_none}
use Rattle.lp_model.proofs.sparse.SparseVector.zeros.Goals as goal

pub invariant_of-result : goal.invariant_of-result
invariant_of-result c =
    let items : c.in_ok-zero_ratios.field-0.items ≡ replicate c.args.size zero_ℚ = search rules in
    rw (items, c.new.ensures.items) (zeros_none c.args.size)
