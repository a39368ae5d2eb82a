use Rattle.std.proofs.Common.{rules, ◌≡◌, sym, subst, filter, not, length}
use Rattle.exact_values.specs.Rational.{zero_ℚ}
use Rattle.exact_values.specs.Tests.{eq_ℚ}
use Rattle.lp_definitions.specs.LinearProgram.{value_at, numbers_from}
use Rattle.lp_model.specs.Sparse.{AreNonzeroFrom}
use Rattle.lp_model.proofs.NonzeroLists.{all_nonzero, nothing_nonzero}
use Rattle.lp_model.proofs.sparse.SparseVector.put_all.Goals as goal

pub invariant_of-self : goal.invariant_of-self
invariant_of-self c = nothing_nonzero _ _ c.clear-2.ensures.items c.clear.ensures.items

pub invariant_of-self-in-Ok : goal.invariant_of-self-in-Ok
invariant_of-self-in-Ok c =
    let items : c.keep_all_nonzero.new.kept.items ≡ filter (λ k. not (eq_ℚ (value_at c.in_ok-values.values.items k) zero_ℚ))
    (numbers_from 1 (length c.in_ok-values.values.items)) = search rules in
    subst (AreNonzeroFrom c.in_ok-values.values.items 1) (sym items) (all_nonzero c.in_ok-values.values.items)

pub invariant_of-self-in-Err-1 : goal.invariant_of-self-in-Err-1
invariant_of-self-in-Err-1 c = nothing_nonzero _ _ c.clear-2.ensures.items c.clear-in-Err.ensures.items
