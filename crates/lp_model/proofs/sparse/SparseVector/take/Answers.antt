use Rattle.std.proofs.Common.{◌∙◌, ap}
use Rattle.lp_model.proofs.NonzeroLists.{nothing_nonzero}
use Rattle.lp_model.proofs.sparse.SparseVector.take.Goals as goal

pub invariant_of-self : goal.invariant_of-self
invariant_of-self c = nothing_nonzero _ _ (ap (λ v. v.items) c.replace.ensures.after ∙ c.new.ensures.items) c.clear-2.ensures.items
