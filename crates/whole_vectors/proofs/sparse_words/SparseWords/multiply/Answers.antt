use Rattle.std.proofs.Common.{rules, refl}
use Rattle.std.proofs.lemmas.List.{with_items_is}
use Rattle.exact_values.specs.Rational.{one_ℚ, ◌*ℚ◌}
use Rattle.lp_laws.proofs.Idle.{right_once}
use Rattle.whole_vectors.specs.Words.{wholes}
use Rattle.whole_vectors.specs.Quotients.{AreProducts}
use Rattle.whole_vectors.specs.Ranks.{AreChanged}
use Rattle.whole_vectors.proofs.Over.{same_reported}
use Rattle.whole_vectors.proofs.Ranked.{unit_map}
use Rattle.whole_vectors.proofs.Listed.{still_listed, changed_products}
use Rattle.whole_vectors.proofs.sparse_words.SparseWords.multiply.Goals as goal

pub returns-then-eq-clause-products : goal.returns-then-eq-clause-products
returns-then-eq-clause-products c =
    record { each = λ k. right_once _ c.args.by (same_reported c.args.by one_ℚ c.whole.result c.eq.result c.eq.ensures c.if-eq.true c.whole.ensures) }

pub invariant_of-self : goal.invariant_of-self
invariant_of-self c =
    let a = c.self.inside in
    let numbers_are = with_items_is a.numbers c.multiply_listed.new.numbers (search rules) in
    let kept = rw (c.deref.ensures.value, c.deref_mut.ensures.value, ← numbers_are) at c.multiply_listed.ensures.others in
    still_listed a.numbers.items _ a.listed.items a.ranks.items (search rules) kept c.self.invariant

pub returns-clause-products : goal.returns-clause-products
returns-clause-products c =
    let a = c.self.inside in
    let new = wholes c.multiply_listed.new.numbers in
    let numbers_are = with_items_is a.numbers c.multiply_listed.new.numbers (search rules) in
    rw (← c.self.view_is, numbers_are)
    (unit_map c.multiply_listed.result (AreChanged (λ x. x *ℚ c.args.by) a.listed.items (wholes a.numbers.items) new)
    (AreProducts c.args.by (wholes a.numbers.items) new)
    (changed_products c.args.by c.args.by a.numbers.items a.listed.items a.ranks.items new refl c.self.invariant)
    (rw (c.deref.ensures.value, c.deref_mut.ensures.value) at c.multiply_listed.ensures.products))
