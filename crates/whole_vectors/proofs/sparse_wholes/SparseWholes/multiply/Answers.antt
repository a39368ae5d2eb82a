use Rattle.std.proofs.Common.{rules, ◌≡◌, ◌∙◌, ap, sym, subst, pos, to_z, of_z}
use Rattle.std.specs.Int.{w128}
use Rattle.std.specs.Prelude.{All}
use Rattle.std.proofs.lemmas.List.{with_items_is}
use Rattle.exact_values.specs.Rational.{whole, one_ℚ, ◌*ℚ◌}
use Rattle.frac128.specs.Terms.{Fits}
use Rattle.frac128.proofs.Parts.{read_fitting}
use Rattle.lp_laws.proofs.Idle.{right_once}
use Rattle.whole_vectors.specs.Words.{wholes}
use Rattle.whole_vectors.specs.Quotients.{AreProducts}
use Rattle.whole_vectors.specs.Ranks.{AreChanged}
use Rattle.whole_vectors.proofs.Ranked.{unit_map}
use Rattle.whole_vectors.proofs.Listed.{listed_within, still_listed, changed_products}
use Rattle.whole_vectors.proofs.sparse_wholes.SparseWholes.multiply.Goals as goal

pub returns-then-factor-eq1-clause-products : goal.returns-then-factor-eq1-clause-products
returns-then-factor-eq1-clause-products c =
    let factor = c.in_ok-factor.factor in
    let once : factor ≡ pos 1 = sym (read_fitting factor c.in_ok-factor.ensures.fits) ∙ ap (to_z w128) c.if-factor-eq1.true in
    let by_is : c.args.by ≡ one_ℚ = sym c.in_ok-factor.ensures.value ∙ ap whole once in
    record { each = λ k. right_once _ c.args.by by_is }

pub multiply_listed-requires-clause-within : goal.multiply_listed-requires-clause-within
multiply_listed-requires-clause-within c =
    let a = c.self.inside in
    listed_within a.numbers.items c.deref_mut.result.now a.listed.items c.deref.result.now a.ranks.items c.deref_mut.ensures.value c.deref.ensures.value
    c.self.invariant.listed

pub invariant_of-self : goal.invariant_of-self
invariant_of-self c =
    let a = c.self.inside in
    let numbers_are = with_items_is a.numbers c.multiply_listed.new.numbers (search rules) in
    let kept = rw (c.deref.ensures.value, c.deref_mut.ensures.value, ← numbers_are) at c.multiply_listed.ensures.others in
    record {
      listed = still_listed a.numbers.items _ a.listed.items a.ranks.items (search rules) kept c.self.invariant.listed;
      fit = subst (λ ns. All Fits ns) (sym numbers_are) c.multiply_listed.ensures.fit;
    }

pub returns-clause-products : goal.returns-clause-products
returns-clause-products c =
    let a = c.self.inside in
    let factor = c.in_ok-factor.factor in
    let new = wholes c.multiply_listed.new.numbers in
    let numbers_are = with_items_is a.numbers c.multiply_listed.new.numbers (search rules) in
    let read = whole (to_z w128 (of_z w128 factor)) in
    let is : read ≡ c.args.by = ap whole (read_fitting factor c.in_ok-factor.ensures.fits) ∙ c.in_ok-factor.ensures.value in
    rw (← c.self.view_is, numbers_are)
    (unit_map c.multiply_listed.result (AreChanged (λ x. x *ℚ read) a.listed.items (wholes a.numbers.items) new)
    (AreProducts c.args.by (wholes a.numbers.items) new)
    (changed_products c.args.by read a.numbers.items a.listed.items a.ranks.items new is c.self.invariant.listed)
    (rw (c.deref.ensures.value, c.deref_mut.ensures.value) at c.multiply_listed.ensures.products))
