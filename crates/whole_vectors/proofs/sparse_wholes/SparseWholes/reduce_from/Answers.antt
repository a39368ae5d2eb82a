use Rattle.std.proofs.Common.{rules, ◌≡◌, ◌≢◌, ◌∙◌, sym, subst, pos, to_z, of_z}
use Rattle.std.specs.Int.{w128}
use Rattle.std.specs.Prelude.{All, ◌≤ℤ◌}
use Rattle.std.proofs.lemmas.List.{with_items_is}
use Rattle.exact_values.specs.Rational.{whole, zero_ℚ, ◌/ℚ◌}
use Rattle.frac128.specs.Terms.{Fits}
use Rattle.whole_vectors.specs.Words.{wholes}
use Rattle.whole_vectors.specs.Quotients.{IsSameOver}
use Rattle.whole_vectors.proofs.Over.{some_ok, reduced}
use Rattle.whole_vectors.proofs.Listed.{still_listed, changed_quotients, whole_apart}
use Rattle.whole_vectors.proofs.sparse_wholes.SparseWholes.reduce_from.Goals as goal

pub invariant_of-self : goal.invariant_of-self
invariant_of-self c =
    let a = c.self.inside in
    let numbers_are = with_items_is a.numbers c.take_out.new.numbers (search rules) in
    let kept = rw (c.deref-3.ensures.value, c.deref_mut.ensures.value, ← numbers_are) at c.take_out.ensures.others in
    record {
      listed = still_listed a.numbers.items _ a.listed.items a.ranks.items (search rules) kept c.self.invariant.listed;
      fit = subst (λ ns. All Fits ns) (sym numbers_are) c.take_out.ensures.fit;
    }

pub invariant_of-self-2 : goal.invariant_of-self-2
invariant_of-self-2 c =
    let a = c.self.inside in
    let numbers_are = with_items_is a.numbers c.take_out.new.numbers (search rules) in
    let kept = rw (c.deref-3.ensures.value, c.deref_mut.ensures.value, ← numbers_are) at c.take_out.ensures.others in
    record {
      listed = still_listed a.numbers.items _ a.listed.items a.ranks.items (search rules) kept c.self.invariant.listed;
      fit = subst (λ ns. All Fits ns) (sym numbers_are) c.take_out.ensures.fit;
    }

pub div-requires : goal.div-requires
div-requires c none =
    let read = to_z w128 (of_z w128 c.in_ok-factor.factor) in
    let some : pos 1 ≤ℤ read = search rules in
    whole_apart read some (sym c.whole.ensures ∙ none)

pub returns-clause-same : goal.returns-clause-same
returns-clause-same c =
    let a = c.self.inside in
    let new = wholes c.take_out.new.numbers in
    let numbers_are = with_items_is a.numbers c.take_out.new.numbers (search rules) in
    let read = to_z w128 (of_z w128 c.in_ok-factor.factor) in
    let some : pos 1 ≤ℤ read = search rules in
    let apart : c.whole.result ≢ zero_ℚ = (λ none. whole_apart read some (sym c.whole.ensures ∙ none)) in
    let changed = rw (c.deref-3.ensures.value, c.deref_mut.ensures.value) at c.in_ok-take_out.ensures.quotients in
    let divided =
    changed_quotients c.whole.result (whole read) a.numbers.items a.listed.items a.ranks.items new (sym c.whole.ensures) c.self.invariant.listed changed in
    rw (← c.self.view_is, numbers_are)
    (some_ok c.ok-2.result c.div.result (λ v. v ≡ c.args.denominator /ℚ c.whole.result)
    (λ v. IsSameOver c.args.denominator (wholes a.numbers.items) v new) c.ok-2.ensures.value
    (λ v is. reduced c.args.denominator v c.whole.result (wholes a.numbers.items) new c.requires.apart apart is divided) c.div.ensures.value)
