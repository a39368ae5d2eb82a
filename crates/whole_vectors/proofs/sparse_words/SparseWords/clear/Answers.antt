use Rattle.std.proofs.Common.{rules, ◌-◌, ◌∙◌, ap, get_or, refl}
use Rattle.std.proofs.lemmas.List.{with_items_is}
use Rattle.exact_values.specs.Rational.{zero_ℚ}
use Rattle.whole_vectors.specs.Words.{wholes}
use Rattle.whole_vectors.proofs.Listed.{none_listed, all_changed}
use Rattle.whole_vectors.proofs.sparse_words.SparseWords.clear.Goals as goal

pub invariant_of-self : goal.invariant_of-self
invariant_of-self c =
    let a = c.self.inside in
    let numbers_are = with_items_is a.numbers c.clear_listed.new.numbers (search rules) in
    let cleared = rw (c.deref.ensures.value, c.deref_mut.ensures.value, ← numbers_are) at c.clear_listed.ensures in
    none_listed a.numbers.items _ a.listed.items a.ranks.items c.clear.new.self.items (search rules) c.clear.ensures.items cleared c.self.invariant

pub returns-clause-zero : goal.returns-clause-zero
returns-clause-zero c k =
    let a = c.self.inside in
    let numbers_are = with_items_is a.numbers c.clear_listed.new.numbers (search rules) in
    let cleared = rw (c.deref.ensures.value, c.deref_mut.ensures.value) at c.clear_listed.ensures in
    ap (λ ns. get_or (wholes ns) (k - 1) zero_ℚ) numbers_are
    ∙ all_changed (λ x. zero_ℚ) a.numbers.items a.listed.items a.ranks.items (wholes c.clear_listed.new.numbers) refl c.self.invariant cleared (k - 1)
