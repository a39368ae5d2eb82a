use Rattle.std.proofs.Common.{rules, ◌≡◌, ◌-◌, ◌∙◌, ap, sym, to_z, of_z}
use Rattle.std.specs.Int.{w64}
use Rattle.std.proofs.lemmas.Int.{to_z-of_z}
use Rattle.std.proofs.lemmas.List.{map-set, with_items_is}
use Rattle.exact_values.specs.Rational.{whole}
use Rattle.whole_vectors.proofs.Ranked.{put_same}
use Rattle.whole_vectors.proofs.Listed.{more_listed, put_listed}
use Rattle.whole_vectors.proofs.sparse_words.SparseWords.put.Goals as goal

pub invariant_of-self : goal.invariant_of-self
invariant_of-self c =
    let a = c.self.inside in
    more_listed a.numbers.items a.listed.items a.ranks.items c.deref_mut.result.now c.enlist.new.listed.items c.enlist.new.ranks _ c.deref_mut.ensures.value
    (with_items_is a.ranks c.enlist.new.ranks (search rules))
    c.enlist.auto.ranks c.enlist.ensures.ranked c.enlist.ensures.others c.self.invariant

pub invariant_of-self-2 : goal.invariant_of-self-2
invariant_of-self-2 c =
    let a = c.self.inside in
    let ranks_are = with_items_is a.ranks c.enlist.new.ranks (search rules) in
    put_listed a.numbers.items (c.args.k - 1) (to_z w64 (of_z w64 c.args.n)) c.enlist.new.listed.items c.enlist.new.ranks _ ranks_are c.in_ok-enlist.ensures.own
    (more_listed a.numbers.items a.listed.items a.ranks.items c.deref_mut.result.now c.enlist.new.listed.items c.enlist.new.ranks _ c.deref_mut.ensures.value
    ranks_are
    c.enlist.auto.ranks c.enlist.ensures.ranked c.enlist.ensures.others c.self.invariant)

pub returns-clause-number : goal.returns-clause-number
returns-clause-number c = rw (← c.self.view_is, to_z-of_z w64 c.args.n c.ranges.n) (map-set whole c.self.inside.numbers.items (c.args.k - 1) c.args.n)

pub returns-then-index-n-clause-number : goal.returns-then-index-n-clause-number
returns-then-index-n-clause-number c =
    let x = c.index.result.now in
    let same : x ≡ c.args.n = sym (to_z-of_z w64 x (search rules)) ∙ ap (to_z w64) c.if-index-n.true ∙ to_z-of_z w64 c.args.n c.ranges.n in
    rw (← c.self.view_is) (put_same c.self.inside.numbers.items (c.args.k - 1) x c.args.n c.index.ensures same)
