use Rattle.std.proofs.Common.{rules, ◌≡◌, ◌∙◌, sym, ap, subst, arith, ℕ, List, ltb, slice_set, ◌-◌}
use Rattle.std.specs.List.{insert}
use Rattle.std.specs.List.Sorted.{IsNonDecreasing}
use Rattle.std.proofs.lemmas.List.Sorted.{IsPartitionPoint-from_clause, IsPartitionedBy-ltb}
use Rattle.std.proofs.lemmas.List.Sums.{prefix_len_is}
use Rattle.lp_model.specs.Sparse.{AreNonzeroFrom}
use Rattle.lp_model.proofs.InsertedLists.{nonzero_ascend, nonzero_inserted, place_of}
use Rattle.lp_model.proofs.sparse.put_one.Goals as goal

pub returns-clause-listed : goal.returns-clause-listed
returns-clause-listed c =
    let lent : c.deref.result.now ≡ c.args.listed.now.items = search rules in
    let ascend : IsNonDecreasing c.deref.result.now =
    subst (λ (ks : List ℕ). IsNonDecreasing ks) (sym lent) (nonzero_ascend c.args.values.now 1 c.args.listed.now.items c.requires.listed) in
    let parted = IsPartitionedBy-ltb (λ i. i) c.deref.result.now c.args.k ascend in
    let point = IsPartitionPoint-from_clause (λ i. ltb i c.args.k) _ _ c.partition_point-place.ensures.partitioned parted (λ a r q k. search rules) in
    let place : place_of c.deref.result.now c.args.k ≡ c.partition_point-place.result =
    prefix_len_is (λ i. ltb i c.args.k) c.deref.result.now c.partition_point-place.result 0 c.partition_point-place.ensures.bound
    (λ k below. point.0 k 0 (omega arith) below) (λ below. point.1 c.partition_point-place.result 0 (omega arith) below) in
    let items : c.insert.new.self.items ≡ insert c.args.listed.now.items c.partition_point-place.result c.args.k = search rules in
    subst (AreNonzeroFrom (slice_set c.args.values.now (c.args.k - 1) c.args.number) 1)
    (sym (items ∙ ap (λ p. insert c.args.listed.now.items p c.args.k) (sym place ∙ ap (λ ks. place_of ks c.args.k) lent)))
    (nonzero_inserted c.args.values.now c.args.number c.args.k c.requires.low c.requires.high c.requires.zero c.requires.some 1 c.args.listed.now.items
    (omega arith) c.requires.low c.requires.listed)
