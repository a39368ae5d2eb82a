use Rattle.std.proofs.Common.{ltb, arith, rules, sym}
use Rattle.std.proofs.lemmas.List.Sorted.{IsPartitionPoint-from_clause, IsPartitionedBy-ltb}
use Rattle.std.proofs.lemmas.List.Sums.{prefix_len_is}
use Rattle.eta_file.proofs.basic_set.place_of.Goals as goal

pub returns-clause-place : goal.returns-clause-place
returns-clause-place c =
    let parted = IsPartitionedBy-ltb (λ i. i) c.args.listed.now c.args.k c.requires in
    let point = IsPartitionPoint-from_clause (λ i. ltb i c.args.k) _ _ c.partition_point.ensures.partitioned parted (λ a r q k. search rules) in
    sym (prefix_len_is (λ i. ltb i c.args.k) c.args.listed.now c.partition_point.result 0 c.partition_point.ensures.bound
    (λ k below. point.0 k 0 (omega arith) below) (λ below. point.1 c.partition_point.result 0 (omega arith) below))
