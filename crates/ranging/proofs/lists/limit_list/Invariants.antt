use Rattle.std.specs.Prelude.{filter}
use Rattle.lp_definitions.specs.LinearProgram.{numbers_from}
use Rattle.lp_definitions.specs.Basis.{status_of, IsOptimalBasis}
use Rattle.simplex_definitions.specs.Ranges.{with_limit, stands_at_limit}
use Rattle.ranging.specs.Lists.{ListsTo}
use Rattle.ranging.proofs.lists.limit_list.Given as goal

abbrev pub invariant-loop-k : goal.invariant-loop-k
invariant-loop-k l =
    ListsTo (filter (λ k. stands_at_limit (status_of l.at.basis.now k)) (numbers_from 1 l.k))
    (λ k t. IsOptimalBasis (with_limit l.at.lp.now l.at.basis.now k t) l.at.basis.now) l.list.items
