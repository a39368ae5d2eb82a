use Rattle.std.specs.Prelude.{filter, ◌&&◌, not, nat_eq}
use Rattle.lp_definitions.specs.LinearProgram.{numbers_from}
use Rattle.lp_definitions.specs.Basis.{is_basic, status_of, IsOptimalBasis}
use Rattle.simplex_definitions.specs.Ranges.{with_row}
use Rattle.ranging.specs.Lists.{ListsTo}
use Rattle.ranging.proofs.lists.row_list.Given as goal

abbrev pub invariant-loop-k : goal.invariant-loop-k
invariant-loop-k l =
    ListsTo (filter (λ i. is_basic (status_of l.at.basis.now i) && not (nat_eq i l.at.lp.now.objective)) (numbers_from 1 l.k))
    (λ i t. IsOptimalBasis (with_row l.at.lp.now i t) l.at.basis.now) l.list.items
