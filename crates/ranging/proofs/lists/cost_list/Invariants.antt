use Rattle.std.proofs.Common.{◌+◌}
use Rattle.lp_definitions.specs.LinearProgram.{numbers_from}
use Rattle.lp_definitions.specs.Basis.{IsOptimalBasis}
use Rattle.simplex_definitions.specs.Ranges.{with_cost}
use Rattle.ranging.specs.Lists.{ListsTo}
use Rattle.ranging.proofs.lists.cost_list.Given as goal

abbrev pub invariant-loop-j : goal.invariant-loop-j
invariant-loop-j l = ListsTo (numbers_from (l.at.lp.now.rows + 1) l.j) (λ k t. IsOptimalBasis (with_cost l.at.lp.now k t) l.at.basis.now) l.list.items
