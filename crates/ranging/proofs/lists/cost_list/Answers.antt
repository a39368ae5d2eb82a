use Rattle.std.proofs.Common.{rules, ◌≡◌, ◌+◌, ◌++◌, ◌∷◌, [], arith, subst, sym}
use Rattle.lp_definitions.specs.LinearProgram.{numbers_from}
use Rattle.lp_definitions.specs.Basis.{IsOptimalBasis}
use Rattle.simplex_definitions.specs.Ranges.{with_cost}
use Rattle.ranging.specs.Lists.{ListsTo}
use Rattle.ranging.proofs.Listed.{listed_next}
use Rattle.ranging.proofs.lists.cost_list.Goals as goal

pub loop-j-preserved : goal.loop-j-preserved
loop-j-preserved c =
    let rows : c.lp.inside.rows ≡ c.args.at.now.lp.now.matrix.rows = search rules in
    let pushed : c.push.new.self.items ≡ c.loop-j.list.items ++ ((c.lp.inside.rows + c.loop-j.j + 1, c.in-Ok.interval) ∷ []) = search rules in
    subst (ListsTo (numbers_from (c.args.at.now.lp.now.matrix.rows + 1) (c.loop-j.j + 1))
    (λ k t. IsOptimalBasis (with_cost c.args.at.now.lp.now k t) c.args.at.now.basis.now)) (sym pushed)
    (listed_next (c.args.at.now.lp.now.matrix.rows + 1) c.loop-j.j (c.lp.inside.rows + c.loop-j.j + 1)
    (λ k t. IsOptimalBasis (with_cost c.args.at.now.lp.now k t) c.args.at.now.basis.now) c.loop-j.list.items c.in-Ok.interval
    (omega (arith, rows)) c.in-Ok.ensures.interval c.loop-j.invariant)
