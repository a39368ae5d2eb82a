use Rattle.std.proofs.Common.{rules, ◌≡◌, ◌+◌, ◌++◌, ◌∷◌, [], arith, subst, sym, ◌∙◌, true}
use Rattle.std.specs.Prelude.{filter, ◌&&◌, not, nat_eq, ◌↔◌}
use Rattle.lp_definitions.specs.LinearProgram.{numbers_from}
use Rattle.lp_definitions.specs.Basis.{is_basic, status_of, IsOptimalBasis}
use Rattle.simplex_definitions.specs.Ranges.{with_row}
use Rattle.ranging.specs.Intervals.{IsIn}
use Rattle.ranging.specs.Lists.{ListsTo}
use Rattle.ranging.specs.Tables.{AreEndsOfRow}
use Rattle.ranging.proofs.Distances.{ends_next}
use Rattle.ranging.proofs.AtBasis.{intermediate_is}
use Rattle.ranging.proofs.Listed.{listed_kept, listed_left, row_exact}
use Rattle.ranging.proofs.lists.row_list.Goals as goal

pub loop-k-preserved-then-not-is_intermediate : goal.loop-k-preserved-then-not-is_intermediate
loop-k-preserved-then-not-is_intermediate c =
    listed_left (λ i. is_basic (status_of c.args.at.now.basis.now i) && not (nat_eq i c.args.at.now.lp.now.objective)) c.loop-k.k
    (λ i t. IsOptimalBasis (with_row c.args.at.now.lp.now i t) c.args.at.now.basis.now) c.loop-k.list.items
    (sym c.is_intermediate.ensures ∙ c.if-not-is_intermediate.true) c.loop-k.invariant

pub loop-k-preserved : goal.loop-k-preserved
loop-k-preserved c =
    let rows : c.lp.inside.rows ≡ c.args.at.now.lp.now.matrix.rows = search rules in
    let passes : (is_basic (status_of c.args.at.now.basis.now (c.loop-k.k + 1)) && not (nat_eq (c.loop-k.k + 1) c.args.at.now.lp.now.objective)) ≡ true =
    sym c.is_intermediate.ensures ∙ c.if-not-is_intermediate.false in
    let pushed : c.push.new.self.items ≡ c.loop-k.list.items ++ ((c.loop-k.k + 1, c.row_interval-interval.result) ∷ []) = search rules in
    let found =
    intermediate_is c.args.at.now.lp.now c.args.at.now.basis.now (c.loop-k.k + 1) c.requires.optimum.optimal.is_basis.counted
    (omega arith, omega arith) passes in
    let own : AreEndsOfRow c.args.at.now.lp.now c.args.at.now.basis.now (c.loop-k.k + 1) c.index-found-k.result =
    subst (AreEndsOfRow c.args.at.now.lp.now c.args.at.now.basis.now (c.loop-k.k + 1))
    (ends_next c.args.found.now c.loop-k.k c.index-found-k.result (omega arith) c.index-found-k.is)
    (c.requires.found.each (c.loop-k.k + 1) (omega arith) (omega arith) found.0 found.1) in
    subst (ListsTo
    (filter (λ i. is_basic (status_of c.args.at.now.basis.now i) && not (nat_eq i c.args.at.now.lp.now.objective)) (numbers_from 1 (c.loop-k.k + 1)))
    (λ i t. IsOptimalBasis (with_row c.args.at.now.lp.now i t) c.args.at.now.basis.now)) (sym pushed)
    (listed_kept (λ i. is_basic (status_of c.args.at.now.basis.now i) && not (nat_eq i c.args.at.now.lp.now.objective)) c.loop-k.k
    (λ i t. IsOptimalBasis (with_row c.args.at.now.lp.now i t) c.args.at.now.basis.now) c.loop-k.list.items c.row_interval-interval.result passes
    (λ t. subst (λ v. IsIn v t ↔ IsOptimalBasis (with_row c.args.at.now.lp.now (c.loop-k.k + 1) t) c.args.at.now.basis.now)
    (sym c.row_interval-interval.ensures)
    (row_exact c.args.at.now.lp.now c.args.at.now.basis.now c.requires.optimum.lawful c.requires.optimum.no_change c.requires.optimum.optimal (c.loop-k.k + 1)
    (omega arith, omega arith) c.index-found-k.result own t))
    c.loop-k.invariant)
