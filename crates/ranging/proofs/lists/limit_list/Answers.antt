use Rattle.std.proofs.Common.{rules, ◌≡◌, ◌+◌, ◌++◌, ◌∷◌, [], arith, subst, sym, ◌∙◌, true}
use Rattle.std.specs.Prelude.{filter}
use Rattle.lp_definitions.specs.LinearProgram.{numbers_from, value_at, size}
use Rattle.lp_definitions.specs.Basis.{status_of, IsOptimalBasis}
use Rattle.simplex_definitions.specs.Ranges.{with_limit, stands_at_limit}
use Rattle.ranging.specs.Intervals.{IsIn}
use Rattle.ranging.specs.Lists.{ListsTo}
use Rattle.ranging.specs.Tables.{AreLimitEnds}
use Rattle.ranging.proofs.Distances.{ends_next}
use Rattle.ranging.proofs.Listed.{listed_kept, listed_left}
use Rattle.ranging.proofs.Items.{limit_exact, limit_sum_refused}
use Rattle.ranging.proofs.lists.limit_list.Goals as goal
use Rattle.lp_laws.proofs.Places.{value_next}

pub loop-k-preserved-then-not-at_limit : goal.loop-k-preserved-then-not-at_limit
loop-k-preserved-then-not-at_limit c =
    listed_left (λ k. stands_at_limit (status_of c.args.at.now.basis.now k)) c.loop-k.k
    (λ k t. IsOptimalBasis (with_limit c.args.at.now.lp.now c.args.at.now.basis.now k t) c.args.at.now.basis.now) c.loop-k.list.items
    (sym c.at_limit.ensures ∙ c.if-not-at_limit.true) c.loop-k.invariant

pub returns-in-Err-clause-overflow : goal.returns-in-Err-clause-overflow
returns-in-Err-clause-overflow c before after =
    let passes : stands_at_limit (status_of c.args.at.now.basis.now (c.loop-k.k + 1)) ≡ true = sym c.at_limit.ensures ∙ c.if-not-at_limit.false in
    let own : AreLimitEnds c.args.at.now.lp.now c.args.at.now.basis.now (value_at c.args.at.now.point.now) (size c.args.at.now.lp.now.matrix)
    (c.loop-k.k + 1) c.index-ends-k.result =
    subst (AreLimitEnds c.args.at.now.lp.now c.args.at.now.basis.now (value_at c.args.at.now.point.now) (size c.args.at.now.lp.now.matrix) (c.loop-k.k + 1))
    (ends_next c.args.ends.now c.loop-k.k c.index-ends-k.result (omega arith) c.index-ends-k.is)
    (c.requires.ends.each (c.loop-k.k + 1) (omega arith, omega arith) passes) in
    limit_sum_refused c.args.at.now.lp.now c.args.at.now.basis.now c.requires.optimum.lawful c.requires.optimum.no_change c.requires.optimum.optimal
    (value_at c.args.at.now.point.now) c.requires.optimum.point (c.loop-k.k + 1) (omega arith, omega arith) passes c.index-ends-k.result own
    c.index-point-k.result c.in-Err.evidence
    (sym (value_next c.args.at.now.point.now c.loop-k.k c.index-point-k.result
    (omega (arith, c.requires.optimum.point_places)) c.index-point-k.is)) c.in-Err.ensures.refused before after

pub loop-k-preserved : goal.loop-k-preserved
loop-k-preserved c =
    let passes : stands_at_limit (status_of c.args.at.now.basis.now (c.loop-k.k + 1)) ≡ true = sym c.at_limit.ensures ∙ c.if-not-at_limit.false in
    let pushed : c.push.new.self.items ≡ c.loop-k.list.items ++ ((c.loop-k.k + 1, c.in-Ok.interval) ∷ []) = search rules in
    let own : AreLimitEnds c.args.at.now.lp.now c.args.at.now.basis.now (value_at c.args.at.now.point.now) (size c.args.at.now.lp.now.matrix)
    (c.loop-k.k + 1) c.index-ends-k.result =
    subst (AreLimitEnds c.args.at.now.lp.now c.args.at.now.basis.now (value_at c.args.at.now.point.now) (size c.args.at.now.lp.now.matrix) (c.loop-k.k + 1))
    (ends_next c.args.ends.now c.loop-k.k c.index-ends-k.result (omega arith) c.index-ends-k.is)
    (c.requires.ends.each (c.loop-k.k + 1) (omega arith, omega arith) passes) in
    subst (ListsTo (filter (λ k. stands_at_limit (status_of c.args.at.now.basis.now k)) (numbers_from 1 (c.loop-k.k + 1)))
    (λ k t. IsOptimalBasis (with_limit c.args.at.now.lp.now c.args.at.now.basis.now k t) c.args.at.now.basis.now)) (sym pushed)
    (listed_kept (λ k. stands_at_limit (status_of c.args.at.now.basis.now k)) c.loop-k.k
    (λ k t. IsOptimalBasis
    (with_limit c.args.at.now.lp.now c.args.at.now.basis.now k t) c.args.at.now.basis.now) c.loop-k.list.items c.in-Ok.interval passes
    (λ t. limit_exact c.args.at.now.lp.now c.args.at.now.basis.now c.requires.optimum.lawful c.requires.optimum.no_change c.requires.optimum.optimal
    (value_at c.args.at.now.point.now) c.requires.optimum.point (c.loop-k.k + 1) (omega arith, omega arith) passes c.index-ends-k.result own
    c.index-point-k.result t (IsIn c.in-Ok.interval t)
    (sym (value_next c.args.at.now.point.now c.loop-k.k c.index-point-k.result (omega (arith, c.requires.optimum.point_places)) c.index-point-k.is))
    (c.in-Ok.ensures.interval t))
    c.loop-k.invariant)
