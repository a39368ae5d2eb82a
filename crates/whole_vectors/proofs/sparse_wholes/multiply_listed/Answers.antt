use Rattle.std.proofs.Common.{rules, ◌≡◌, ◌<◌, length, get_or, arith, refl, sym, subst, ℤ}
use Rattle.std.proofs.lemmas.Int.{to_z-of_z}
use Rattle.std.specs.Int.{w128}
use Rattle.std.proofs.lemmas.List.Elements.{All-set}
use Rattle.exact_values.specs.Rational.{whole, ◌*ℚ◌}
use Rattle.frac128.specs.Terms.{Fits}
use Rattle.whole_vectors.specs.Words.{wholes}
use Rattle.whole_vectors.proofs.Ranked.{kept_next}
use Rattle.whole_vectors.proofs.Listed.{none_changed, changed_next, changed_at_end, whole_product_is}
use Rattle.whole_vectors.proofs.sparse_wholes.multiply_listed.Goals as goal

pub loop-rank-init : goal.loop-rank-init
loop-rank-init c =
    rw (to_z-of_z w128 c.args.by c.ranges.by)
    (c.requires.fit, (λ n out. refl, none_changed (λ x. x *ℚ whole c.args.by) c.args.listed.now (wholes c.args.numbers.now)))

pub loop-rank-preserved : goal.loop-rank-preserved
loop-rank-preserved c =
    let below : c.loop-rank.rank < length c.args.listed.now = omega (arith, c.loop-rank-test.true) in
    let place = get_or c.args.listed.now c.loop-rank.rank 0 in
    let within = c.requires.within c.loop-rank.rank 0 below in
    let made = c.in_ok-made.made in
    let so_far = rw (to_z-of_z w128 c.args.by c.ranges.by) at c.loop-rank.invariant in
    let product = rw (to_z-of_z w128 c.args.by c.ranges.by) at c.in_ok-made.ensures.1 in
    rw (to_z-of_z w128 made (search rules), to_z-of_z w128 c.args.by c.ranges.by) (
      All-set Fits c.loop-rank.numbers place made (subst (λ (z : ℤ). Fits z) (sym c.in_ok-made.ensures.1) c.in_ok-made.ensures.0) so_far.0,
      (
        kept_next c.args.listed.now c.loop-rank.rank place c.args.numbers.now c.loop-rank.numbers made below refl so_far.1.0,
        changed_next (λ x. x *ℚ whole c.args.by) c.args.listed.now c.loop-rank.rank place c.args.numbers.now c.loop-rank.numbers _ made below refl
            (omega (arith, within, c.loop-rank.auto.numbers)) (search rules)
            (whole_product_is _ c.args.by made product) so_far.1.1,
      ),
    )

pub returns-clause-products : goal.returns-clause-products
returns-clause-products c =
    let all : c.loop-rank.rank ≡ length c.args.listed.now = omega (arith, c.loop-rank-test.false, c.loop-rank.auto.rank-end) in
    changed_at_end (λ x. x *ℚ whole c.args.by) c.args.listed.now c.loop-rank.rank (wholes c.args.numbers.now) (wholes c.loop-rank.numbers) all
    (rw (to_z-of_z w128 c.args.by c.ranges.by) at c.loop-rank.invariant.1.1)
