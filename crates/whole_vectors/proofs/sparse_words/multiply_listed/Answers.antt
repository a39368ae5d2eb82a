use Rattle.std.proofs.Common.{rules, ◌≡◌, ◌<◌, ◌∙◌, length, get_or, arith, refl}
use Rattle.std.proofs.lemmas.Int.{to_z-of_z}
use Rattle.std.specs.Int.{w64}
use Rattle.exact_values.specs.Rational.{◌*ℚ◌}
use Rattle.exact_values.proofs.RingLaws.{zero-add}
use Rattle.whole_vectors.specs.Words.{wholes}
use Rattle.whole_vectors.proofs.Ranked.{kept_next}
use Rattle.whole_vectors.proofs.Listed.{none_changed, changed_next, changed_at_end}
use Rattle.whole_vectors.proofs.sparse_words.multiply_listed.Goals as goal

pub loop-rank-init : goal.loop-rank-init
loop-rank-init c = (λ n out. refl, none_changed (λ x. x *ℚ c.args.by) c.args.listed.now (wholes c.args.numbers.now))

pub loop-rank-preserved : goal.loop-rank-preserved
loop-rank-preserved c =
    let below : c.loop-rank.rank < length c.args.listed.now = omega (arith, c.loop-rank-test.true) in
    let place = get_or c.args.listed.now c.loop-rank.rank 0 in
    let within = c.requires c.loop-rank.rank 0 below in
    rw (to_z-of_z w64 c.in_ok-made.made (search rules)) (
      kept_next c.args.listed.now c.loop-rank.rank place c.args.numbers.now c.loop-rank.numbers c.in_ok-made.made below refl c.loop-rank.invariant.0,
      changed_next (λ x. x *ℚ c.args.by) c.args.listed.now c.loop-rank.rank place c.args.numbers.now c.loop-rank.numbers _ c.in_ok-made.made below refl
          (omega (arith, within, c.loop-rank.auto.numbers)) (search rules)
          (c.in_ok-made.ensures ∙ zero-add _) c.loop-rank.invariant.1,
    )

pub returns-clause-products : goal.returns-clause-products
returns-clause-products c =
    let all : c.loop-rank.rank ≡ length c.args.listed.now = omega (arith, c.loop-rank-test.false, c.loop-rank.auto.rank-end) in
    changed_at_end (λ x. x *ℚ c.args.by) c.args.listed.now c.loop-rank.rank (wholes c.args.numbers.now) (wholes c.loop-rank.numbers) all c.loop-rank.invariant.1
