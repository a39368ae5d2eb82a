use Rattle.std.proofs.Common.{rules, ◌≡◌, ◌<◌, length, get_or, arith, subst, refl}
use Rattle.exact_values.specs.Rational.{zero_ℚ, ◌/ℚ◌}
use Rattle.whole_vectors.specs.Words.{wholes}
use Rattle.whole_vectors.specs.Ranks.{AreWritten}
use Rattle.whole_vectors.proofs.Ranked.{none_written, divided_next}
use Rattle.whole_vectors.proofs.sparse_words.divide_listed.Goals as goal

pub loop-rank-init : goal.loop-rank-init
loop-rank-init c = λ rank ranked. none_written rank c.args.listed.now (λ n. get_or (wholes c.args.numbers.now) n zero_ℚ /ℚ c.args.by) c.args.out.now

pub loop-rank-preserved : goal.loop-rank-preserved
loop-rank-preserved c =
    let below : c.loop-rank.rank < length c.args.listed.now = omega (arith, c.loop-rank-test.true) in
    let place = get_or c.args.listed.now c.loop-rank.rank 0 in
    let within = c.requires.within c.loop-rank.rank 0 below in
    divided_next c.args.by c.args.listed.now c.loop-rank.rank place c.args.numbers.now c.args.out.now c.loop-rank.out _ c.in_ok-out.field-0 below refl within
    (omega (arith, within, c.requires.places, c.loop-rank.auto.out)) (search rules)
    c.in_ok-out.ensures c.loop-rank.invariant

pub returns : goal.returns
returns c = λ rank ranked.
    let all : c.loop-rank.rank ≡ length c.args.listed.now = omega (arith, c.loop-rank-test.false, c.loop-rank.auto.rank-end) in
    subst (λ i. AreWritten rank c.args.listed.now (λ n. get_or (wholes c.args.numbers.now) n zero_ℚ /ℚ c.args.by) i c.args.out.now c.loop-rank.out) all
    (c.loop-rank.invariant rank ranked)
