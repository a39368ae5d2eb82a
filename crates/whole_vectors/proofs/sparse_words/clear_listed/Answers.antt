use Rattle.std.proofs.Common.{◌≡◌, ◌<◌, length, get_or, arith, refl, pos}
use Rattle.std.proofs.lemmas.List.{get_or_default}
use Rattle.exact_values.specs.Rational.{zero_ℚ}
use Rattle.whole_vectors.specs.Words.{wholes}
use Rattle.whole_vectors.proofs.Listed.{none_changed, changed_next, changed_at_end}
use Rattle.whole_vectors.proofs.sparse_words.clear_listed.Goals as goal

pub loop-rank-init : goal.loop-rank-init
loop-rank-init c = none_changed (λ x. zero_ℚ) c.args.listed.now (wholes c.args.numbers.now)

pub loop-rank-preserved : goal.loop-rank-preserved
loop-rank-preserved c =
    let below : c.loop-rank.rank < length c.args.listed.now = omega (arith, c.loop-rank-test.true) in
    let place = get_or c.args.listed.now c.loop-rank.rank 0 in
    let within = c.requires c.loop-rank.rank 0 below in
    let inside : place < length c.loop-rank.numbers = omega (arith, within, c.loop-rank.auto.numbers) in
    changed_next (λ x. zero_ℚ) c.args.listed.now c.loop-rank.rank place c.args.numbers.now c.loop-rank.numbers _ (pos 0) below refl inside
    (get_or_default c.loop-rank.numbers place (pos 0) _ inside) refl
    c.loop-rank.invariant

pub returns : goal.returns
returns c =
    let all : c.loop-rank.rank ≡ length c.args.listed.now = omega (arith, c.loop-rank-test.false, c.loop-rank.auto.rank-end) in
    changed_at_end (λ x. zero_ℚ) c.args.listed.now c.loop-rank.rank (wholes c.args.numbers.now) (wholes c.loop-rank.numbers) all c.loop-rank.invariant
