use Rattle.std.proofs.Common.{◌≡◌, sym, ◌∙◌, ap, ap₂, pos, to_z, of_z, subst}
use Rattle.std.specs.Int.{w64, w128}
use Rattle.std.specs.Prelude.{◌*ℤ◌}
use Rattle.std.proofs.lemmas.Int.{to_z-of_z}
use Rattle.exact_values.specs.Rational.{whole, ◌+ℚ◌, ◌*ℚ◌}
use Rattle.exact_values.proofs.RingLaws.{zero-mul, add-zero}
use Rattle.frac128.specs.Terms.{Fits}
use Rattle.frac128.proofs.Parts.{read_fitting}
use Rattle.whole_vectors.proofs.Words.{summed, word_of, read_small}
use Rattle.whole_vectors.proofs.whole_numbers.whole_sum.Goals as goal

pub returns-then-x-eq0-clause-value : goal.returns-then-x-eq0-clause-value
returns-then-x-eq0-clause-value c =
    let none : c.args.x ≡ pos 0 = sym (to_z-of_z w128 c.args.x c.ranges.x) ∙ ap (to_z w128) c.if-x-eq0.true in
    ap whole (read_fitting c.args.sum c.requires.fits)
    ∙ sym (ap (λ n. whole c.args.sum +ℚ whole n *ℚ c.args.y) none ∙ ap (λ q. whole c.args.sum +ℚ q) (zero-mul c.args.y) ∙ add-zero (whole c.args.sum))

pub returns-clause-value : goal.returns-clause-value
returns-clause-value c =
    let product : c.in_ok-product.product ≡ c.args.x *ℤ c.in_ok-y.y =
    c.in_ok-product.ensures.1 ∙ ap₂ (λ a b. a *ℤ b) (to_z-of_z w128 c.args.x c.ranges.x) (read_fitting c.in_ok-y.y c.in_ok-y.ensures.fits) in
    summed c.sum.result _ _ _ c.args.sum c.args.x c.in_ok-y.y c.args.y (read_fitting c.args.sum c.requires.fits)
    (read_fitting c.in_ok-product.product (subst (λ z. Fits z) (sym c.in_ok-product.ensures.1) c.in_ok-product.ensures.0)
    ∙ product) c.in_ok-y.ensures.value c.sum.ensures

pub returns-in-Ok-Ok-clause-value : goal.returns-in-Ok-Ok-clause-value
returns-in-Ok-Ok-clause-value c =
    let first = c.in-Ok-Ok.ensures in
    let second = c.in-Ok-Ok.ensures' in
    let is_x : to_z w64 (of_z w64 c.in-Ok-Ok.x) ≡ c.args.x = word_of c.in-Ok-Ok.x c.args.x first.0 first.1 (to_z-of_z w128 c.args.x c.ranges.x) in
    let is_y : to_z w64 (of_z w64 c.in-Ok-Ok.y) ≡ c.in_ok-y.y =
    word_of c.in-Ok-Ok.y c.in_ok-y.y second.0 second.1 (read_fitting c.in_ok-y.y c.in_ok-y.ensures.fits) in
    let product : c.word_times.result ≡ c.args.x *ℤ c.in_ok-y.y = c.word_times.ensures.value ∙ ap₂ (λ a b. a *ℤ b) is_x is_y in
    summed c.sum_with_small.result _ _ _ c.args.sum c.args.x c.in_ok-y.y c.args.y (read_fitting c.args.sum c.requires.fits)
    (read_small c.word_times.result c.word_times.ensures.small ∙ product) c.in_ok-y.ensures.value c.sum_with_small.ensures
