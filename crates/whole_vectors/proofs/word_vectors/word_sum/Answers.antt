use Rattle.std.proofs.Common.{◌≡◌, rules, sym, ◌∙◌, ap, ap₂, pos, to_z}
use Rattle.std.proofs.lemmas.Int.{to_z-of_z}
use Rattle.std.specs.Int.{w64}
use Rattle.std.specs.Prelude.{◌+ℤ◌, ◌*ℤ◌}
use Rattle.exact_values.specs.Rational.{whole, ◌+ℚ◌, ◌*ℚ◌}
use Rattle.exact_values.proofs.RingLaws.{zero-mul, add-zero}
use Rattle.whole_vectors.proofs.Words.{word_is, whole_total, checked_total}
use Rattle.whole_vectors.proofs.word_vectors.word_sum.Goals as goal

pub returns-then-x-eq0 : goal.returns-then-x-eq0
returns-then-x-eq0 c =
    let none : c.args.x ≡ pos 0 = sym (to_z-of_z w64 c.args.x c.ranges.x) ∙ ap (to_z w64) c.if-x-eq0.true in
    ap whole (to_z-of_z w64 c.args.sum c.ranges.sum)
    ∙ sym (ap (λ n. whole c.args.sum +ℚ whole n *ℚ c.args.y) none ∙ ap (λ q. whole c.args.sum +ℚ q) (zero-mul c.args.y) ∙ add-zero (whole c.args.sum))

pub returns-in-Ok : goal.returns-in-Ok
returns-in-Ok c =
    let total : c.word_total.result ≡ c.args.sum +ℤ c.args.x *ℤ c.in_ok-y.y =
    c.word_total.ensures.value
    ∙ ap₂ (λ a b. a +ℤ b) (to_z-of_z w64 c.args.sum c.ranges.sum)
    (ap₂ (λ a b. a *ℤ b) (to_z-of_z w64 c.args.x c.ranges.x) (to_z-of_z w64 c.in_ok-y.y (search rules))) in
    ap whole (word_is c.in-Ok.next c.word_total.result
    (c.args.sum +ℤ c.args.x *ℤ c.in_ok-y.y) c.in-Ok.ensures.0 c.in-Ok.ensures.1 c.word_total.ensures.fits total)
    ∙ whole_total c.args.sum c.args.x c.in_ok-y.y ∙ ap (λ q. whole c.args.sum +ℚ whole c.args.x *ℚ q) c.in_ok-y.ensures

pub returns-then-y-eq1 : goal.returns-then-y-eq1
returns-then-y-eq1 c =
    let once : c.in_ok-y.y ≡ pos 1 = sym (to_z-of_z w64 c.in_ok-y.y (search rules)) ∙ ap (to_z w64) c.if-y-eq1.true in
    checked_total c.checked_add.result _ _ _ c.args.sum c.args.x c.in_ok-y.y c.args.y (to_z-of_z w64 c.args.sum c.ranges.sum)
    (to_z-of_z w64 c.args.x c.ranges.x) once c.in_ok-y.ensures c.checked_add.ensures
