use Rattle.std.proofs.Common.{◌≡◌, sym, ◌∙◌, ap, ap₂, pos, to_z, refl, subst, FitsSigned}
use Rattle.std.proofs.lemmas.Int.{to_z-of_z}
use Rattle.std.specs.Int.{w64}
use Rattle.std.specs.Prelude.{◌*ℤ◌}
use Rattle.exact_values.specs.Rational.{whole, ◌+ℚ◌, ◌*ℚ◌}
use Rattle.exact_values.proofs.RingLaws.{zero-mul, add-zero}
use Rattle.whole_vectors.proofs.Words.{summed}
use Rattle.price_row.proofs.words.SparseWordsNumbers.plus_word.Goals as goal

pub returns-then-x-eq0-clause-value : goal.returns-then-x-eq0-clause-value
returns-then-x-eq0-clause-value c =
    let none : c.args.x ≡ pos 0 = sym (to_z-of_z w64 c.args.x c.ranges.x) ∙ ap (to_z w64) c.if-x-eq0.true in
    ap whole (to_z-of_z w64 c.args.sum c.ranges.sum)
    ∙ sym (ap (λ n. whole c.args.sum +ℚ whole n *ℚ whole c.args.y) none ∙ ap (λ q. whole c.args.sum +ℚ q) (zero-mul (whole c.args.y))
    ∙ add-zero (whole c.args.sum))

pub returns-clause-value : goal.returns-clause-value
returns-clause-value c =
    let product : c.in_ok-product.product ≡ c.args.x *ℤ c.args.y =
    c.in_ok-product.ensures.1 ∙ ap₂ (λ a b. a *ℤ b) (to_z-of_z w64 c.args.x c.ranges.x) (to_z-of_z w64 c.args.y c.ranges.y) in
    summed c.checked_add.result _ _ _ c.args.sum c.args.x c.args.y (whole c.args.y) (to_z-of_z w64 c.args.sum c.ranges.sum)
    (to_z-of_z w64 c.in_ok-product.product (subst (λ z. FitsSigned w64 z) (sym c.in_ok-product.ensures.1) c.in_ok-product.ensures.0)
    ∙ product) refl c.checked_add.ensures
