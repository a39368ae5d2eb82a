use Rattle.std.proofs.Common.{rules, ◌≡◌, sym, ◌∙◌, ap, subst, IfSome}
use Rattle.std.specs.Int.{w64}
use Rattle.std.proofs.lemmas.Int.{to_z-of_z}
use Rattle.exact_values.specs.Rational.{whole, ◌*ℚ◌}
use Rattle.whole_vectors.proofs.Words.{by_multiple}
use Rattle.whole_vectors.proofs.product_by_multiple.Goals as goal

pub returns : goal.returns
returns c =
    subst (λ q. IfSome c.word_product.result (λ product. product ≡ q))
    (by_multiple c.args.x c.args.scale c.terms-parts.result.0 c.terms-parts.result.1 c.word_fraction.result c.terms-parts.ensures.product
    (sym (ap whole (to_z-of_z w64 c.in_ok-whole_scale.whole_scale (search rules)) ∙ c.in_ok-whole_scale.ensures) ∙ c.in_ok-times.ensures
    ∙ ap (λ q. q *ℚ c.terms-parts.result.1) (sym (c.word_fraction.ensures ∙ ap whole (to_z-of_z w64 c.in_ok-times.times (search rules))))))
    c.word_product.ensures
