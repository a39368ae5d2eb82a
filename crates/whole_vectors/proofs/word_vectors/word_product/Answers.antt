use Rattle.std.proofs.Common.{rules, ◌∙◌, ap, to_z, of_z, refl}
use Rattle.std.specs.Int.{w64}
use Rattle.std.proofs.lemmas.Int.{to_z-of_z}
use Rattle.exact_values.specs.Rational.{whole, ◌*ℚ◌}
use Rattle.frac128.proofs.Parts.{read_fitting}
use Rattle.whole_vectors.proofs.Words.{multiple_is}
use Rattle.whole_vectors.proofs.word_vectors.word_product.Goals as goal

pub returns : goal.returns
returns c =
    c.whole.ensures ∙ ap whole (read_fitting c.word_total.result c.word_total.ensures.fits)
    ∙ multiple_is c.word_total.result (to_z w64 (of_z w64 c.in_ok-left.left)) (to_z w64 (of_z w64 c.in_ok-right.right)) c.word_total.result c.args.y
    (ap whole (to_z-of_z w64 c.in_ok-right.right (search rules)) ∙ c.in_ok-right.ensures) c.word_total.ensures.value refl
    ∙ ap (λ q. q *ℚ c.args.y) (ap whole (to_z-of_z w64 c.in_ok-left.left (search rules)) ∙ c.in_ok-left.ensures)
