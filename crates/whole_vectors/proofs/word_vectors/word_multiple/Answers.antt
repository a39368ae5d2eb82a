use Rattle.std.proofs.Common.{rules, ◌≡◌, sym, ◌∙◌, ap, to_z, of_z}
use Rattle.std.specs.Int.{w64, w128}
use Rattle.std.proofs.lemmas.Int.{to_z-of_z}
use Rattle.exact_values.specs.Rational.{whole}
use Rattle.frac128.proofs.Parts.{read_fitting}
use Rattle.whole_vectors.proofs.Words.{multiple_is, word_twice}
use Rattle.whole_vectors.proofs.word_vectors.word_multiple.Goals as goal

pub returns-then-word_total-n : goal.returns-then-word_total-n
returns-then-word_total-n c =
    let same : c.args.n ≡ c.word_total.result =
    sym (word_twice c.args.n c.ranges.n) ∙ ap (to_z w128) (sym c.if-word_total-n.true) ∙ read_fitting c.word_total.result c.word_total.ensures.fits in
    multiple_is c.args.n _ (to_z w64 (of_z w64 c.in_ok-divisor.divisor)) c.word_total.result c.args.by
    (ap whole (to_z-of_z w64 c.in_ok-divisor.divisor (search rules)) ∙ c.in_ok-divisor.ensures) c.word_total.ensures.value same
