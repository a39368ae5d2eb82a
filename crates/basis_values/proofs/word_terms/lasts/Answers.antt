use Rattle.std.proofs.Common.{arith}
use Rattle.basis_values.proofs.Lasting.{lasts_as_long}
use Rattle.basis_values.proofs.word_terms.lasts.Goals as goal

pub returns : goal.returns
returns c = λ most.
    lasts_as_long c.args.distance.now c.args.speed.now c.args.length c.in_ok-d.d c.in_ok-s.s c.in_ok-l.l c.in_ok-d.ensures c.in_ok-s.ensures c.in_ok-l.ensures
    c.if-s-eq0.false
    (omega (arith, c.is_at_most.ensures most, c.product_of_words-left.ensures.value, c.product_of_words-right.ensures.value))
