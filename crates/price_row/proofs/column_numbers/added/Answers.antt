use Rattle.std.proofs.Common.{◌≡◌, ◌∙◌, sym, ap, pos, to_z}
use Rattle.std.specs.Int.{w128}
use Rattle.std.proofs.lemmas.Int.{to_z-of_z}
use Rattle.exact_values.specs.Rational.{whole, ◌+ℚ◌, ◌*ℚ◌}
use Rattle.exact_values.proofs.RingLaws.{mul-zero, add-zero}
use Rattle.frac128.proofs.Parts.{read_fitting}
use Rattle.price_row.proofs.ColumnNumbers.{summed_more}
use Rattle.price_row.proofs.column_numbers.added.Goals as goal

pub returns-then-number-eq0-clause-value : goal.returns-then-number-eq0-clause-value
returns-then-number-eq0-clause-value c =
    let none : c.args.number ≡ pos 0 = sym (to_z-of_z w128 c.args.number c.ranges.number) ∙ ap (to_z w128) c.if-number-eq0.true in
    ap whole (read_fitting c.args.total c.requires.total)
    ∙ sym (ap (λ n. whole c.args.total +ℚ c.args.y *ℚ whole n) none ∙ ap (λ q. whole c.args.total +ℚ q) (mul-zero c.args.y) ∙ add-zero (whole c.args.total))

pub returns-clause-value : goal.returns-clause-value
returns-clause-value c =
    summed_more c.sum.result _ _ _ c.args.total c.in_ok-more.more (c.args.y *ℚ whole c.args.number) (read_fitting c.args.total c.requires.total)
    (read_fitting c.in_ok-more.more c.in_ok-more.ensures.fits)
    (c.in_ok-more.ensures.value ∙ ap (λ n. c.args.y *ℚ whole n) (read_fitting c.args.number c.requires.number)) c.sum.ensures
