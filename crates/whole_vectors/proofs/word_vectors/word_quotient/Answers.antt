use Rattle.std.proofs.Common.{rules, ◌≡◌, sym, ◌∙◌, ap, pos, to_z}
use Rattle.std.specs.Int.{w64}
use Rattle.std.proofs.lemmas.Int.{to_z-of_z}
use Rattle.exact_values.specs.Rational.{whole, one_ℚ}
use Rattle.exact_values.proofs.Inverse.{div_is}
use Rattle.lp_laws.proofs.Idle.{left_nothing_over, over_once}
use Rattle.whole_vectors.proofs.Over.{same_reported}
use Rattle.whole_vectors.proofs.word_vectors.word_quotient.Goals as goal
use Rattle.whole_vectors.proofs.word_vectors.word_quotient.Goals.{then-n-eq0-via-then-n-eq0, then-n-eq0-via-else-n-eq0+then-eq}

pub returns-then-n-eq0 : goal.returns-then-n-eq0
returns-then-n-eq0 c =
    c.word_fraction.ensures ∙ ap whole (to_z-of_z w64 c.args.n c.ranges.n)
    ∙ elim c.then-n-eq0.branch [
      | then-n-eq0-via-then-n-eq0 w ↦
          let none : c.args.n ≡ pos 0 = sym (to_z-of_z w64 c.args.n c.ranges.n) ∙ ap (to_z w64) w.if-n-eq0.true in
          left_nothing_over (whole c.args.n) c.args.by (ap whole none)
      | then-n-eq0-via-else-n-eq0+then-eq w ↦ over_once (whole c.args.n) c.args.by
          (same_reported c.args.by one_ℚ w.whole.result w.eq.result w.eq.ensures w.if-eq.true w.whole.ensures)
    ]

pub returns-in-Some : goal.returns-in-Some
returns-in-Some c =
    c.word_fraction-in-Some.ensures ∙ ap whole (to_z-of_z w64 c.in-Some.times (search rules))
    ∙ sym (div_is (whole c.args.n) c.args.by (whole c.in-Some.times) c.requires (ap whole (sym (to_z-of_z w64 c.args.n c.ranges.n)) ∙ c.in-Some.ensures))
