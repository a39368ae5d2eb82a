use Rattle.std.proofs.Common.{rules, ◌∙◌, sym, ap₂, refl, pos, subst}
use Rattle.std.specs.Prelude.{unsigned_abs, ◌≤ℤ◌}
use Rattle.exact_values.specs.Rational.{one_ℚ, fraction}
use Rattle.lp_laws.proofs.Idle.{left_nothing_over, over_once}
use Rattle.frac128.proofs.Parts.{read_fitting}
use Rattle.whole_vectors.proofs.Over.{same_reported, over_whole}
use Rattle.whole_vectors.proofs.Words.{is_one}
use Rattle.whole_vectors.proofs.quotient.Goals as goal
use Rattle.whole_vectors.proofs.quotient.Goals.{then-is_zero-via-then-is_zero, then-is_zero-via-else-is_zero+then-eq}

pub returns-then-is_zero : goal.returns-then-is_zero
returns-then-is_zero c = elim c.then-is_zero.branch [
  | then-is_zero-via-then-is_zero w ↦ left_nothing_over c.args.number c.args.by (c.is_zero.ensures.0 w.if-is_zero.true)
  | then-is_zero-via-else-is_zero+then-eq w ↦ over_once c.args.number c.args.by
      (same_reported c.args.by one_ℚ w.whole.result w.eq.result w.eq.ensures w.if-eq.true w.whole.ensures)
]

pub returns-then-num-ge1 : goal.returns-then-num-ge1
returns-then-num-ge1 c =
    let n_is = read_fitting c.num-then-num-ge1.result c.num-then-num-ge1.ensures.fits ∙ c.num-then-num-ge1.ensures.value in
    let d_is = read_fitting c.num-then-num-ge1-2.result c.num-then-num-ge1-2.ensures.fits ∙ c.num-then-num-ge1-2.ensures.value in
    let some : pos 1 ≤ℤ c.num.result = search rules in
    c.new.ensures ∙ ap₂ (λ n d. fraction n (unsigned_abs d)) n_is d_is
    ∙ over_whole c.args.number c.args.by c.args.by.numerator (is_one c.args.number.denominator (sym c.den.ensures.value ∙ search rules))
    (is_one c.args.by.denominator (sym c.den-then-den-eq1.ensures.value ∙ search rules))
    (subst (λ z. pos 1 ≤ℤ z) c.num.ensures.value some) refl
