use Rattle.std.proofs.Common.{◌∙◌, length, arith, sym, refl}
use Rattle.exact_values.specs.Rational.{◌/ℚ◌}
use Rattle.eta_file.specs.declared.eta.StoredEta.{StoredEta}
use Rattle.price_row.proofs.CarriedBack.{is, q_in, entries_within, pivot_is, multiplier_is, idle_quotient, an_eta}
use Rattle.price_row.proofs.plain_multiplier.Goals as goal
use Rattle.lp_laws.proofs.Places.{value_at_place}

pub overflow_add-place : goal.overflow_add-place
overflow_add-place c = omega (arith, c.etas-etas.ensures.all, c.requires.within)

pub overflow_add-place-2 : goal.overflow_add-place-2
overflow_add-place-2 c = omega (arith, c.etas-etas.ensures.all, c.requires.within)

pub sum_over-requires : goal.sum_over-requires
sum_over-requires c =
    entries_within c.args.file.now c.size-size.ensures.passed c.args.place c.requires.within (an_eta c.args.file.now.etas c.args.place c.requires.within)
    c.eta-eta.result.p c.eta-eta.result.q c.eta-eta.result.entries.now c.eta-eta.ensures.lent (length c.args.out.now) c.requires.places

pub div-requires : goal.div-requires
div-requires c none =
    let d : StoredEta = an_eta c.args.file.now.etas c.args.place c.requires.within in
    (is c.args.file.now c.size-size.ensures.passed c.args.place c.requires.within d c.eta-eta.result.p c.eta-eta.result.q c.eta-eta.result.entries.now
    c.eta-eta.ensures.lent).apart
    (sym (pivot_is c.args.file.now c.size-size.ensures.passed c.args.place c.requires.within d c.eta-eta.result.p c.eta-eta.result.q
    c.eta-eta.result.entries.now c.eta-eta.ensures.lent c.pivot-pivot.result c.pivot-pivot.ensures) ∙ none)

pub returns-then-is_zero : goal.returns-then-is_zero
returns-then-is_zero c = record {
  value = record {
    is_multiplier = λ d rate are.
        let enters =
        q_in c.args.file.now c.size-size.ensures.passed c.args.place c.requires.within d c.eta-eta.result.p c.eta-eta.result.q c.eta-eta.result.entries.now
        c.eta-eta.ensures.lent in
        idle_quotient c.in_ok-sum.sum c.pivot-pivot.result (c.is_zero.ensures.0 c.if-is_zero.true)
        ∙ multiplier_is c.args.file.now c.size-size.ensures.passed c.args.place c.requires.within d c.eta-eta.result.p c.eta-eta.result.q
        c.eta-eta.result.entries.now c.eta-eta.ensures.lent
        c.args.row c.requires.basic c.size-size.ensures.nonsingular c.args.out.now c.requires.known rate are
        c.index-out-eta.result c.in_ok-sum.sum c.pivot-pivot.result (c.in_ok-sum.sum /ℚ c.pivot-pivot.result)
        (value_at_place c.args.out.now c.eta-eta.result.q c.index-out-eta.result enters.0
        (omega (arith, enters.1, c.requires.places)) c.index-out-eta.is) c.in_ok-sum.ensures.value
        (pivot_is c.args.file.now c.size-size.ensures.passed c.args.place c.requires.within d c.eta-eta.result.p c.eta-eta.result.q
        c.eta-eta.result.entries.now c.eta-eta.ensures.lent c.pivot-pivot.result c.pivot-pivot.ensures)
        refl;
  };
}

pub returns : goal.returns
returns c = record {
  value = record {
    is_multiplier = λ d rate are.
        let enters =
        q_in c.args.file.now c.size-size.ensures.passed c.args.place c.requires.within d c.eta-eta.result.p c.eta-eta.result.q c.eta-eta.result.entries.now
        c.eta-eta.ensures.lent in
        c.neg.ensures
        ∙ multiplier_is c.args.file.now c.size-size.ensures.passed c.args.place c.requires.within d c.eta-eta.result.p c.eta-eta.result.q
        c.eta-eta.result.entries.now c.eta-eta.ensures.lent
        c.args.row c.requires.basic c.size-size.ensures.nonsingular c.args.out.now c.requires.known rate are
        c.index-out-eta.result c.in_ok-sum.sum c.pivot-pivot.result c.in_ok-ratio.ratio
        (value_at_place c.args.out.now c.eta-eta.result.q c.index-out-eta.result enters.0
        (omega (arith, enters.1, c.requires.places)) c.index-out-eta.is) c.in_ok-sum.ensures.value
        (pivot_is c.args.file.now c.size-size.ensures.passed c.args.place c.requires.within d c.eta-eta.result.p c.eta-eta.result.q
        c.eta-eta.result.entries.now c.eta-eta.ensures.lent c.pivot-pivot.result c.pivot-pivot.ensures)
        c.in_ok-ratio.ensures.value;
  };
}
