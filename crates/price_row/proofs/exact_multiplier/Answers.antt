use Rattle.std.proofs.Common.{◌∙◌, length, arith, sym, refl}
use Rattle.eta_file.specs.declared.eta.StoredEta.{StoredEta}
use Rattle.price_row.proofs.CarriedBack.{is, q_in, entries_within, pivot_is, multiplier_is, an_eta}
use Rattle.price_row.proofs.exact_multiplier.Goals as goal
use Rattle.lp_laws.proofs.Places.{value_at_place}

pub overflow_add-place : goal.overflow_add-place
overflow_add-place c = omega (arith, c.etas-etas.ensures.all, c.requires.within)

pub overflow_add-place-2 : goal.overflow_add-place-2
overflow_add-place-2 c = omega (arith, c.etas-etas.ensures.all, c.requires.within)

pub exact_quotient_over-requires-clause-within : goal.exact_quotient_over-requires-clause-within
exact_quotient_over-requires-clause-within c =
    entries_within c.args.file.now c.size-size.ensures.passed c.args.place c.requires.within (an_eta c.args.file.now.etas c.args.place c.requires.within)
    c.eta-eta.result.p c.eta-eta.result.q c.eta-eta.result.entries.now c.eta-eta.ensures.lent (length c.args.out.now) c.requires.places

pub exact_quotient_over-requires-clause-pivot : goal.exact_quotient_over-requires-clause-pivot
exact_quotient_over-requires-clause-pivot c none =
    let d : StoredEta = an_eta c.args.file.now.etas c.args.place c.requires.within in
    (is c.args.file.now c.size-size.ensures.passed c.args.place c.requires.within d c.eta-eta.result.p c.eta-eta.result.q c.eta-eta.result.entries.now
    c.eta-eta.ensures.lent).apart
    (sym (pivot_is c.args.file.now c.size-size.ensures.passed c.args.place c.requires.within d c.eta-eta.result.p c.eta-eta.result.q
    c.eta-eta.result.entries.now c.eta-eta.ensures.lent c.pivot-pivot.result c.pivot-pivot.ensures) ∙ none)

pub returns : goal.returns
returns c = record {
  value = record {
    is_multiplier = λ d rate are.
        let enters =
        q_in c.args.file.now c.size-size.ensures.passed c.args.place c.requires.within d c.eta-eta.result.p c.eta-eta.result.q c.eta-eta.result.entries.now
        c.eta-eta.ensures.lent in
        c.neg.ensures
        ∙ multiplier_is c.args.file.now c.size-size.ensures.passed c.args.place c.requires.within d c.eta-eta.result.p c.eta-eta.result.q
        c.eta-eta.result.entries.now c.eta-eta.ensures.lent
        c.args.row c.requires.basic c.size-size.ensures.nonsingular c.args.out.now c.requires.known rate are
        c.index-out-eta.result _ c.pivot-pivot.result c.in_ok-ratio.ratio
        (value_at_place c.args.out.now c.eta-eta.result.q c.index-out-eta.result enters.0 (omega (arith, enters.1, c.requires.places)) c.index-out-eta.is) refl
        (pivot_is c.args.file.now c.size-size.ensures.passed c.args.place c.requires.within d c.eta-eta.result.p c.eta-eta.result.q
        c.eta-eta.result.entries.now c.eta-eta.ensures.lent c.pivot-pivot.result c.pivot-pivot.ensures)
        c.in_ok-ratio.ensures;
  };
}
