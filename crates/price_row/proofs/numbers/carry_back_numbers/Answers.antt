use Rattle.std.proofs.Common.{◌-◌, ◌∙◌, sym, ap, length, set, map}
use Rattle.exact_values.proofs.Inverse.{apart-mul}
use Rattle.whole_vectors.specs.Quotients.{IsSameOver, Represent}
use Rattle.eta_file.proofs.FileLaws.{some_map}
use Rattle.price_row.specs.Known.{IsKnown}
use Rattle.price_row.proofs.WholeRows.{whole_within, whole_pivot_apart, known_reduced}
use Rattle.price_row.proofs.NumberRows.{known_carried, known_idle}
use Rattle.price_row.proofs.numbers.carry_back_numbers.Goals as goal

pub sum_over_eta-requires-clause-within : goal.sum_over_eta-requires-clause-within
sum_over_eta-requires-clause-within g c =
    whole_within c.args.file.now c.size-size.ensures.passed c.args.place c.requires.within c.eta-eta.result.p c.eta-eta.result.q c.eta-eta.result.entries.now
    c.eta-eta.ensures.lent
    c.in-Some.whole.scale c.in-Some.whole.pivot c.in-Some.whole.entries.now c.in-Some.ensures (length c.all.result.now)
    (c.all.ensures.places ∙ c.write.ensures.places ∙ c.requires.places)

pub over-requires-clause-apart : goal.over-requires-clause-apart
over-requires-clause-apart g c =
    whole_pivot_apart c.args.file.now c.size-size.ensures.passed c.args.place c.requires.within c.eta-eta.result.p c.eta-eta.result.q
    c.eta-eta.result.entries.now c.eta-eta.ensures.lent
    c.in-Some.whole.scale c.in-Some.whole.pivot c.in-Some.whole.entries.now c.in-Some.ensures

pub returns-then-is_zero-clause-known : goal.returns-then-is_zero-clause-known
returns-then-is_zero-clause-known g c =
    known_idle c.args.file.now c.size-size.ensures.passed c.args.place c.requires.within c.eta-eta.result.p c.eta-eta.result.q c.eta-eta.result.entries.now
    c.eta-eta.ensures.lent
    c.in-Some.whole.scale c.in-Some.whole.pivot c.in-Some.whole.entries.now c.in-Some.ensures
    c.args.row c.requires.basic c.size-size.ensures.nonsingular c.args.denominator (g.N.Numbers.fractions c.args.out.now) c.requires.places c.requires.known
    (g.N.Numbers.fraction c.zero.result) c.zero.ensures.value (g.N.Numbers.fractions c.write.new.self) c.in_ok-write.ensures.number c.write.ensures.places
    (map g.N.Numbers.fraction c.all.result.now) c.all.ensures.numbers (g.N.Numbers.fraction c.in_ok-sum.sum) c.in_ok-sum.ensures.value
    (c.is_zero.ensures c.if-is_zero.true)

pub returns-clause-known : goal.returns-clause-known
returns-clause-known g c =
    let low = g.N.Numbers.fractions c.multiply_by.new.self in
    let written = g.N.Numbers.fractions c.write-2.new.self in
    let left = g.N.Numbers.fractions c.reduce_over.new.self in
    let carried : Represent (IsKnown c.args.file.now c.args.place c.args.row) c.in_ok-denominator.denominator written =
    known_carried c.args.file.now c.size-size.ensures.passed c.args.place c.requires.within c.eta-eta.result.p c.eta-eta.result.q c.eta-eta.result.entries.now
    c.eta-eta.ensures.lent
    c.in-Some.whole.scale c.in-Some.whole.pivot c.in-Some.whole.entries.now c.in-Some.ensures
    c.args.row c.requires.basic c.size-size.ensures.nonsingular c.args.denominator (g.N.Numbers.fractions c.args.out.now) c.requires.places c.requires.known
    (g.N.Numbers.fraction c.zero.result) c.zero.ensures.value (g.N.Numbers.fractions c.write.new.self) c.in_ok-write.ensures.number c.write.ensures.places
    (map g.N.Numbers.fraction c.all.result.now) c.all.ensures.numbers (g.N.Numbers.fraction c.in_ok-sum.sum) c.in_ok-sum.ensures.value
    c.in_ok-ratio.ratio c.terms-number.result.1 c.terms-number.result.0 c.in_ok-denominator.denominator low written
    c.in_ok-ratio.ensures.value c.terms-number.ensures.apart c.terms-number.ensures.product c.in_ok-denominator.ensures c.in_ok-multiply_by.ensures.products
    c.multiply_by.ensures.places
    (c.in_ok-write-2.ensures.number ∙ ap (set low (c.eta-eta.result.p - 1)) (c.in_ok-made.ensures.value ∙ c.neg.ensures)) in
    some_map c.reduce_over.result (λ e. IsSameOver c.in_ok-denominator.denominator written e left)
    (λ e. Represent (IsKnown c.args.file.now c.args.place c.args.row) e left)
    (λ e same. known_reduced c.args.file.now c.args.place c.args.row c.in_ok-denominator.denominator e written left same carried) c.reduce_over.ensures.same

pub reduce_over-requires : goal.reduce_over-requires
reduce_over-requires g c = record { apart = λ none. apart-mul c.requires.known.apart c.terms-number.ensures.apart (sym c.in_ok-denominator.ensures ∙ none) }
