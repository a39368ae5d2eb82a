use Rattle.std.proofs.Common.{rules, ◌≡◌, ◌<◌, ◌+◌, ◌-◌, ◌∙◌, length, arith, sym, ap, refl, take}
use Rattle.std.proofs.lemmas.List.{length-set}
use Rattle.lp_definitions.specs.LinearProgram.{size}
use Rattle.lp_definitions.specs.Basis.{exchanged, row_basics}
use Rattle.eta_file.specs.Prefixes.{after}
use Rattle.eta_file.specs.File.{inverse_of}
use Rattle.eta_file.proofs.FileLaws.{within_places, set_then, way_is, way_below, marks_counted}
use Rattle.eta_file.proofs.file.EtaFile.way_basics.Goals as goal

pub copy_from_slice-requires : goal.copy_from_slice-requires
copy_from_slice-requires c =
    let f = inverse_of c.self.inside in
    let places : length c.args.out.now ≡ size f.matrix = rw (← c.self.view_is) at c.requires.places in
    places ∙ sym (marks_counted f.matrix f.etas f.basics c.self.invariant.0) ∙ ap length (sym c.marks.ensures)

pub index-eta-requires : goal.index-eta-requires
index-eta-requires c =
    let f = inverse_of c.self.inside in
    let low = way_below f.matrix f.etas f.basics c.self.invariant.0 c.args.way (rw (← c.self.view_is) at c.requires.is_way) in
    let below : c.loop-place.place < length f.etas = omega (arith, low) in
    search (rules, below)

pub overflow_sub-out : goal.overflow_sub-out
overflow_sub-out c =
    let f = inverse_of c.self.inside in
    let low = way_below f.matrix f.etas f.basics c.self.invariant.0 c.args.way (rw (← c.self.view_is) at c.requires.is_way) in
    let below : c.loop-place.place < length f.etas = omega (arith, low) in
    (within_places f.matrix f.etas f.basics c.self.invariant.0 c.loop-place.place c.index-eta.result.now below c.index-eta.ensures (size f.matrix) refl).q_low

pub bounds-out-eta : goal.bounds-out-eta
bounds-out-eta c =
    let f = inverse_of c.self.inside in
    let low = way_below f.matrix f.etas f.basics c.self.invariant.0 c.args.way (rw (← c.self.view_is) at c.requires.is_way) in
    let below : c.loop-place.place < length f.etas = omega (arith, low) in
    let places : length c.args.out.now ≡ size f.matrix = rw (← c.self.view_is) at c.requires.places in
    let within =
    within_places f.matrix f.etas f.basics c.self.invariant.0 c.loop-place.place c.index-eta.result.now below c.index-eta.ensures (size f.matrix) refl in
    omega (arith, within.q_low, within.q_high, places, c.loop-place.auto.out, c.mark_rows.auto.out)

pub overflow_sub-out-in-loop-place : goal.overflow_sub-out-in-loop-place
overflow_sub-out-in-loop-place c =
    let f = inverse_of c.self.inside in
    let low = way_below f.matrix f.etas f.basics c.self.invariant.0 c.args.way (rw (← c.self.view_is) at c.requires.is_way) in
    let below : c.loop-place.place < length f.etas = omega (arith, low) in
    (within_places f.matrix f.etas f.basics c.self.invariant.0 c.loop-place.place c.index-eta.result.now below c.index-eta.ensures (size f.matrix) refl).p_low

pub bounds-out-eta-in-loop-place : goal.bounds-out-eta-in-loop-place
bounds-out-eta-in-loop-place c =
    let f = inverse_of c.self.inside in
    let low = way_below f.matrix f.etas f.basics c.self.invariant.0 c.args.way (rw (← c.self.view_is) at c.requires.is_way) in
    let below : c.loop-place.place < length f.etas = omega (arith, low) in
    let places : length c.args.out.now ≡ size f.matrix = rw (← c.self.view_is) at c.requires.places in
    let within =
    within_places f.matrix f.etas f.basics c.self.invariant.0 c.loop-place.place c.index-eta.result.now below c.index-eta.ensures (size f.matrix) refl in
    rw length-set (omega (arith, within.p_low, within.p_high, places, c.loop-place.auto.out, c.mark_rows.auto.out))

pub loop-place-preserved : goal.loop-place-preserved
loop-place-preserved c =
    let f = inverse_of c.self.inside in
    let low = way_below f.matrix f.etas f.basics c.self.invariant.0 c.args.way (rw (← c.self.view_is) at c.requires.is_way) in
    let below : c.loop-place.place < length f.etas = omega (arith, low) in
    let so_far : c.loop-place.out ≡ after (row_basics f.matrix) (take c.loop-place.place f.etas) = rw (← c.self.view_is) at c.loop-place.invariant in
    rw (← c.self.view_is)
    (ap (λ w. exchanged w c.index-eta.result.now.p c.index-eta.result.now.q) so_far
    ∙ sym (set_then f.matrix f.etas f.basics c.self.invariant.0 c.loop-place.place c.index-eta.result.now below c.index-eta.ensures
    (c.loop-place.place + 1) refl))

pub returns : goal.returns
returns c =
    let f = inverse_of c.self.inside in
    let all : c.loop-place.place ≡ c.args.way - 1 = omega arith in
    let so_far : c.loop-place.out ≡ after (row_basics f.matrix) (take c.loop-place.place f.etas) = rw (← c.self.view_is) at c.loop-place.invariant in
    rw (← c.self.view_is)
    (so_far ∙ ap (λ n. after (row_basics f.matrix) (take n f.etas)) all
    ∙ sym (way_is f.matrix f.etas f.basics c.self.invariant.0 c.args.way c.if-way-eq0.false (rw (← c.self.view_is) at c.requires.is_way)))
