use Rattle.std.proofs.Common.{◌≡◌, ◌≤◌, ◌+◌, ◌-◌, length, arith, ◌∙◌, ap}
use Rattle.lp_definitions.specs.LinearProgram.{size}
use Rattle.eta_file.specs.declared.eta.StoredEta.{StoredEta}
use Rattle.eta_file.specs.Transformations.{IsLeaving}
use Rattle.eta_file.specs.Refusals.{LeaveRefused}
use Rattle.eta_file.specs.File.{inverse_of}
use Rattle.eta_file.proofs.FileLaws.{refused_map, ok_map, within_places, entries_apart, fewer, count_next, left, leaving_refused, nonbasic_from, is_column}
use Rattle.eta_file.proofs.FileLaws.{column_number, column_within, column_distinct, filled}
use Rattle.eta_file.proofs.file.EtaFile.begin.Goals as goal

pub overflow_sub-j : goal.overflow_sub-j
overflow_sub-j g c =
    let f = inverse_of c.self.inside in
    let out =
    nonbasic_from f.matrix f.etas f.basics c.self.invariant.0 c.args.j c.args.first (rw (← c.self.view_is) at c.requires.none_later)
    (rw (← c.self.view_is) at c.requires.nonbasic) 0 (omega (arith, c.if-first-eq0.true)) in
    let above = is_column f.matrix f.etas f.basics c.self.invariant.0 c.args.j out in
    omega (arith, above)

pub numbers-requires : goal.numbers-requires
numbers-requires g c =
    let f = inverse_of c.self.inside in
    let out =
    nonbasic_from f.matrix f.etas f.basics c.self.invariant.0 c.args.j c.args.first (rw (← c.self.view_is) at c.requires.none_later)
    (rw (← c.self.view_is) at c.requires.nonbasic) 0 (omega (arith, c.if-first-eq0.true)) in
    rw (← c.self.view_is) (column_number f.matrix f.etas f.basics c.self.invariant.0 c.args.j out)

pub fill_column-requires-clause-rows : goal.fill_column-requires-clause-rows
fill_column-requires-clause-rows g c =
    let f = inverse_of c.self.inside in
    let out =
    nonbasic_from f.matrix f.etas f.basics c.self.invariant.0 c.args.j c.args.first (rw (← c.self.view_is) at c.requires.none_later)
    (rw (← c.self.view_is) at c.requires.nonbasic) 0 (omega (arith, c.if-first-eq0.true)) in
    rw (c.numbers.ensures, ← c.self.view_is) (column_within f.matrix f.etas f.basics c.self.invariant.0 c.args.j out)

pub fill_column-requires-clause-distinct : goal.fill_column-requires-clause-distinct
fill_column-requires-clause-distinct g c =
    let f = inverse_of c.self.inside in
    let out =
    nonbasic_from f.matrix f.etas f.basics c.self.invariant.0 c.args.j c.args.first (rw (← c.self.view_is) at c.requires.none_later)
    (rw (← c.self.view_is) at c.requires.nonbasic) 0 (omega (arith, c.if-first-eq0.true)) in
    rw (c.numbers.ensures, ← c.self.view_is) (column_distinct f.matrix f.etas f.basics c.self.invariant.0 c.args.j out)

pub returns-then-first-eq0-clause-direction : goal.returns-then-first-eq0-clause-direction
returns-then-first-eq0-clause-direction g c =
    let f = inverse_of c.self.inside in
    let out =
    nonbasic_from f.matrix f.etas f.basics c.self.invariant.0 c.args.j c.args.first (rw (← c.self.view_is) at c.requires.none_later)
    (rw (← c.self.view_is) at c.requires.nonbasic) 0 (omega (arith, c.if-first-eq0.true)) in
    rw (← c.self.view_is, c.if-first-eq0.true)
    (filled f.matrix f.etas f.basics c.self.invariant.0 c.args.j out c.fill_column.new.out (rw (c.numbers.ensures, ← c.self.view_is) at c.fill_column.ensures))

pub leave-requires-clause-within : goal.leave-requires-clause-within
leave-requires-clause-within g c =
    let f = inverse_of c.self.inside in
    let below : c.args.first ≤ length f.etas = rw (← c.self.view_is) at c.requires.within in
    within_places f.matrix f.etas f.basics c.self.invariant.0 (c.args.first - 1) c.index-eta.result.now
    (omega (arith, below, c.if-first-eq0.false)) c.index-eta.ensures
    (length c.args.out.now) (rw (← c.self.view_is) at c.requires.places)

pub leave-requires-clause-apart : goal.leave-requires-clause-apart
leave-requires-clause-apart g c =
    let f = inverse_of c.self.inside in
    let below : c.args.first ≤ length f.etas = rw (← c.self.view_is) at c.requires.within in
    entries_apart f.matrix f.etas f.basics c.self.invariant.0 (c.args.first - 1) c.index-eta.result.now
    (omega (arith, below, c.if-first-eq0.false)) c.index-eta.ensures

pub returns-else-first-eq0-clause-direction : goal.returns-else-first-eq0-clause-direction
returns-else-first-eq0-clause-direction g c =
    let f = inverse_of c.self.inside in
    let below : c.args.first ≤ length f.etas = rw (← c.self.view_is) at c.requires.within in
    let places : length c.args.out.now ≡ size f.matrix = rw (← c.self.view_is) at c.requires.places in
    let own : c.index-eta.result.now.p ≡ c.args.j =
    ap (λ (x : StoredEta). x.p) c.index-eta.ensures ∙ (rw (← c.self.view_is) at c.requires.left) c.index-eta.result.now c.if-first-eq0.false in
    rw (← c.self.view_is)
    (ok_map c.leave.result (IsLeaving c.index-eta.result.now c.leave.new.out) _
    (λ h. left f.matrix f.etas f.basics c.self.invariant.0 (c.args.first - 1) c.index-eta.result.now
    (omega (arith, below, c.if-first-eq0.false)) c.index-eta.ensures
    c.leave.new.out (c.leave.auto.out ∙ places) h c.args.first c.args.j (omega (arith, c.if-first-eq0.false)) own)
    c.leave.ensures.leaving)

pub returns-else-first-eq0-clause-refused : goal.returns-else-first-eq0-clause-refused
returns-else-first-eq0-clause-refused g c =
    let f = inverse_of c.self.inside in
    let below : c.args.first ≤ length f.etas = rw (← c.self.view_is) at c.requires.within in
    rw (← c.self.view_is)
    (refused_map c.leave.result (LeaveRefused c.index-eta.result.now c.args.first) _
    (leaving_refused f.matrix f.etas f.basics c.self.invariant.0 (c.args.first - 1) c.index-eta.result.now
    (omega (arith, below, c.if-first-eq0.false)) c.index-eta.ensures
    c.args.first (omega (arith, c.if-first-eq0.false)))
    c.leave.ensures.refused)

pub returns-else-first-eq0-clause-cost : goal.returns-else-first-eq0-clause-cost
returns-else-first-eq0-clause-cost g c =
    let f = inverse_of c.self.inside in
    let below : c.args.first ≤ length f.etas = rw (← c.self.view_is) at c.requires.within in
    let few =
    fewer f.matrix f.etas f.basics c.self.invariant.0 (c.args.first - 1) c.index-eta.result.now
    (omega (arith, below, c.if-first-eq0.false)) c.index-eta.ensures in
    let more =
    count_next f.matrix f.etas f.basics c.self.invariant.0 (c.args.first - 1) c.index-eta.result.now
    (omega (arith, below, c.if-first-eq0.false)) c.index-eta.ensures in
    let same : c.args.first ≡ c.args.first - 1 + 1 = omega (arith, c.if-first-eq0.false) in
    rw (← c.self.view_is, same) (omega (arith, few, more, c.leave.ensures.cost))
