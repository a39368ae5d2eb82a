use Rattle.std.proofs.Common.{◌≡◌, ◌≤◌, ◌-◌, length, arith, ◌∙◌, ap}
use Rattle.lp_definitions.specs.LinearProgram.{size, column}
use Rattle.whole_vectors.specs.Quotients.{quotients, Represent}
use Rattle.whole_vectors.proofs.Over.{length-quotients, stand_map}
use Rattle.eta_file.specs.declared.eta.StoredEta.{StoredEta}
use Rattle.eta_file.specs.Transformations.{IsLeaving, IsColumnFilled}
use Rattle.eta_file.specs.Inverse.{IsDirectionAfter}
use Rattle.eta_file.specs.File.{inverse_of}
use Rattle.eta_file.proofs.FileLaws.{some_map, within_places, whole_is, entries_apart, left, nonbasic_from, is_column, column_number, column_within}
use Rattle.eta_file.proofs.FileLaws.{column_distinct, filled}
use Rattle.eta_file.proofs.file.EtaFile.begin_at.Goals as goal

pub overflow_sub-j : goal.overflow_sub-j
overflow_sub-j c =
    let f = inverse_of c.self.inside in
    let out =
    nonbasic_from f.matrix f.etas f.basics c.self.invariant.0 c.args.j c.args.first (rw (← c.self.view_is) at c.requires.none_later)
    (rw (← c.self.view_is) at c.requires.nonbasic) 0 (omega (arith, c.if-first-eq0.true)) in
    let above = is_column f.matrix f.etas f.basics c.self.invariant.0 c.args.j out in
    omega (arith, above)

pub numbers-requires : goal.numbers-requires
numbers-requires c =
    let f = inverse_of c.self.inside in
    let out =
    nonbasic_from f.matrix f.etas f.basics c.self.invariant.0 c.args.j c.args.first (rw (← c.self.view_is) at c.requires.none_later)
    (rw (← c.self.view_is) at c.requires.nonbasic) 0 (omega (arith, c.if-first-eq0.true)) in
    rw (← c.self.view_is) (column_number f.matrix f.etas f.basics c.self.invariant.0 c.args.j out)

pub begin_whole-requires-clause-rows : goal.begin_whole-requires-clause-rows
begin_whole-requires-clause-rows c =
    let f = inverse_of c.self.inside in
    let out =
    nonbasic_from f.matrix f.etas f.basics c.self.invariant.0 c.args.j c.args.first (rw (← c.self.view_is) at c.requires.none_later)
    (rw (← c.self.view_is) at c.requires.nonbasic) 0 (omega (arith, c.if-first-eq0.true)) in
    rw (c.numbers.ensures, ← c.self.view_is) (column_within f.matrix f.etas f.basics c.self.invariant.0 c.args.j out)

pub begin_whole-requires-clause-distinct : goal.begin_whole-requires-clause-distinct
begin_whole-requires-clause-distinct c =
    let f = inverse_of c.self.inside in
    let out =
    nonbasic_from f.matrix f.etas f.basics c.self.invariant.0 c.args.j c.args.first (rw (← c.self.view_is) at c.requires.none_later)
    (rw (← c.self.view_is) at c.requires.nonbasic) 0 (omega (arith, c.if-first-eq0.true)) in
    rw (c.numbers.ensures, ← c.self.view_is) (column_distinct f.matrix f.etas f.basics c.self.invariant.0 c.args.j out)

pub returns-then-first-eq0-clause-direction : goal.returns-then-first-eq0-clause-direction
returns-then-first-eq0-clause-direction c =
    let f = inverse_of c.self.inside in
    let out =
    nonbasic_from f.matrix f.etas f.basics c.self.invariant.0 c.args.j c.args.first (rw (← c.self.view_is) at c.requires.none_later)
    (rw (← c.self.view_is) at c.requires.nonbasic) 0 (omega (arith, c.if-first-eq0.true)) in
    let new = c.begin_whole.new.out in
    rw (← c.self.view_is, c.if-first-eq0.true)
    (some_map c.begin_whole.result (λ d. Represent (IsColumnFilled (column f.matrix (c.args.j - f.matrix.rows)) c.args.j) d new)
    (λ d. Represent (IsDirectionAfter f 0 c.args.j) d new)
    (λ d h.
    stand_map (IsColumnFilled (column f.matrix (c.args.j - f.matrix.rows)) c.args.j) (IsDirectionAfter f 0 c.args.j) d new
    (filled f.matrix f.etas f.basics c.self.invariant.0 c.args.j out (quotients d new)) h)
    (rw (c.numbers.ensures, ← c.self.view_is) at c.begin_whole.ensures.filled))

pub leave_whole-requires-clause-within : goal.leave_whole-requires-clause-within
leave_whole-requires-clause-within c =
    let f = inverse_of c.self.inside in
    let below : c.args.first ≤ length f.etas = rw (← c.self.view_is) at c.requires.within in
    within_places f.matrix f.etas f.basics c.self.invariant.0 (c.args.first - 1) c.index-eta.result.now
    (omega (arith, below, c.if-first-eq0.false)) c.index-eta.ensures
    (length c.args.out.now) (rw (← c.self.view_is) at c.requires.places)

pub leave_whole-requires-clause-apart : goal.leave_whole-requires-clause-apart
leave_whole-requires-clause-apart c =
    let f = inverse_of c.self.inside in
    let below : c.args.first ≤ length f.etas = rw (← c.self.view_is) at c.requires.within in
    entries_apart f.matrix f.etas f.basics c.self.invariant.0 (c.args.first - 1) c.index-eta.result.now
    (omega (arith, below, c.if-first-eq0.false)) c.index-eta.ensures

pub leave_whole-requires-clause-whole : goal.leave_whole-requires-clause-whole
leave_whole-requires-clause-whole c =
    let f = inverse_of c.self.inside in
    let below : c.args.first ≤ length f.etas = rw (← c.self.view_is) at c.requires.within in
    whole_is f.matrix f.etas f.basics c.self.invariant.0 (c.args.first - 1) c.index-eta.result.now
    (omega (arith, below, c.if-first-eq0.false)) c.index-eta.ensures

pub returns-else-first-eq0-clause-direction : goal.returns-else-first-eq0-clause-direction
returns-else-first-eq0-clause-direction c =
    let f = inverse_of c.self.inside in
    let below : c.args.first ≤ length f.etas = rw (← c.self.view_is) at c.requires.within in
    let places : length c.args.out.now ≡ size f.matrix = rw (← c.self.view_is) at c.requires.places in
    let own : c.index-eta.result.now.p ≡ c.args.j =
    ap (λ (x : StoredEta). x.p) c.index-eta.ensures ∙ (rw (← c.self.view_is) at c.requires.left) c.index-eta.result.now c.if-first-eq0.false in
    let new = c.leave_whole.new.out in
    rw (← c.self.view_is)
    (some_map c.leave_whole.result (λ d. Represent (IsLeaving c.index-eta.result.now) d new) (λ d. Represent (IsDirectionAfter f c.args.first c.args.j) d new)
    (λ d h.
    stand_map (IsLeaving c.index-eta.result.now) (IsDirectionAfter f c.args.first c.args.j) d new
    (λ leaving. left f.matrix f.etas f.basics c.self.invariant.0 (c.args.first - 1) c.index-eta.result.now
    (omega (arith, below, c.if-first-eq0.false)) c.index-eta.ensures
    (quotients d new) (length-quotients d new ∙ c.leave_whole.ensures.places ∙ places) leaving c.args.first c.args.j
    (omega (arith, c.if-first-eq0.false)) own) h)
    c.leave_whole.ensures.leaving)
