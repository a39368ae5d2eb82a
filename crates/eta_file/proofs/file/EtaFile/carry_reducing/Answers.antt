use Rattle.std.proofs.Common.{◌≡◌, ◌≤◌, ◌+◌, length, sym, ◌∙◌, ap, arith}
use Rattle.eta_file.specs.File.{inverse_of}
use Rattle.eta_file.proofs.FileLaws.{nonbasic_from, at_end}
use Rattle.eta_file.proofs.file.EtaFile.carry_reducing.Goals as goal

pub transform_whole_at-requires-clause-before : goal.transform_whole_at-requires-clause-before
transform_whole_at-requires-clause-before c =
    let f = inverse_of c.self.inside in
    rw (← c.self.view_is)
    (nonbasic_from f.matrix f.etas f.basics c.self.invariant.0 c.args.j c.last_left-first.result
    (rw c.deref.ensures.value at c.last_left-first.ensures.none_later) (rw (← c.self.view_is) at c.requires.nonbasic)
    c.loop-place.place (omega arith))

pub transform_whole_at-requires-clause-then : goal.transform_whole_at-requires-clause-then
transform_whole_at-requires-clause-then c =
    let f = inverse_of c.self.inside in
    rw (← c.self.view_is)
    (nonbasic_from f.matrix f.etas f.basics c.self.invariant.0 c.args.j c.last_left-first.result
    (rw c.deref.ensures.value at c.last_left-first.ensures.none_later) (rw (← c.self.view_is) at c.requires.nonbasic)
    (c.loop-place.place + 1) (omega arith))

pub returns-clause-direction : goal.returns-clause-direction
returns-clause-direction c =
    let f = inverse_of c.self.inside in
    let counted : length f.etas ≡ c.len-place-end.result = sym (ap length c.deref.ensures.value) ∙ c.deref.ensures.len ∙ sym c.len-place-end.ensures in
    let from : length c.deref.result.now ≡ c.len-place-end.result = c.deref.ensures.len ∙ sym c.len-place-end.ensures in
    let first : c.last_left-first.result ≤ c.len-place-end.result = omega (arith, from, c.last_left-first.ensures.within) in
    let last = c.loop-place.auto.place-end first in
    let all : c.loop-place.place ≡ length f.etas = omega (arith, counted, last, c.loop-place-test.false) in
    rw (← c.self.view_is)
    (at_end f.matrix f.etas f.basics c.self.invariant.0 c.args.j c.loop-place.place c.loop-place.denominator c.loop-place.wholes all
    (rw (← c.self.view_is) at c.loop-place.invariant.direction))
