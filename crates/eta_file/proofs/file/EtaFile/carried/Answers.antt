use Rattle.std.proofs.Common.{◌+◌, arith}
use Rattle.eta_file.specs.File.{inverse_of}
use Rattle.eta_file.proofs.FileLaws.{nonbasic_from}
use Rattle.eta_file.proofs.PrefixLaws.{entry_count-take_le}
use Rattle.eta_file.proofs.file.EtaFile.carried.Goals as goal

pub returns-in_err-begin-clause-cost : goal.returns-in_err-begin-clause-cost
returns-in_err-begin-clause-cost g c =
    let few = entry_count-take_le c.args.self.now.etas c.last_left-first.result in omega (arith, few, c.in_err-begin.ensures.cost)

pub transform_at-requires-clause-before : goal.transform_at-requires-clause-before
transform_at-requires-clause-before g c =
    let f = inverse_of c.self.inside in
    rw (← c.self.view_is)
    (nonbasic_from f.matrix f.etas f.basics c.self.invariant.0 c.args.j c.last_left-first.result
    (rw c.deref.ensures.value at c.last_left-first.ensures.none_later) (rw (← c.self.view_is) at c.requires.nonbasic)
    c.loop-place.place (omega arith))

pub transform_at-requires-clause-then : goal.transform_at-requires-clause-then
transform_at-requires-clause-then g c =
    let f = inverse_of c.self.inside in
    rw (← c.self.view_is)
    (nonbasic_from f.matrix f.etas f.basics c.self.invariant.0 c.args.j c.last_left-first.result
    (rw c.deref.ensures.value at c.last_left-first.ensures.none_later) (rw (← c.self.view_is) at c.requires.nonbasic)
    (c.loop-place.place + 1) (omega arith))

pub returns-in_err-transform_at-clause-cost : goal.returns-in_err-transform_at-clause-cost
returns-in_err-transform_at-clause-cost g c =
    let few = entry_count-take_le c.args.self.now.etas (c.loop-place.place + 1) in
    omega (arith, few, c.in_err-transform_at.ensures.cost, c.loop-place.invariant.cost)
