use Rattle.std.proofs.Common.{◌+◌, length, arith}
use Rattle.eta_file.specs.Transformations.{IsTransformed}
use Rattle.eta_file.specs.Refusals.{TransformRefused}
use Rattle.eta_file.specs.File.{inverse_of}
use Rattle.eta_file.proofs.FileLaws.{refused_map, ok_map, within_places, fewer, count_next, transformed, transformation_refused}
use Rattle.eta_file.proofs.file.EtaFile.transform_at.Goals as goal

pub transform-requires : goal.transform-requires
transform-requires g c =
    let f = inverse_of c.self.inside in
    within_places f.matrix f.etas f.basics c.self.invariant.0 c.args.place c.index-eta.result.now
    (rw (← c.self.view_is) at c.requires.within) c.index-eta.ensures
    (length c.args.out.now) (rw (← c.self.view_is) at c.requires.places)

pub returns-clause-direction : goal.returns-clause-direction
returns-clause-direction g c =
    let f = inverse_of c.self.inside in
    rw (← c.self.view_is)
    (ok_map c.transform.result (IsTransformed c.index-eta.result.now c.args.out.now c.transform.new.out) _
    (transformed f.matrix f.etas f.basics c.self.invariant.0 c.args.place c.index-eta.result.now
    (rw (← c.self.view_is) at c.requires.within) c.index-eta.ensures
    c.args.j (rw (← c.self.view_is) at c.requires.before) (rw (← c.self.view_is) at c.requires.then) c.args.out.now (rw (← c.self.view_is) at c.requires.places)
    (rw (← c.self.view_is) at c.requires.direction) c.transform.new.out)
    c.transform.ensures.transformed)

pub returns-clause-refused : goal.returns-clause-refused
returns-clause-refused g c =
    let f = inverse_of c.self.inside in
    rw (← c.self.view_is)
    (refused_map c.transform.result (TransformRefused c.index-eta.result.now (c.args.place + 1) c.args.j c.args.out.now) _
    (transformation_refused f.matrix f.etas f.basics c.self.invariant.0 c.args.place c.index-eta.result.now
    (rw (← c.self.view_is) at c.requires.within) c.index-eta.ensures
    c.args.j (rw (← c.self.view_is) at c.requires.before) (rw (← c.self.view_is) at c.requires.then) c.args.out.now (rw (← c.self.view_is) at c.requires.places)
    (rw (← c.self.view_is) at c.requires.direction))
    c.transform.ensures.refused)

pub returns-clause-cost : goal.returns-clause-cost
returns-clause-cost g c =
    let f = inverse_of c.self.inside in
    let few =
    fewer f.matrix f.etas f.basics c.self.invariant.0 c.args.place c.index-eta.result.now (rw (← c.self.view_is) at c.requires.within) c.index-eta.ensures in
    let more =
    count_next f.matrix f.etas f.basics c.self.invariant.0 c.args.place c.index-eta.result.now
    (rw (← c.self.view_is) at c.requires.within) c.index-eta.ensures in
    rw (← c.self.view_is) (omega (arith, few, more, c.transform.ensures.cost))
