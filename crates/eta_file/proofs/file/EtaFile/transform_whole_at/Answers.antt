use Rattle.std.proofs.Common.{◌+◌, ◌∙◌, length}
use Rattle.whole_vectors.specs.Quotients.{quotients, Represent}
use Rattle.whole_vectors.proofs.Over.{length-quotients, stand_map}
use Rattle.eta_file.specs.Transformations.{IsTransformed}
use Rattle.eta_file.specs.Inverse.{IsDirectionAfter}
use Rattle.eta_file.specs.File.{inverse_of}
use Rattle.eta_file.proofs.FileLaws.{some_map, within_places, whole_is, transformed}
use Rattle.eta_file.proofs.file.EtaFile.transform_whole_at.Goals as goal

pub transform_whole-requires-clause-places : goal.transform_whole-requires-clause-places
transform_whole-requires-clause-places c =
    let f = inverse_of c.self.inside in
    within_places f.matrix f.etas f.basics c.self.invariant.0 c.args.place c.index-eta.result.now
    (rw (← c.self.view_is) at c.requires.within) c.index-eta.ensures
    (length c.args.out.now) (rw (← c.self.view_is) at c.requires.places)

pub transform_whole-requires-clause-whole : goal.transform_whole-requires-clause-whole
transform_whole-requires-clause-whole c =
    let f = inverse_of c.self.inside in
    whole_is f.matrix f.etas f.basics c.self.invariant.0 c.args.place c.index-eta.result.now (rw (← c.self.view_is) at c.requires.within) c.index-eta.ensures

pub returns-clause-direction : goal.returns-clause-direction
returns-clause-direction c =
    let f = inverse_of c.self.inside in
    let direction : Represent (IsDirectionAfter f c.args.place c.args.j) c.args.denominator c.args.out.now = rw (← c.self.view_is) at c.requires.direction in
    rw (← c.self.view_is)
    (some_map c.transform_whole.result
    (λ d. Represent (IsTransformed c.index-eta.result.now (quotients c.args.denominator c.args.out.now)) d c.transform_whole.new.out)
    (λ d. Represent (IsDirectionAfter f (c.args.place + 1) c.args.j) d c.transform_whole.new.out)
    (λ d h.
    stand_map (IsTransformed c.index-eta.result.now (quotients c.args.denominator c.args.out.now))
    (IsDirectionAfter f (c.args.place + 1) c.args.j) d c.transform_whole.new.out
    (transformed f.matrix f.etas f.basics c.self.invariant.0 c.args.place c.index-eta.result.now
    (rw (← c.self.view_is) at c.requires.within) c.index-eta.ensures
    c.args.j (rw (← c.self.view_is) at c.requires.before) (rw (← c.self.view_is) at c.requires.then) (quotients c.args.denominator c.args.out.now)
    (length-quotients c.args.denominator c.args.out.now ∙ (rw (← c.self.view_is) at c.requires.places)) direction.holds
    (quotients d c.transform_whole.new.out)) h)
    c.transform_whole.ensures.transformed)
