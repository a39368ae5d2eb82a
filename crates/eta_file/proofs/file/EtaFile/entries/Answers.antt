use Rattle.std.proofs.Common.{rules, ◌≡◌, ◌<◌, ◌+◌, length, arith, take}
use Rattle.eta_file.specs.Prefixes.{entry_count}
use Rattle.eta_file.specs.File.{inverse_of}
use Rattle.eta_file.proofs.FileLaws.{entries_few, count_next}
use Rattle.eta_file.proofs.file.EtaFile.entries.Goals as goal

pub overflow_add-total : goal.overflow_add-total
overflow_add-total c =
    let f = inverse_of c.self.inside in
    let below : c.loop-place.place < length f.etas = search rules in
    let more = count_next f.matrix f.etas f.basics c.self.invariant.0 c.loop-place.place c.index-eta.result.now below c.index-eta.ensures in
    let few = entries_few f.matrix f.etas f.basics c.self.invariant.0 (c.loop-place.place + 1) (omega (arith, below)) in
    let so_far : c.loop-place.total ≡ entry_count (take c.loop-place.place f.etas) = rw (← c.self.view_is) at c.loop-place.invariant in
    let items : c.len.result ≡ length c.index-eta.result.now.entries.items = search rules in
    let limit : length f.etas < 4294967295 = c.self.invariant.0.few in
    omega (arith, more, few, so_far, items, limit, below)

pub loop-place-preserved : goal.loop-place-preserved
loop-place-preserved c =
    let f = inverse_of c.self.inside in
    let below : c.loop-place.place < length f.etas = search rules in
    let more = count_next f.matrix f.etas f.basics c.self.invariant.0 c.loop-place.place c.index-eta.result.now below c.index-eta.ensures in
    let so_far : c.loop-place.total ≡ entry_count (take c.loop-place.place f.etas) = rw (← c.self.view_is) at c.loop-place.invariant in
    let items : c.len.result ≡ length c.index-eta.result.now.entries.items = search rules in
    rw (← c.self.view_is) (omega (arith, more, so_far, items))
