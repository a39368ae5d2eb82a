use Rattle.std.proofs.Common.{◌≤◌, ◌-◌, length, arith}
use Rattle.eta_file.specs.File.{inverse_of}
use Rattle.eta_file.proofs.FileLaws.{exchange_of, entries_at_most_rows}
use Rattle.eta_file.proofs.file.EtaFile.eta.Goals as goal

pub returns-clause-its : goal.returns-clause-its
returns-clause-its c =
    let f = inverse_of c.self.inside in
    let high : c.args.k ≤ length f.etas = rw (← c.self.view_is) at c.requires.high in
    rw (← c.self.view_is, c.deref.ensures.value)
    (exchange_of f.matrix f.etas f.basics c.self.invariant.0 (c.args.k - 1) c.index-eta.result.now (omega (arith, high, c.requires.low)) c.index-eta.ensures)

pub returns-clause-few : goal.returns-clause-few
returns-clause-few c =
    let f = inverse_of c.self.inside in
    let high : c.args.k ≤ length f.etas = rw (← c.self.view_is) at c.requires.high in
    rw (← c.self.view_is, c.deref.ensures.value)
    (entries_at_most_rows f.matrix f.etas f.basics c.self.invariant.0 (c.args.k - 1) c.index-eta.result.now
    (omega (arith, high, c.requires.low)) c.index-eta.ensures)
