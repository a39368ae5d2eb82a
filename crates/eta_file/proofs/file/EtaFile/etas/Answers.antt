use Rattle.std.proofs.Common.{rules, ◌≡◌, length}
use Rattle.eta_file.specs.File.{inverse_of}
use Rattle.eta_file.proofs.Counts.{columns_at_most}
use Rattle.eta_file.proofs.file.EtaFile.etas.Goals as goal

pub returns-clause-enough : goal.returns-clause-enough
returns-clause-enough c =
    let f = inverse_of c.self.inside in
    let few = columns_at_most f.matrix f.etas f.basics c.self.invariant.0.are_marks in
    let all : c.len.result ≡ length f.etas = search rules in
    rw (← c.self.view_is, all) few
