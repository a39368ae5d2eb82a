use Rattle.std.proofs.Common.{arith}
use Rattle.lp_definitions.specs.LinearProgram.{IsVariable}
use Rattle.eta_file.specs.File.{inverse_of}
use Rattle.eta_file.proofs.FileLaws.{marks_counted}
use Rattle.eta_file.proofs.file.EtaFile.is_basic.Goals as goal

pub has-requires-clause-high : goal.has-requires-clause-high
has-requires-clause-high c =
    let f = inverse_of c.self.inside in
    let counted = marks_counted f.matrix f.etas f.basics c.self.invariant.0 in
    let is : IsVariable f.matrix c.args.k = rw (← c.self.view_is) at c.requires in
    omega (arith, counted, is.1)
