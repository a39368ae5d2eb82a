use Rattle.eta_file.specs.File.{inverse_of}
use Rattle.eta_file.proofs.FileLaws.{marks_nonsingular}
use Rattle.eta_file.proofs.file.EtaFile.size.Goals as goal

pub returns-clause-nonsingular : goal.returns-clause-nonsingular
returns-clause-nonsingular c =
    let f = inverse_of c.self.inside in
    rw (← c.self.view_is) (marks_nonsingular f.matrix f.etas f.basics c.self.invariant.0)
