use Rattle.std.proofs.Common.{refl}
use Rattle.eta_file.proofs.GuessSteps.{is_direction}
use Rattle.eta_file.proofs.file.EtaFile.guess.Goals as goal

pub returns-clause-direction : goal.returns-clause-direction
returns-clause-direction c =
    is_direction c.args.self.now.matrix c.args.self.now.basics c.args.j c.in_ok-denominator.denominator c.gathered.new.out
    c.in_ok-denominator.ensures.apart c.in_ok-denominator.ensures.own c.in_ok-denominator.ensures.others (c.if-not-keeps_equations.ensures refl)
