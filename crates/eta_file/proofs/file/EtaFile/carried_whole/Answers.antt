use Rattle.lp_definitions.specs.LinearProgram.{value_at}
use Rattle.lp_definitions.specs.Basis.{IsDirectionOf}
use Rattle.whole_vectors.specs.Quotients.{AreQuotients}
use Rattle.eta_file.proofs.FileLaws.{some_map, divided}
use Rattle.eta_file.proofs.file.EtaFile.carried_whole.Goals as goal

pub returns-clause-direction : goal.returns-clause-direction
returns-clause-direction c =
    let f = c.args.self.now in
    let d = c.in_ok-denominator.denominator in
    let carried = c.carry_whole.new.wholes in
    let new = c.divide_into.new.out in
    some_map c.divide_into.result (λ _. AreQuotients d carried new) (λ _. IsDirectionOf f.matrix f.basics c.args.j (value_at new))
    (λ u h. divided f.matrix f.basics c.args.j d carried new c.requires.nonbasic c.in_ok-denominator.ensures.direction h) c.divide_into.ensures
