use Rattle.run_machine.proofs.Deciding.{initialz_decides}
use Rattle.run_machine.proofs.machine.Machine.initialize.Goals as goal

pub returns-clause-acts : goal.returns-clause-acts
returns-clause-acts g c = λ card. initialz_decides g.S.Kept.shows card c.args.self.now c.new-self.result c.new-self.ensures
