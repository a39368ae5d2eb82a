use Rattle.run_machine.proofs.Deciding.{exit_decides}
use Rattle.run_machine.proofs.machine.Machine.exit.Goals as goal

pub returns : goal.returns
returns g c = λ card. exit_decides g.S.Kept.shows card c.args.self.now
