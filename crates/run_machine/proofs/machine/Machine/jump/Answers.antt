use Rattle.run_machine.proofs.Deciding.{goto_decides}
use Rattle.run_machine.proofs.machine.Machine.jump.Goals as goal

pub returns : goal.returns
returns g c = λ card. goto_decides g.S.Kept.shows c.args.position card c.args.self.now c.requires
