use Rattle.run_machine.proofs.Deciding.{name_decides}
use Rattle.run_machine.proofs.machine.Machine.move_name.Goals as goal

pub returns-clause-acts : goal.returns-clause-acts
returns-clause-acts g c = λ card. name_decides g.S.Kept.shows c.args.cell c.args.name card c.args.self.now _ _ c.move_name.ensures c.mark_after-self.ensures
