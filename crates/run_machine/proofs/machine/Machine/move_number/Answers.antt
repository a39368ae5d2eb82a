use Rattle.run_machine.proofs.Deciding.{number_decides}
use Rattle.run_machine.proofs.machine.Machine.move_number.Goals as goal

pub returns-clause-acts : goal.returns-clause-acts
returns-clause-acts g c = λ card. number_decides g.S.Kept.shows c.args.cell c.args.value card c.args.self.now _ c.move_number.ensures
