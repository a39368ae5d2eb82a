use Rattle.run_machine.proofs.Deciding.{limit_decides}
use Rattle.run_machine.proofs.machine.Machine.move_limit.Goals as goal

pub returns-clause-acts : goal.returns-clause-acts
returns-clause-acts g c = λ card. limit_decides g.S.Kept.shows c.args.limit card c.args.self.now _ c.move_limit.ensures
