use Rattle.run_machine.proofs.Deciding.{demand_decides}
use Rattle.run_machine.proofs.machine.Machine.set_demand.Goals as goal

pub returns-clause-acts : goal.returns-clause-acts
returns-clause-acts g c = λ card. demand_decides g.S.Kept.shows c.args.demand c.args.position card c.args.self.now _ c.set_demand.ensures
