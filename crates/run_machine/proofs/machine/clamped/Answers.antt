use Rattle.std.proofs.Common.{arith}
use Rattle.run_machine.proofs.Clamping.{same_after}
use Rattle.run_machine.proofs.machine.clamped.Goals as goal

pub returns-clause-same : goal.returns-clause-same
returns-clause-same c = same_after c.args.cards.now c.args.number _ (omega arith)
