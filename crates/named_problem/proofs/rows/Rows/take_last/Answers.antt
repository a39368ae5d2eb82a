use Rattle.named_problem.proofs.LastRow.{popped_apart}
use Rattle.named_problem.proofs.rows.Rows.take_last.Goals as goal

pub returns-clause-apart : goal.returns-clause-apart
returns-clause-apart c = popped_apart c.self.inside.rows.entries c.pop.new.self.entries c.pop.result c.self.invariant c.pop.ensures.entries
