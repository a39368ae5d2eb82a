use Rattle.named_problem.specs.NotedEnds.{is_at_end}
use Rattle.named_problem.proofs.Slots.{all_kept}
use Rattle.named_problem.proofs.bounds.Bounds.remove_end_if.Goals as goal

pub returns-else-matters : goal.returns-else-matters
returns-else-matters c = all_kept c.args.matters (is_at_end c.args.end c.args.column.now) c.args.self.now c.if-matters.false
