use Rattle.std.proofs.Common.{◌∙◌}
use Rattle.named_problem.proofs.Slots.{bound_is_there}
use Rattle.named_problem.proofs.bounds.Bounds.has.Goals as goal

pub returns : goal.returns
returns c = c.has_met.ensures ∙ bound_is_there c.args.column.now c.args.self.now
