use Rattle.std.proofs.Common.{◌∙◌}
use Rattle.named_problem.proofs.Slots.{all_taken}
use Rattle.named_problem.proofs.bounds.Bounds.remove.Goals as goal

pub returns : goal.returns
returns c = c.remove_met.ensures ∙ all_taken c.args.column.now c.args.self.now
