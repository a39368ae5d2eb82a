use Rattle.std.proofs.Common.{◌∙◌}
use Rattle.named_problem.proofs.Keyed.{entry_is_there}
use Rattle.named_problem.proofs.entries.Entries.has.Goals as goal

pub returns : goal.returns
returns c = rw (← c.self.view_is) (c.contains_key.ensures ∙ entry_is_there c.args.row.now c.self.inside.values.entries)
