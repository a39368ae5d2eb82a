use Rattle.std.proofs.Common.{map, ap, ◌∙◌}
use Rattle.named_problem.specs.Views.{entry_at}
use Rattle.named_problem.proofs.NamedValues.{entry_put}
use Rattle.named_problem.proofs.entries.Entries.put.Goals as goal

pub returns : goal.returns
returns c =
    rw (← c.self.view_is) (ap (map entry_at) c.in_ok-insert.ensures.entries ∙ entry_put c.args.row c.args.number c.self.inside.values.entries c.self.invariant)
