use Rattle.std.proofs.Common.{map, refl, ap, ◌∙◌}
use Rattle.named_problem.specs.Views.{entry_at}
use Rattle.named_problem.proofs.NamedValues.{removed}
use Rattle.named_problem.proofs.entries.Entries.remove.Goals as goal

pub returns : goal.returns
returns c =
    rw (← c.self.view_is)
    (ap (map entry_at) c.shift_remove.ensures.entries
    ∙ removed entry_at (λ entry. entry.row) (λ e. refl) c.args.row.now c.self.inside.values.entries c.self.invariant)
