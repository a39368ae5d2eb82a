use Rattle.std.proofs.Common.{[], unwrap_or, ap, ◌∙◌}
use Rattle.named_problem.proofs.Grouped.{items_found}
use Rattle.named_problem.proofs.groups.Groups.items.Goals as goal

pub returns : goal.returns
returns c = rw (← c.self.view_is) (ap (λ o. unwrap_or o []) c.get.ensures.value ∙ items_found c.args.name.now c.self.inside.groups.entries c.self.invariant.0)
