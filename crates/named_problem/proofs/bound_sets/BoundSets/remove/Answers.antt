use Rattle.std.proofs.Common.{map, refl, ap, ◌∙◌}
use Rattle.named_problem.specs.Views.{group_at}
use Rattle.named_problem.proofs.NamedValues.{removed}
use Rattle.named_problem.proofs.bound_sets.BoundSets.remove.Goals as goal

pub returns : goal.returns
returns c =
    rw (← c.self.view_is)
    (ap (map group_at) c.shift_remove.ensures.entries
    ∙ removed group_at (λ group. group.name) (λ e. refl) c.args.name.now c.self.inside.sets.entries c.self.invariant)
