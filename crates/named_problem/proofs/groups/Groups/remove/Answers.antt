use Rattle.std.proofs.Common.{map, refl, ap, sym, subst, ◌∙◌}
use Rattle.named_problem.specs.Views.{group_at}
use Rattle.named_problem.specs.Views.{AreShort}
use Rattle.named_problem.proofs.NamedValues.{removed}
use Rattle.named_problem.proofs.Counted.{count_removed, short-removed}
use Rattle.named_problem.proofs.groups.Groups.remove.Goals as goal

pub invariant_of-self : goal.invariant_of-self
invariant_of-self c = (
  c.shift_remove.ensures.unique,
  count_removed c.args.name.now c.self.inside.groups.entries c.shift_remove.new.self.entries c.self.inside.count c.count_under-before.result _
      c.self.invariant.1 c.shift_remove.ensures.entries c.count_under-before.ensures.count
      c.saturating_sub-self-inside.ensures,
  subst (λ es. AreShort (map group_at es)) (sym c.shift_remove.ensures.entries) (short-removed c.args.name.now c.self.inside.groups.entries c.self.invariant.2),
)

pub returns : goal.returns
returns c =
    rw (← c.self.view_is)
    (ap (map group_at) c.shift_remove.ensures.entries
    ∙ removed group_at (λ group. group.name) (λ e. refl) c.args.name.now c.self.inside.groups.entries c.self.invariant.0)
