use Rattle.std.proofs.Common.{length, map, ap, sym, subst, ◌∙◌}
use Rattle.std.specs.List.{sum_by}
use Rattle.named_problem.specs.Views.{group_at}
use Rattle.named_problem.specs.Views.{AreShort}
use Rattle.named_problem.proofs.Counted.{total-filled, short-filled}
use Rattle.named_problem.proofs.groups.Groups.remove_empty.Goals as goal

pub invariant_of-self : goal.invariant_of-self
invariant_of-self c = (
  c.remove_empty_in.ensures.distinct,
  c.self.invariant.1
      ∙ sym (ap (sum_by (λ group. length group.items)) c.remove_empty_in.ensures.left ∙ total-filled (map group_at c.self.inside.groups.entries)),
  subst AreShort (sym c.remove_empty_in.ensures.left) (short-filled (map group_at c.self.inside.groups.entries) c.self.invariant.2),
)
