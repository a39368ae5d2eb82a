use Rattle.std.proofs.Common.{not, ap, ◌∙◌}
use Rattle.std.proofs.Common.{is_some}
use Rattle.std.specs.List.{list_any}
use Rattle.named_problem.proofs.Slots.{held-none}
use Rattle.named_problem.proofs.bounds.Bounds.is_empty.Goals as goal

pub returns : goal.returns
returns c =
    rw (← c.self.view_is) (ap not c.any_held.ensures ∙ ap (λ slots. not (list_any is_some slots)) c.deref.ensures.value ∙ held-none c.self.inside.slots.items)
