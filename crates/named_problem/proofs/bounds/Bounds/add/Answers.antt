use Rattle.std.proofs.Common.{Some, [], ◌∷◌, ap, ◌∙◌}
use Rattle.deck_definitions.specs.Tests.{is_bound_already}
use Rattle.named_problem.specs.declared.ends.ColumnEnd.TheVariants.{Upper, Lower}
use Rattle.named_problem.specs.NotedEnds.{held}
use Rattle.named_problem.proofs.Slots.{added, free_ends, held-append}
use Rattle.named_problem.proofs.bounds.Bounds.add.Goals as goal

pub invariant_of-self : goal.invariant_of-self
invariant_of-self c =
    let free = free_ends c.args.bound.column c.args.bound.kind (held c.self.inside.slots.items)
    (ap (λ bounds. is_bound_already bounds c.args.bound.column c.args.bound.kind) c.self.view_is ∙ c.requires) in (
      added Upper c.self.inside.uppers.entries c.self.inside.slots.items c.args.bound c.self.invariant.0 free.0 c.add_slot.new.slots.items
          c.add_slot.new.uppers.entries c.in-Ok.ensures.slots c.in-Ok.ensures.uppers,
      added Lower c.self.inside.lowers.entries c.self.inside.slots.items c.args.bound c.self.invariant.1 free.1 c.add_slot.new.slots.items
          c.add_slot.new.lowers.entries c.in-Ok.ensures.slots c.in-Ok.ensures.lowers,
    )

pub returns-in-Ok : goal.returns-in-Ok
returns-in-Ok c = rw (← c.self.view_is) (ap held c.in-Ok.ensures.slots ∙ held-append c.self.inside.slots.items (Some c.args.bound ∷ []))
