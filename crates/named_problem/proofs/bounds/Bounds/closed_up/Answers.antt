use Rattle.named_problem.specs.NotedEnds.{AreNoted}
use Rattle.named_problem.specs.declared.ends.ColumnEnd.TheVariants.{Upper, Lower}
use Rattle.std.proofs.Common.{[], ◌∷◌, ◌++◌, ap, sym, ◌∙◌, subst}
use Rattle.named_problem.proofs.Slots.{held_some, held_gap, still_apart}
use Rattle.named_problem.proofs.bounds.Bounds.closed_up.Goals as goal
use Rattle.named_problem.proofs.bounds.Bounds.closed_up.Goals.{in-Some+in_ok-add-in-Some, in-None}

pub loop-slot-preserved : goal.loop-slot-preserved
loop-slot-preserved c = elim c.match-slot.branch [
  | in-Some+in_ok-add-in-Some w ↦ w.bounds-is ∙ w.in_ok-add-in-Some.ensures ∙ ap (λ b. b ++ w.in-Some.bound ∷ []) c.loop-slot.invariant
      ∙ sym (held_some c.deref-slot-items.result.now c.loop-slot.slot-index _ c.slot-item.result w.in-Some.bound c.loop-slot-test.true c.slot-item.is
      w.in-Some.is)
  | in-None w ↦ w.bounds-is ∙ c.loop-slot.invariant
      ∙ sym (held_gap c.deref-slot-items.result.now c.loop-slot.slot-index _ c.slot-item.result c.loop-slot-test.true c.slot-item.is w.in-None.is)
]

pub add-requires : goal.add-requires
add-requires c =
    still_apart c.deref-slot-items.result.now c.loop-slot.slot-index _ c.slot-item.result c.in-Some.bound _ c.self.inside.uppers.entries
    c.self.inside.lowers.entries c.loop-slot-test.true c.slot-item.is c.in-Some.is c.loop-slot.invariant
    (subst (AreNoted Upper c.self.inside.uppers.entries) (sym c.deref-slot-items.ensures.value) c.self.invariant.0)
    (subst (AreNoted Lower c.self.inside.lowers.entries) (sym c.deref-slot-items.ensures.value) c.self.invariant.1)
