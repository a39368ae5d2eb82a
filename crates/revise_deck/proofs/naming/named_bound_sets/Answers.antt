use Rattle.std.proofs.Common.{ℕ, map, refl, ap, sym, subst, ◌∙◌}
use Rattle.problem_definitions.specs.Names.{name_at}
use Rattle.problem_definitions.specs.Problem.{Bound, Group, group_names, has_group}
use Rattle.problem_definitions.specs.Numbering.{bound_by, group_by}
use Rattle.revise_deck.specs.Different.{AreDifferentBounds}
use Rattle.revise_deck.proofs.Different.{each_at, name_is_new}
use Rattle.revise_deck.proofs.naming.named_bound_sets.Goals as goal

pub named_bounds-requires : goal.named_bounds-requires
named_bounds-requires c =
    subst (λ items. AreDifferentBounds (map (bound_by (name_at (group_names c.args.columns.now))) items))
    (sym (c.deref.ensures.value ∙ ap (λ (group : Group (Bound ℕ)). group.items) c.set.view_is))
    (each_at (λ group. AreDifferentBounds group.items)
    (group_by (bound_by
    (name_at (group_names c.args.columns.now)))) c.args.sets.now c.loop-set.set-index _ c.set-item.result c.requires.items c.loop-set-test.true c.set-item.is)

pub add-requires : goal.add-requires
add-requires c =
    ap (λ (group : Group (Bound ℕ)). has_group c.loop-set.list group.name) c.set.view_is
    ∙ name_is_new (group_by (bound_by (name_at (group_names c.args.columns.now))))
    (λ group. group.name) c.args.sets.now c.loop-set.list c.loop-set.set-index _ c.set-item.result
    (group_by (bound_by (name_at (group_names c.args.columns.now))) c.set-item.result)
    c.requires.names c.loop-set-test.true c.set-item.is refl c.loop-set.invariant
