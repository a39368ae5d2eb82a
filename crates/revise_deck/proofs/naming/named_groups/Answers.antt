use Rattle.std.proofs.Common.{ℕ, map, refl, ap, sym, subst, ◌∙◌}
use Rattle.problem_definitions.specs.Names.{name_at}
use Rattle.problem_definitions.specs.Problem.{Entry, Group, has_group}
use Rattle.problem_definitions.specs.Numbering.{entry_by, group_by}
use Rattle.revise_deck.specs.Different.{AreDifferentEntries}
use Rattle.revise_deck.proofs.Different.{each_at, name_is_new}
use Rattle.revise_deck.proofs.naming.named_groups.Goals as goal

pub named_entries-requires : goal.named_entries-requires
named_entries-requires c =
    subst (λ items. AreDifferentEntries (map (entry_by (name_at (map (λ row. row.name) c.args.rows.now))) items))
    (sym (c.deref.ensures.value ∙ ap (λ (group : Group (Entry ℕ)). group.items) c.group.view_is))
    (each_at (λ group. AreDifferentEntries group.items)
    (group_by (entry_by
    (name_at (map
    (λ row. row.name) c.args.rows.now)))) c.args.groups.now c.loop-group.group-index _ c.group-item.result c.requires.items c.loop-group-test.true
    c.group-item.is)

pub add-requires : goal.add-requires
add-requires c =
    ap (λ (group : Group (Entry ℕ)). has_group c.loop-group.list group.name) c.group.view_is
    ∙ name_is_new (group_by (entry_by (name_at (map (λ row. row.name) c.args.rows.now))))
    (λ group. group.name) c.args.groups.now c.loop-group.list c.loop-group.group-index _ c.group-item.result
    (group_by (entry_by (name_at (map (λ row. row.name) c.args.rows.now))) c.group-item.result)
    c.requires.names c.loop-group-test.true c.group-item.is refl c.loop-group.invariant
