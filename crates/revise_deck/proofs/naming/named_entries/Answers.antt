use Rattle.std.proofs.Common.{map, refl}
use Rattle.problem_definitions.specs.Names.{name_at}
use Rattle.problem_definitions.specs.Numbering.{entry_by}
use Rattle.revise_deck.proofs.Different.{name_is_new}
use Rattle.revise_deck.proofs.naming.named_entries.Goals as goal

pub add_named-requires : goal.add_named-requires
add_named-requires c =
    name_is_new (entry_by (name_at (map (λ row. row.name) c.args.rows.now)))
    (λ entry. entry.row) c.args.entries.now _ c.loop-entry.entry-index _ c.entry-item.result _ c.requires c.loop-entry-test.true c.entry-item.is refl
    c.loop-entry.invariant
