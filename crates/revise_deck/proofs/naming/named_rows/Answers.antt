use Rattle.std.proofs.Common.{ℕ, map, refl, ap, sym, subst, ◌∙◌}
use Rattle.problem_definitions.specs.Names.{name_at}
use Rattle.std.specs.Option.{option_map, IfSome}
use Rattle.problem_definitions.specs.Problem.{Row, has_row}
use Rattle.problem_definitions.specs.Numbering.{entry_by, row_by}
use Rattle.revise_deck.specs.Different.{AreDifferentEntries}
use Rattle.revise_deck.proofs.Different.{each_at, name_is_new}
use Rattle.revise_deck.proofs.naming.named_rows.Goals as goal

pub named_parts-requires : goal.named_parts-requires
named_parts-requires c =
    subst (λ (row : Row ℕ). IfSome (option_map (map (entry_by (name_at (map (λ row. row.name) c.args.rows.now)))) row.parts) AreDifferentEntries)
    (sym c.row.view_is)
    (each_at (λ row. IfSome row.parts AreDifferentEntries)
    (row_by (name_at
    (map (λ row. row.name) c.args.rows.now))) c.args.rows.now c.loop-row.row-index _ c.row-item.result c.requires.parts c.loop-row-test.true c.row-item.is)

pub add-requires : goal.add-requires
add-requires c =
    ap (λ (row : Row ℕ). has_row c.loop-row.list row.name) c.row.view_is
    ∙ name_is_new (row_by (name_at (map (λ row. row.name) c.args.rows.now)))
    (λ row. row.name) c.args.rows.now c.loop-row.list c.loop-row.row-index _ c.row-item.result
    (row_by (name_at (map (λ row. row.name) c.args.rows.now)) c.row-item.result)
    c.requires.names c.loop-row-test.true c.row-item.is refl c.loop-row.invariant
