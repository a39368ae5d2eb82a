use Rattle.std.proofs.Common.{◌≡◌, Some, map, slice_get, sym, ap, ◌∙◌}
use Rattle.std.specs.Option.{option_map}
use Rattle.std.proofs.lemmas.List.{take-map}
use Rattle.std.proofs.lemmas.Option.{slice_get-get_or, slice_get-map}
use Rattle.basis_deck.proofs.Named.{next_is_new}
use Rattle.basis_deck.proofs.names.names_of_rows.Goals as goal

pub add_new-requires-clause-is_new : goal.add_new-requires-clause-is_new
add_new-requires-clause-is_new c =
    let at : slice_get (map (λ row. row.name) c.args.rows.now) c.loop-row.row-index ≡ Some c.row.inside.name
    = slice_get-map (λ row. row.name) c.args.rows.now c.loop-row.row-index
    ∙ ap (option_map (λ row. row.name))
    (slice_get-get_or c.args.rows.now c.loop-row.row-index c.row-item.result c.loop-row-test.true ∙ ap (λ row. Some row) (sym c.row-item.is))
    ∙ ap (λ row. Some row.name) (sym c.row.view_is) in
    next_is_new (map (λ row. row.name) c.args.rows.now) c.loop-row.names c.loop-row.row-index c.row.inside.name c.requires.distinct at
    (c.loop-row.invariant ∙ sym (take-map (λ row. row.name) c.loop-row.row-index c.args.rows.now))
