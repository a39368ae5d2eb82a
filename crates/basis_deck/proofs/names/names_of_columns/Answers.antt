use Rattle.std.proofs.Common.{◌≡◌, Some, map, slice_get, sym, ap, ◌∙◌}
use Rattle.std.specs.Option.{option_map}
use Rattle.std.proofs.lemmas.List.{take-map}
use Rattle.std.proofs.lemmas.Option.{slice_get-get_or, slice_get-map}
use Rattle.basis_deck.proofs.Named.{next_is_new}
use Rattle.basis_deck.proofs.names.names_of_columns.Goals as goal

pub add_new-requires-clause-is_new : goal.add_new-requires-clause-is_new
add_new-requires-clause-is_new c =
    let at : slice_get (map (λ column. column.name) c.args.columns.now) c.loop-column.column-index ≡ Some c.column.inside.name
    = slice_get-map (λ column. column.name) c.args.columns.now c.loop-column.column-index
    ∙ ap (option_map (λ column. column.name))
    (slice_get-get_or c.args.columns.now c.loop-column.column-index c.column-item.result c.loop-column-test.true
    ∙ ap (λ column. Some column) (sym c.column-item.is))
    ∙ ap (λ column. Some column.name) (sym c.column.view_is) in
    next_is_new (map (λ column. column.name) c.args.columns.now) c.loop-column.names c.loop-column.column-index c.column.inside.name c.requires.distinct at
    (c.loop-column.invariant ∙ sym (take-map (λ column. column.name) c.loop-column.column-index c.args.columns.now))
