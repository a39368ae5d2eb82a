use Rattle.std.proofs.Common.{ap, sym, ◌∙◌}
use Rattle.deck_fields.specs.Views.{viewed}
use Rattle.revise_edits.specs.EditTests.{edit_test}
use Rattle.revise_edits.proofs.Faultless.{rows_needs, columns_needs, rhs_needs, ranges_needs, bounds_needs}
use Rattle.revise_edits.proofs.card_edit.edit.Goals as goal

pub edit_rows_of-requires : goal.edit_rows_of-requires
edit_rows_of-requires c =
    rows_needs c.args.problem.now c.args.action c.args.under.now (viewed c.args.card.now)
    (ap (λ section. edit_test c.args.problem.now section c.args.action c.args.under.now (viewed c.args.card.now)) (sym c.in-Rows.is) ∙ c.requires)

pub edit_columns_of-requires : goal.edit_columns_of-requires
edit_columns_of-requires c =
    columns_needs c.args.problem.now c.args.action c.args.under.now (viewed c.args.card.now)
    (ap (λ section. edit_test c.args.problem.now section c.args.action c.args.under.now (viewed c.args.card.now)) (sym c.in-Columns.is) ∙ c.requires)

pub edit_sets_of-requires : goal.edit_sets_of-requires
edit_sets_of-requires c =
    rhs_needs c.args.problem.now c.args.action c.args.under.now (viewed c.args.card.now)
    (ap (λ section. edit_test c.args.problem.now section c.args.action c.args.under.now (viewed c.args.card.now)) (sym c.in-Rhs.is) ∙ c.requires)

pub edit_sets_of-requires-in-Ranges : goal.edit_sets_of-requires-in-Ranges
edit_sets_of-requires-in-Ranges c =
    ranges_needs c.args.problem.now c.args.action c.args.under.now (viewed c.args.card.now)
    (ap (λ section. edit_test c.args.problem.now section c.args.action c.args.under.now (viewed c.args.card.now)) (sym c.in-Ranges.is) ∙ c.requires)

pub edit_bounds_of-requires : goal.edit_bounds_of-requires
edit_bounds_of-requires c =
    bounds_needs c.args.problem.now c.args.action c.args.under.now (viewed c.args.card.now)
    (ap (λ section. edit_test c.args.problem.now section c.args.action c.args.under.now (viewed c.args.card.now)) (sym c.in-Bounds.is) ∙ c.requires)
