use Rattle.std.proofs.Common.{sym, ◌∙◌}
use Rattle.selection_laws.proofs.FreeRows.{free_found, free_in}
use Rattle.lp_setup.proofs.changes.free_row.Goals as goal

pub returns-then-has_free_row-clause-number : goal.returns-then-has_free_row-clause-number
returns-then-has_free_row-clause-number c =
    free_found c.args.problem.now c.args.name.now c.rows-rows.result.now c.row_number.result c.rows-rows.ensures.rows c.row_number.ensures.number
    (sym c.has_free_row.ensures ∙ c.if-has_free_row.true)

pub returns-then-has_free_row-clause-free : goal.returns-then-has_free_row-clause-free
returns-then-has_free_row-clause-free c =
    free_in c.args.problem.now c.args.name.now c.rows-rows.result.now c.row_number.result c.rows-rows.ensures.is_problem c.rows-rows.ensures.rows
    c.row_number.ensures.number
    (sym c.has_free_row.ensures ∙ c.if-has_free_row.true)
