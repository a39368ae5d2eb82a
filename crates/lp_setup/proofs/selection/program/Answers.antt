use Rattle.std.proofs.Common.{ℕ, List, length, map, ap, sym, ◌∙◌, subst}
use Rattle.lp_definitions.specs.LinearProgram.{IsLinearProgram}
use Rattle.problem_definitions.specs.Problem.{Row}
use Rattle.selection_definitions.specs.Limits.{Limits, value_on}
use Rattle.lp_model.specs.Columns.{entries_of}
use Rattle.selection_definitions.specs.Programs.{side_on}
use Rattle.lp_setup.specs.Parts.{by_number, AreRowsMade}
use Rattle.lp_setup.proofs.Lists.{length-by_number}
use Rattle.lp_setup.proofs.Program.{program_made}
use Rattle.lp_setup.proofs.selection.program.Goals as goal

pub all_limits-requires-clause-side : goal.all_limits-requires-clause-side
all_limits-requires-clause-side c =
    ap length (c.deref.ensures.value ∙ c.in_ok-sides.ensures) ∙ length-by_number (side_on c.args.selection.rhs.now) (length c.rows-rows.result.now)
    ∙ ap length c.rows-rows.ensures.rows

pub invariant_of-result : goal.invariant_of-result
invariant_of-result c =
    let low = c.in_ok-lower.ensures ∙ ap (map (λ (pair : Limits). pair.lower)) c.deref-2.ensures.value in
    let high = c.in_ok-upper.ensures ∙ ap (map (λ (pair : Limits). pair.upper)) c.deref-3.ensures.value in
    subst IsLinearProgram
    (sym (program_made c.args.problem.now c.args.selection.objective c.args.selection.rhs.now c.args.selection.ranges.now c.args.selection.bounds.now
    c.args.selection.sense c.rows-rows.result.now c.columns.result.now c.row_count.result c.column_count.result
    (entries_of c.in_ok-columns.columns.items) c.in_ok-limits.limits.items c.in_ok-lower.lower.items c.in_ok-upper.upper.items c.in_ok-sides.sides.items
    c.deref.result.now c.rows-rows.ensures.rows c.columns.ensures.columns
    c.row_count.ensures.count c.column_count.ensures.count c.in_ok-columns.ensures.matrix c.in_ok-limits.ensures.limits c.deref.ensures.value low high
    c.in_ok-sides.ensures)) c.requires.lawful

pub returns-clause-program : goal.returns-clause-program
returns-clause-program c =
    let low = c.in_ok-lower.ensures ∙ ap (map (λ (pair : Limits). pair.lower)) c.deref-2.ensures.value in
    let high = c.in_ok-upper.ensures ∙ ap (map (λ (pair : Limits). pair.upper)) c.deref-3.ensures.value in
    program_made c.args.problem.now c.args.selection.objective c.args.selection.rhs.now c.args.selection.ranges.now c.args.selection.bounds.now
    c.args.selection.sense c.rows-rows.result.now c.columns.result.now c.row_count.result c.column_count.result
    (entries_of c.in_ok-columns.columns.items) c.in_ok-limits.limits.items c.in_ok-lower.lower.items c.in_ok-upper.upper.items c.in_ok-sides.sides.items
    c.deref.result.now c.rows-rows.ensures.rows c.columns.ensures.columns
    c.row_count.ensures.count c.column_count.ensures.count c.in_ok-columns.ensures.matrix c.in_ok-limits.ensures.limits c.deref.ensures.value low high
    c.in_ok-sides.ensures

pub returns-clause-limits_made : goal.returns-clause-limits_made
returns-clause-limits_made c =
    let is_sides =
    c.deref.ensures.value ∙ c.in_ok-sides.ensures
    ∙ ap (λ (rows : List (Row ℕ)). by_number (side_on c.args.selection.rhs.now) (length rows)) c.rows-rows.ensures.rows in
    subst (λ sides. AreRowsMade c.args.problem.now.rows sides (by_number (value_on c.args.selection.ranges.now) (length c.args.problem.now.rows))
    (length c.args.problem.now.rows)) is_sides
    c.in_ok-limits.ensures.made
