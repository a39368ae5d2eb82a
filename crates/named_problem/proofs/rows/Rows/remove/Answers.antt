use Rattle.std.proofs.Common.{map, refl, ap, ◌∙◌}
use Rattle.problem_definitions.specs.Parts.{with_parts}
use Rattle.revise_definitions.specs.Edits.{without_row}
use Rattle.named_problem.specs.Bodies.{row_at}
use Rattle.named_problem.proofs.NamedValues.{removed}
use Rattle.named_problem.proofs.rows.Rows.remove.Goals as goal

pub returns : goal.returns
returns c =
    rw (← c.self.view_is)
    (c.remove_parts_in.ensures.left ∙ ap (λ rows. map (with_parts (without_row c.args.name.now)) (map row_at rows)) c.shift_remove.ensures.entries
    ∙ ap (map (with_parts (without_row c.args.name.now)))
    (removed row_at (λ row. row.name) (λ e. refl) c.args.name.now c.self.inside.rows.entries c.self.invariant))
