use Rattle.std.proofs.Common.{ℕ, List, length, ap, subst, ◌∙◌}
use Rattle.problem_definitions.specs.Problem.{Row}
use Rattle.selection_definitions.specs.Limits.{value_on}
use Rattle.lp_setup.specs.Parts.{by_number, AreRowsMade}
use Rattle.lp_setup.proofs.Lists.{length-by_number}
use Rattle.lp_setup.proofs.selection.all_limits.Goals as goal

pub limits_by_row-requires-clause-range : goal.limits_by_row-requires-clause-range
limits_by_row-requires-clause-range c =
    ap length (c.deref.ensures.value ∙ c.in_ok-range_values.ensures) ∙ length-by_number (value_on c.args.ranges.now) (length c.rows-rows.result.now)

pub returns-clause-made : goal.returns-clause-made
returns-clause-made c =
    subst (λ (rows : List (Row ℕ)). AreRowsMade rows c.args.sides.now (by_number (value_on c.args.ranges.now) (length rows))
    (length rows)) c.rows-rows.ensures.rows
    (subst (λ values. AreRowsMade c.rows-rows.result.now c.args.sides.now values (length c.rows-rows.result.now))
    (c.deref.ensures.value ∙ c.in_ok-range_values.ensures)
    c.in_ok-limits.ensures.made)
