use Rattle.std.proofs.Common.{refl, ap, ◌∙◌, length}
use Rattle.lp_setup.proofs.ValuesInSets.{set_entries, values_there}
use Rattle.lp_setup.proofs.changes.set_values.Goals as goal

pub right_hand_sides-requires : goal.right_hand_sides-requires
right_hand_sides-requires c =
    rw c.rows.ensures.rows
    (set_entries c.args.problem.now c.args.name.now c.in-Some.items.now c.rhs.ensures.is_problem (c.in-Some.ensures.found.1 ∙ rw c.rhs.ensures.rhs refl))

pub returns : goal.returns
returns c =
    values_there c.args.problem.now c.args.name.now c.in-Some.items.now (length c.rows.result.now) c.in_ok-values.values.items
    (rw (← c.rhs.ensures.rhs) c.in-Some.ensures.found.0) (c.in-Some.ensures.found.1 ∙ rw c.rhs.ensures.rhs refl)
    (ap length c.rows.ensures.rows) c.in_ok-values.ensures
