use Rattle.problem_definitions.specs.Names.{name_at}
use Rattle.problem_definitions.specs.Problem.{group_names}
use Rattle.problem_definitions.specs.Numbering.{bound_by}
use Rattle.revise_deck.proofs.Different.{bound_is_new}
use Rattle.revise_deck.proofs.naming.named_bounds.Goals as goal

pub add-requires : goal.add-requires
add-requires c =
    bound_is_new
    (bound_by (name_at
    (group_names c.args.columns.now))) c.args.bounds.now _ c.loop-bound.bound-index _ c.bound-item.result _ c.requires c.loop-bound-test.true c.bound-item.is
    c.named_bound.ensures c.loop-bound.invariant
