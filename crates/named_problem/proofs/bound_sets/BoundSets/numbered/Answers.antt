use Rattle.std.proofs.Common.{rules}
use Rattle.problem_definitions.specs.Numbering.{bound_by, group_by}
use Rattle.named_problem.specs.Views.{group_at, column_number}
use Rattle.named_problem.proofs.MadeOf.{made_of_shown}
use Rattle.named_problem.proofs.bound_sets.BoundSets.numbered.Goals as goal

pub returns : goal.returns
returns c =
    let make = group_by (bound_by (column_number c.args.columns.now)) in
    made_of_shown c.self.inside.sets.entries group_at make c.args.self.now c.self.view_is c.made_of_each.result
    (c.made_of_each.ensures (λ e. make (group_at e)) (λ name value result met. search rules))
