use Rattle.std.proofs.Common.{[], unwrap_or, ap, ◌∙◌}
use Rattle.problem_definitions.specs.Problem.{has_bound}
use Rattle.named_problem.proofs.Grouped.{items_found}
use Rattle.named_problem.proofs.bound_sets.BoundSets.has_bound.Goals as goal

pub returns-in-Some : goal.returns-in-Some
returns-in-Some c =
    rw (← c.self.view_is) (c.has.ensures ∙ ap (λ o. has_bound (unwrap_or o []) c.args.column.now) c.in-Some.ensures.value
    ∙ ap (λ bounds. has_bound bounds c.args.column.now) (items_found c.args.name.now c.self.inside.sets.entries c.self.invariant))

pub returns-in-None : goal.returns-in-None
returns-in-None c =
    rw (← c.self.view_is) (ap (λ o. has_bound (unwrap_or o []) c.args.column.now) c.in-None.ensures.value
    ∙ ap (λ bounds. has_bound bounds c.args.column.now) (items_found c.args.name.now c.self.inside.sets.entries c.self.invariant))
