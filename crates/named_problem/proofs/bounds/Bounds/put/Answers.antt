use Rattle.std.proofs.Common.{ap, ◌∙◌}
use Rattle.problem_definitions.specs.Names.{Name}
use Rattle.problem_definitions.specs.Problem.{Bound}
use Rattle.deck_definitions.specs.Tests.{is_bound_already}
use Rattle.named_problem.proofs.Slots.{none_met}
use Rattle.named_problem.proofs.bounds.Bounds.put.Goals as goal

pub add-requires : goal.add-requires
add-requires c =
    ap (λ (b : Bound Name). is_bound_already c.close_up.new.self b.column b.kind) c.bound_from-bound.ensures
    ∙ ap (λ bounds. is_bound_already bounds c.args.card.now.name2 c.args.kind) (c.in_ok-close_up.ensures ∙ c.remove_met.ensures)
    ∙ none_met c.args.card.now.name2 c.args.kind c.args.self.now
