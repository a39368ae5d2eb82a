use Rattle.std.proofs.Common.{sym, ◌∙◌}
use Rattle.deck_fields.specs.Views.{viewed}
use Rattle.named_problem.specs.Changes.{bounds_changed}
use Rattle.named_problem.proofs.NamedValues.{unchanged_group}
use Rattle.named_problem.proofs.bound_sets.BoundSets.change.Goals as goal

pub returns-then-not-has : goal.returns-then-not-has
returns-then-not-has c =
    sym (unchanged_group c.args.card.now.name1 (bounds_changed c.args.change (viewed c.args.card.now)) c.args.self.now (sym c.has.ensures ∙ c.if-not-has.true))
