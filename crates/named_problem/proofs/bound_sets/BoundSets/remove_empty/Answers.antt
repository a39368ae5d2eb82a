use Rattle.std.proofs.Common.{rules, not, map, ap, ◌∙◌}
use Rattle.indexmap.proofs.CallerLemmas.{filter-RetainsPairs}
use Rattle.card_definitions.specs.Words.{is_empty}
use Rattle.named_problem.specs.Views.{group_at}
use Rattle.named_problem.proofs.Retained.{filled_groups}
use Rattle.named_problem.proofs.bound_sets.BoundSets.remove_empty.Goals as goal

pub returns : goal.returns
returns c =
    rw (← c.self.view_is)
    (ap (map group_at) (filter-RetainsPairs _ (λ e. not (is_empty e.1)) _ (λ k v b w g call. search rules) _ _ c.retain.ensures.filtered)
    ∙ filled_groups c.self.inside.sets.entries)
