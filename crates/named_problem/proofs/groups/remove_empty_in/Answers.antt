use Rattle.std.proofs.Common.{rules, not, map, ap, ◌∙◌}
use Rattle.indexmap.proofs.CallerLemmas.{filter-RetainsPairs}
use Rattle.card_definitions.specs.Words.{is_empty}
use Rattle.named_problem.specs.Views.{group_at}
use Rattle.named_problem.proofs.Retained.{filled_groups}
use Rattle.named_problem.proofs.groups.remove_empty_in.Goals as goal

pub returns-clause-left : goal.returns-clause-left
returns-clause-left c =
    ap (map group_at) (filter-RetainsPairs _ (λ e. not (is_empty e.1)) _ (λ k v b w g call. search rules) _ _ c.retain.ensures.filtered)
    ∙ filled_groups c.args.groups.now.entries
