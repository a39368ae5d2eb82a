use Rattle.std.proofs.Common.{rules}
use Rattle.revise_definitions.specs.Edits.{without_row}
use Rattle.named_problem.proofs.Retained.{changed_groups}
use Rattle.named_problem.proofs.groups.remove_row_in.Goals as goal

pub returns-clause-left : goal.returns-clause-left
returns-clause-left c = changed_groups _ (without_row c.args.row.now) _ (λ k v b w g call. search rules) _ _ c.retain.ensures.filtered
