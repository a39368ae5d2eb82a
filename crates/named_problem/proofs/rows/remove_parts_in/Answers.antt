use Rattle.std.proofs.Common.{rules}
use Rattle.revise_definitions.specs.Edits.{without_row}
use Rattle.named_problem.proofs.Retained.{changed_rows}
use Rattle.named_problem.proofs.rows.remove_parts_in.Goals as goal

pub returns-clause-left : goal.returns-clause-left
returns-clause-left c = changed_rows _ (without_row c.args.row.now) _ (λ k v b w g call. search rules) _ _ c.retain.ensures.filtered
