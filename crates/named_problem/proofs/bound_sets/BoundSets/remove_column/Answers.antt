use Rattle.std.proofs.Common.{rules}
use Rattle.revise_definitions.specs.Edits.{without_column}
use Rattle.named_problem.proofs.Retained.{changed_groups}
use Rattle.named_problem.proofs.bound_sets.BoundSets.remove_column.Goals as goal

pub returns : goal.returns
returns c = rw (← c.self.view_is) (changed_groups _ (without_column c.args.column.now) _ (λ k v b w g call. search rules) _ _ c.retain.ensures.filtered)
