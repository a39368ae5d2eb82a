use Rattle.std.proofs.Common.{ap}
use Rattle.problem_definitions.specs.Names.{Name}
use Rattle.problem_definitions.specs.Problem.{Problem}
use Rattle.deck_fields.specs.Views.{viewed}
use Rattle.revise_edits.proofs.FaultParts.{modified_parts}
use Rattle.revise_edits.proofs.faults.modified_column_fault.Goals as goal

pub returns : goal.returns
returns c =
    modified_parts c.args.seen.now
    (viewed c.args.card.now) c.first_of.result c.column_head_fault-head.result c.put_column_fault-rest.result c.seen.inside.columns
    c.first_of.ensures c.column_head_fault-head.ensures c.put_column_fault-rest.ensures (ap (λ (p : Problem Name). p.columns) c.seen.view_is)
