use Rattle.std.proofs.Common.{ap}
use Rattle.problem_definitions.specs.Names.{Name}
use Rattle.problem_definitions.specs.Problem.{Problem}
use Rattle.deck_fields.specs.Views.{viewed}
use Rattle.revise_edits.proofs.FaultParts.{inserted_parts}
use Rattle.revise_edits.proofs.faults.inserted_column_fault.Goals as goal

pub returns : goal.returns
returns c =
    inserted_parts c.args.seen.now
    (viewed c.args.card.now) c.args.goes_on c.first_of.result c.column_head_fault-head.result c.insert_column_fault-rest.result c.seen.inside.columns
    c.first_of.ensures c.column_head_fault-head.ensures c.insert_column_fault-rest.ensures (ap (λ (p : Problem Name). p.columns) c.seen.view_is)
