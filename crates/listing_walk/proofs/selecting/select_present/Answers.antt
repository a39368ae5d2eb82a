use Rattle.run_definitions.specs.State.{choice_of}
use Rattle.listing_walk.proofs.Selected.{not_made_by}
use Rattle.listing_walk.proofs.selecting.select_present.Goals as goal

pub returns-in-Err-clause-refused : goal.returns-in-Err-clause-refused
returns-in-Err-clause-refused c =
    not_made_by c.args.problem.now
    (choice_of c.args.cells.now c.args.options) c.in-Err.refusal c.unselected_by.result c.unselected_by.ensures c.in-Err.ensures.refused
