use Rattle.std.proofs.Common.{refl}
use Rattle.parametric_request.specs.Asking.{changing_of}
use Rattle.parametric_request.proofs.Asked.{not_asked, changes_from, no_change_from}
use Rattle.listing_walk.specs.ParametricVerbs.{beginning}
use Rattle.listing_walk.proofs.ParametricHeld.{unasked_by_last}
use Rattle.listing_walk.proofs.asked_runs.asked_run.Goals as goal

pub returns-in-Err-clause-refused : goal.returns-in-Err-clause-refused
returns-in-Err-clause-refused g c =
    not_asked c.args.verb c.args.problem.now (beginning c.args.from c.args.cells.now) c.in-Err.stop
    (no_change_from c.args.verb c.args.problem.now c.args.cells.now c.args.from c.in-Err.stop c.in-Err.ensures.refused)

pub returns-in-Ok-last_value-clause-asked : goal.returns-in-Ok-last_value-clause-asked
returns-in-Ok-last_value-clause-asked g c = record {
  changes = changes_from c.args.verb c.args.problem.now c.args.cells.now c.args.from (changing_of c.in-Ok.made.0 c.in-Ok.made.1) c.in-Ok.ensures.changes;
  is_last = c.in-Ok-last_value.ensures.last;
  is_first = refl;
  is_limit = refl;
}

pub returns-in-Err-last_value-clause-refused : goal.returns-in-Err-last_value-clause-refused
returns-in-Err-last_value-clause-refused g c =
    unasked_by_last c.args.verb c.args.problem.now (beginning c.args.from c.args.cells.now) _
    (changes_from c.args.verb c.args.problem.now c.args.cells.now c.args.from
    (changing_of c.in-Ok.made.0 c.in-Ok.made.1) c.in-Ok.ensures.changes) c.in-Err-last_value.stop
    c.in-Err-last_value.ensures.refused
