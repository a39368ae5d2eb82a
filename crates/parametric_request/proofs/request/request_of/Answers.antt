use Rattle.parametric_request.specs.Asking.{no_value}
use Rattle.parametric_request.proofs.Asked.{forward, not_asked}
use Rattle.parametric_request.proofs.request.request_of.Goals as goal

pub returns-in-Err-clause-refused : goal.returns-in-Err-clause-refused
returns-in-Err-clause-refused c = not_asked c.args.verb c.args.problem.now c.args.cells.now c.in-Err.stop c.in-Err.ensures.refused

pub returns-in-Ok-last_value-clause-of : goal.returns-in-Ok-last_value-clause-of
returns-in-Ok-last_value-clause-of c =
    (c.in-Ok.ensures.of, forward c.args.cells.now c.param.result c.in-Ok-last_value.to c.param.ensures c.in-Ok-last_value.ensures.last)

pub returns-in-Err-last_value-clause-refused : goal.returns-in-Err-last_value-clause-refused
returns-in-Err-last_value-clause-refused c = no_value c.in-Ok.ensures.changes c.in-Err-last_value.ensures.fault
