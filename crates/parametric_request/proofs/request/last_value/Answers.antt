use Rattle.std.proofs.Common.{sym, ◌∙◌}
use Rattle.parametric_request.specs.Asking.{no_last}
use Rattle.parametric_request.proofs.Asked.{last_serves, last_is_less}
use Rattle.parametric_request.proofs.request.last_value.Goals as goal

pub returns-in_default-clause-fault : goal.returns-in_default-clause-fault
returns-in_default-clause-fault c = no_last (sym c.parmax.ensures ∙ c.in_default.is)

pub returns-then-is_less-clause-fault : goal.returns-then-is_less-clause-fault
returns-then-is_less-clause-fault c =
    last_is_less c.args.cells.now c.in-Some.last c.param.result
    (sym c.parmax.ensures ∙ c.in-Some.is) c.param.ensures c.is_less.result c.is_less.ensures c.if-is_less.true

pub returns-clause-last : goal.returns-clause-last
returns-clause-last c =
    last_serves c.args.cells.now c.in-Some.last c.param.result
    (sym c.parmax.ensures ∙ c.in-Some.is) c.param.ensures c.is_less.result c.is_less.ensures c.if-is_less.false
