use Rattle.std.proofs.Common.{refl, sym, ◌∙◌}
use Rattle.parametric_request.specs.Asking.{no_last}
use Rattle.parametric_request.proofs.Asked.{last_serves, last_is_less}
use Rattle.listing_walk.specs.ParametricVerbs.{beginning}
use Rattle.listing_walk.proofs.asked_runs.last_value.Goals as goal

pub returns-in_default-clause-refused : goal.returns-in_default-clause-refused
returns-in_default-clause-refused g c = no_last (sym c.parmax.ensures ∙ c.in_default.is)

pub returns-then-is_below-clause-refused : goal.returns-then-is_below-clause-refused
returns-then-is_below-clause-refused g c =
    last_is_less (beginning c.args.from.now c.args.cells.now) c.in-Some.last c.args.from.now
    (sym c.parmax.ensures ∙ c.in-Some.is) refl c.in-Ok.is_below c.in-Ok.ensures c.if-is_below.true

pub returns-clause-last : goal.returns-clause-last
returns-clause-last g c =
    last_serves (beginning c.args.from.now c.args.cells.now) c.in-Some.last c.args.from.now
    (sym c.parmax.ensures ∙ c.in-Some.is) refl c.in-Ok.is_below c.in-Ok.ensures c.if-is_below.false
