use Rattle.std.proofs.Common.{◌≤◌, length, subst}
use Rattle.std.proofs.lemmas.List.{take_all}
use Rattle.selection_definitions.specs.Limits.{unbounded, column_limits}
use Rattle.lp_setup.proofs.Lists.{Holds, holds-all}
use Rattle.lp_setup.proofs.parts.limits_by_column.Goals as goal

pub returns : goal.returns
returns c =
    let past : length c.args.bounds.now ≤ c.loop-bound.bound-index = c.loop-bound-test.false in
    holds-all (column_limits c.args.bounds.now) c.args.columns unbounded c.loop-bound.limits.items
    (subst (λ bounds. Holds (column_limits bounds) c.args.columns unbounded c.loop-bound.limits.items)
    (take_all c.loop-bound.bound-index c.args.bounds.now past) c.loop-bound.invariant)
