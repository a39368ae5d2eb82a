use Rattle.std.proofs.Common.{◌≡◌, Err, rules}
use Rattle.ranging.proofs.Deviations.{low_difference, high_difference}
use Rattle.ranging.proofs.intervals.cost_interval.Goals as goal

pub returns-in_err-low-clause-refused : goal.returns-in_err-low-clause-refused
returns-in_err-low-clause-refused c =
    let is_err : c.from_residual.result ≡ Err c.in_err-low.field-0.0 = search rules in
    rw is_err (high_difference c.args.cost c.args.ends.now c.args.i c.in_err-low.field-0.0 c.in_err-low.ensures.refused c.in_err-low.ensures.there)

pub returns-in_err-high-clause-refused : goal.returns-in_err-high-clause-refused
returns-in_err-high-clause-refused c =
    let is_err : c.from_residual-in_err-high.result ≡ Err c.in_err-high.field-0.0 = search rules in
    rw is_err (low_difference c.args.cost c.args.ends.now c.args.i c.in_err-high.field-0.0 c.in_err-high.ensures.refused c.in_err-high.ensures.there)
