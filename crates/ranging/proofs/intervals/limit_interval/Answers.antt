use Rattle.std.proofs.Common.{◌≡◌, Err, rules}
use Rattle.ranging.specs.Intervals.{IsOwn, IsIn}
use Rattle.ranging.proofs.Deviations.{low_sum, high_sum, moved_is}
use Rattle.ranging.proofs.intervals.limit_interval.Goals as goal

pub returns-in_err-low-clause-refused : goal.returns-in_err-low-clause-refused
returns-in_err-low-clause-refused c =
    let is_err : c.from_residual.result ≡ Err c.in_err-low.field-0.0 = search rules in
    rw is_err (low_sum c.args.stands c.args.ends.now c.args.k c.in_err-low.field-0.0 c.in_err-low.ensures.refused c.in_err-low.ensures.there)

pub returns-in_err-high-clause-refused : goal.returns-in_err-high-clause-refused
returns-in_err-high-clause-refused c =
    let is_err : c.from_residual-in_err-high.result ≡ Err c.in_err-high.field-0.0 = search rules in
    rw is_err (high_sum c.args.stands c.args.ends.now c.args.k c.in_err-high.field-0.0 c.in_err-high.ensures.refused c.in_err-high.ensures.there)

pub returns-clause-interval : goal.returns-clause-interval
returns-clause-interval c t =
    moved_is c.args.stands t c.args.ends.now c.in_ok-low.low c.in_ok-high.high (IsOwn c.args.lp.now c.args.basis.now c.args.k t)
    (IsIn c.up_to_other.result t) c.in_ok-low.ensures.value c.in_ok-high.ensures.value (c.up_to_other.ensures t)
