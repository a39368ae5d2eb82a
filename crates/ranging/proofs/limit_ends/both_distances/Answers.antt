use Rattle.std.proofs.Common.{◌≡◌, Err, rules, arith}
use Rattle.ranging.proofs.Distances.{limit_refused}
use Rattle.ranging.proofs.limit_ends.both_distances.Goals as goal

pub returns-in_err-low-clause-refused : goal.returns-in_err-low-clause-refused
returns-in_err-low-clause-refused c =
    let is_err : c.from_residual.result ≡ Err c.in_err-low.field-0.0 = search rules in
    rw is_err (limit_refused c.args.lp.now c.args.value c.args.i 1 c.in_err-low.field-0.0 c.lower_limit.result c.lower_limit.ensures
    (omega arith) c.in_err-low.ensures.refused c.in_err-low.ensures.there)

pub returns-in_err-high-clause-refused : goal.returns-in_err-high-clause-refused
returns-in_err-high-clause-refused c =
    let is_err : c.from_residual-in_err-high.result ≡ Err c.in_err-high.field-0.0 = search rules in
    rw is_err (limit_refused c.args.lp.now c.args.value c.args.i 2 c.in_err-high.field-0.0 c.upper_limit.result c.upper_limit.ensures
    (omega arith) c.in_err-high.ensures.refused c.in_err-high.ensures.there)
