use Rattle.std.proofs.Common.{◌≡◌, Err, rules}
use Rattle.ranging.proofs.Distances.{both_limits, low_refused, high_refused}
use Rattle.ranging.proofs.limit_ends.TableauEntry.with_distances.Goals as goal

pub returns-in_err-above-clause-refused : goal.returns-in_err-above-clause-refused
returns-in_err-above-clause-refused c =
    let is_err : c.from_residual.result ≡ Err c.in_err-above.field-0.0 = search rules in
    rw is_err (low_refused c.args.far.now c.args.self.now.rate c.requires c.args.self.now.basic c.args.self.now.nonbasic c.in_err-above.field-0.0
    c.in_err-above.ensures.refused)

pub returns-in_err-both-clause-refused : goal.returns-in_err-both-clause-refused
returns-in_err-both-clause-refused c =
    let is_err : c.from_residual-in_err-both.result ≡ Err c.in_err-both.field-0.0 = search rules in
    rw is_err (high_refused c.args.far.now c.args.self.now.rate c.requires c.args.self.now.basic c.args.self.now.nonbasic c.in_err-both.field-0.0
    c.in_err-both.ensures.refused)

pub returns-clause-ends : goal.returns-clause-ends
returns-clause-ends c =
    both_limits c.args.far.now c.args.self.now.rate c.requires c.args.self.now.basic c.args.ends c.in_ok-above.above c.in_ok-both.both
    c.in_ok-above.ensures.ends c.in_ok-both.ensures.ends
