use Rattle.std.proofs.Common.{rules, ◌≡◌}
use Rattle.para_rhs.proofs.IntervalFacts.{interval}
use Rattle.para_rhs.proofs.method.RightHandSideParametric.interval.Goals as goal

pub returns-in-Err-clause-overflow : goal.returns-in-Err-clause-overflow
returns-in-Err-clause-overflow c before after = c.in-Err.ensures.overflow before after

pub returns-clause-interval : goal.returns-clause-interval
returns-clause-interval c =
    let value : c.in_ok-value.value ≡ c.args.workspace.now.point.items = search rules in
    let value_rate : c.in_ok-value_rate.value_rate ≡ c.args.workspace.now.change.items = search rules in
    let price : c.in_ok-price.price ≡ c.args.workspace.now.prices.items = search rules in
    rw (c.in_ok-statuses.ensures, value, value_rate, price, c.in_ok-price_rate.ensures)
    (interval c.args.self.now.lp.now c.args.self.now.shift.now c.args.basis.now c.requires.basis c.args.workspace.now.point.items
    c.args.workspace.now.change.items c.args.workspace.now.prices.items
    c.requires.workspace.point c.requires.workspace.change c.requires.workspace.prices c.requires.workspace.sized.point c.requires.workspace.sized.change
    c.requires.workspace.sized.prices
    c.args.from c.args.max c.in-Ok.to (c.in-Ok.ensures.reaches c.args.from c.requires.forward c.requires.optimal))
