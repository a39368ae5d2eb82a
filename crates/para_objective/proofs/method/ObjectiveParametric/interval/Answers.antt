use Rattle.std.proofs.Common.{rules, ◌≡◌}
use Rattle.para_objective.proofs.IntervalFacts.{interval}
use Rattle.para_objective.proofs.RunEvidence.{of_end}
use Rattle.para_objective.proofs.method.ObjectiveParametric.interval.Goals as goal

pub returns-in-Err-clause-overflow : goal.returns-in-Err-clause-overflow
returns-in-Err-clause-overflow c before after from breakpoint left =
    of_end c.args.self.now.lp.now c.args.self.now.row from c.requires.fits.no_change c.args.basis.now left before after c.in-Err.evidence breakpoint
    c.in-Err.ensures.overflow

pub returns-clause-interval : goal.returns-clause-interval
returns-clause-interval c =
    let value : c.in_ok-value.value ≡ c.args.workspace.now.point.items = search rules in
    let price : c.in_ok-price.price ≡ c.args.workspace.now.prices.items = search rules in
    let price_rate : c.in_ok-price_rate.price_rate ≡ c.args.workspace.now.change.items = search rules in
    rw (c.in_ok-statuses.ensures, value, c.in_ok-value_rate.ensures, price, price_rate)
    (interval c.args.self.now.lp.now c.args.basis.now c.args.self.now.row c.requires.fits.lawful c.requires.fits.no_change c.requires.fits.row
    c.requires.basis c.args.workspace.now.prices.items c.args.workspace.now.change.items c.requires.workspace.prices c.requires.workspace.change
    c.args.workspace.now.point.items c.requires.workspace.point c.requires.workspace.sized.point c.requires.workspace.sized.prices
    c.requires.workspace.sized.change c.args.from c.args.max c.in-Ok.to
    (c.in-Ok.ensures.reaches c.args.from c.requires.forward c.requires.optimal))
