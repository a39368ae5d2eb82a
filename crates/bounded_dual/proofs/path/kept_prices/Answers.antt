use Rattle.basis_values.proofs.Kept.{kept_same}
use Rattle.bounded_dual.proofs.path.kept_prices.Goals as goal

pub returns-then-carried-clause-prices : goal.returns-then-carried-clause-prices
returns-then-carried-clause-prices g c = c.requires.carried c.if-carried.true

pub returns-then-carried-clause-rates : goal.returns-then-carried-clause-rates
returns-then-carried-clause-rates g c = kept_same (g.R.Rates.state c.args.rates.now).waypoints c.requires.rates
