use Rattle.std.proofs.Common.{drop, length, arith}
use Rattle.basis_values.proofs.Kept.{kept_same}
use Rattle.basis_values.proofs.PriceLaws.{take_all}
use Rattle.basis_values.proofs.prices.prices_at.Goals as goal

pub returns-in_err-values-clause-rates : goal.returns-in_err-values-clause-rates
returns-in_err-values-clause-rates g c = kept_same (g.R.Rates.state c.args.rates.now).waypoints c.requires.rates

pub returns-clause-prices : goal.returns-clause-prices
returns-clause-prices g c =
    rw (c.new.ensures, take_all c.prices_of.new.out (drop (length c.prices_of.new.out) c.in_ok-values.values.items) c.in_ok-values.values.len (omega arith))
    c.in_ok-prices_of.ensures.prices
