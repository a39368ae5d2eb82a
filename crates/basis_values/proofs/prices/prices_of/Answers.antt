use Rattle.std.proofs.Common.{◌≡◌, ◌∙◌, drop, length, arith}
use Rattle.basis_values.proofs.PriceLaws.{take_all}
use Rattle.basis_values.proofs.Kept.{kept_same}
use Rattle.basis_values.proofs.prices.prices_of.Goals as goal

pub returns-in_err-change-clause-rates : goal.returns-in_err-change-clause-rates
returns-in_err-change-clause-rates g c = kept_same (g.R.Rates.state c.args.rates.now).waypoints c.requires.rates

pub returns-in_err-prices-clause-rates : goal.returns-in_err-prices-clause-rates
returns-in_err-prices-clause-rates g c = kept_same (g.R.Rates.state c.args.rates.now).waypoints c.requires.rates

pub returns-clause-prices : goal.returns-clause-prices
returns-clause-prices g c =
    let same : c.copy_from_slice.new.self ≡ c.fill_prices.new.prices = c.copy_from_slice.ensures.after ∙ c.deref.ensures.value
    ∙ take_all c.fill_prices.new.prices (drop (length c.fill_prices.new.prices) c.in_ok-prices.prices.items) c.in_ok-prices.prices.len (omega arith) in
    rw same c.in_ok-fill_prices.ensures.prices
