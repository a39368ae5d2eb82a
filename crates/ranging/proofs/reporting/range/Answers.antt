use Rattle.std.proofs.Common.{◌≡◌, Err, rules, length}
use Rattle.lp_definitions.specs.LinearProgram.{size, value_at}
use Rattle.lp_definitions.specs.Basis.{IsPointOf, ArePricesOf}
use Rattle.lp_model.proofs.Stops.{IfOverflow-map}
use Rattle.ranging.proofs.Complete.{range_answers}
use Rattle.ranging.proofs.Views.{range_by_point, range_refused_later}
use Rattle.basis_values.proofs.Kept.{kept_then}
use Rattle.basis_values.proofs.TermLaws.{IfErr-map}
use Rattle.ranging.proofs.reporting.range.Goals as goal

pub returns-in_err-point-clause-overflow : goal.returns-in_err-point-clause-overflow
returns-in_err-point-clause-overflow g c =
    let is_err : c.from_residual.result ≡ Err c.in_err-point.field-0.0 = search rules in
    rw is_err (IfOverflow-map c.in_err-point.field-0.0
    (λ e h. range_by_point c.args.lp.now (g.R.Rates.state c.args.rates.now).waypoints
    (g.R.Rates.state c.point_at.new.rates).waypoints c.args.basis.now e c.requires.no_change h)
    c.in_err-point.ensures.overflow)

pub returns-in_err-prices-clause-rates : goal.returns-in_err-prices-clause-rates
returns-in_err-prices-clause-rates g c = kept_then c.point_at.ensures.rates c.prices_at.ensures.rates

pub returns-in_err-prices-clause-overflow : goal.returns-in_err-prices-clause-overflow
returns-in_err-prices-clause-overflow g c =
    let is_err : c.from_residual-in_err-prices.result ≡ Err c.in_err-prices.field-0.0 = search rules in
    rw is_err (IfOverflow-map c.in_err-prices.field-0.0
    (λ e h. range_refused_later c.args.lp.now (g.R.Rates.state c.args.rates.now).waypoints (g.R.Rates.state c.point_at.new.rates).waypoints
    (g.R.Rates.state c.prices_at.new.rates).waypoints c.args.basis.now e c.point_at.ensures.rates.1
    (range_by_point c.args.lp.now (g.R.Rates.state c.point_at.new.rates).waypoints
    (g.R.Rates.state c.prices_at.new.rates).waypoints c.args.basis.now e c.requires.no_change h))
    c.in_err-prices.ensures.overflow)

pub range_at-requires-clause-optimum : goal.range_at-requires-clause-optimum
range_at-requires-clause-optimum g c =
    let point : IsPointOf c.args.lp.now c.args.basis.now (value_at c.values.result.now) = rw c.values.ensures c.in_ok-point.ensures.point in
    let prices : ArePricesOf c.args.lp.now c.args.basis.now (value_at c.values-2.result.now) = rw c.values-2.ensures c.in_ok-prices.ensures.prices in
    let point_places : length c.values.result.now ≡ size c.args.lp.now.matrix = rw c.values.ensures c.in_ok-point.ensures.places in
    let price_places : length c.values-2.result.now ≡ size c.args.lp.now.matrix = rw c.values-2.ensures c.in_ok-prices.ensures.places in
    record {
      lawful = search rules;
      no_change = c.requires.no_change;
      optimal = c.requires.optimal;
      point = point;
      prices = prices;
      point_places = point_places;
      price_places = price_places;
    }

pub returns-clause-rates : goal.returns-clause-rates
returns-clause-rates g c = kept_then (kept_then c.point_at.ensures.rates c.prices_at.ensures.rates) c.range_at.ensures.rates

pub returns-clause-overflow : goal.returns-clause-overflow
returns-clause-overflow g c =
    IfErr-map c.range_at.result
    (λ stop h. IfOverflow-map stop
    (λ e x. range_refused_later c.args.lp.now (g.R.Rates.state c.args.rates.now).waypoints (g.R.Rates.state c.prices_at.new.rates).waypoints
    (g.R.Rates.state c.range_at.new.rates).waypoints c.args.basis.now e
    (kept_then c.point_at.ensures.rates c.prices_at.ensures.rates).1 x) h)
    c.range_at.ensures.overflow

pub returns-in_err-point-clause-complete : goal.returns-in_err-point-clause-complete
returns-in_err-point-clause-complete g c =
    let is_err : c.from_residual.result ≡ Err c.in_err-point.field-0.0 = search rules in
    range_answers c.args.lp.now c.args.basis.now (g.R.Rates.state c.args.rates.now).waypoints
    (g.R.Rates.state c.point_at.new.rates).waypoints c.from_residual.result (rw is_err tt) (returns-in_err-point-clause-overflow g c)

pub returns-in_err-prices-clause-complete : goal.returns-in_err-prices-clause-complete
returns-in_err-prices-clause-complete g c =
    let is_err : c.from_residual-in_err-prices.result ≡ Err c.in_err-prices.field-0.0 = search rules in
    range_answers c.args.lp.now c.args.basis.now (g.R.Rates.state c.args.rates.now).waypoints
    (g.R.Rates.state c.prices_at.new.rates).waypoints c.from_residual-in_err-prices.result (rw is_err tt) (returns-in_err-prices-clause-overflow g c)

pub returns-clause-complete : goal.returns-clause-complete
returns-clause-complete g c =
    range_answers c.args.lp.now c.args.basis.now (g.R.Rates.state c.args.rates.now).waypoints
    (g.R.Rates.state c.range_at.new.rates).waypoints c.range_at.result c.range_at.ensures.report (returns-clause-overflow g c)
