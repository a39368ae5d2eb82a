use Rattle.std.proofs.Common.{rules, ◌≡◌, List, length, ap, ◌∙◌}
use Rattle.std.proofs.lemmas.List.{with_items_is}
use Rattle.std.proofs.lemmas.Result.{err_from_is_err_and}
use Rattle.exact_values.specs.Rational.{ℚ}
use Rattle.lp_model.proofs.Stops.{IfOverflow-map}
use Rattle.basis_values.proofs.Covered.{point_refused_later}
use Rattle.basis_values.proofs.Kept.{kept_then}
use Rattle.para_objective.proofs.RunEvidence.{of_point}
use Rattle.para_objective.proofs.method.ObjectiveParametric.refresh.Goals as goal

pub returns-in_err-fill_prices-clause-overflow : goal.returns-in_err-fill_prices-clause-overflow
returns-in_err-fill_prices-clause-overflow g c =
    let p = err_from_is_err_and c.from_residual.result c.from_residual.ensures.1 in
    rw (p.1, p.2)
    (IfOverflow-map c.in_err-fill_prices.field-0.0
    (λ e x from breakpoint left. of_point c.args.self.now.lp.now c.args.self.now.row from c.requires.fits.no_change c.args.basis.now left
    (g.R.Rates.state c.args.rates.now).waypoints (g.R.Rates.state c.fill_prices.new.rates).waypoints e breakpoint x)
    c.in_err-fill_prices.ensures.overflow)

pub returns-in_err-read_row-clause-rates : goal.returns-in_err-read_row-clause-rates
returns-in_err-read_row-clause-rates g c = kept_then c.in_ok-fill_prices.ensures.rates c.in_err-read_row.ensures.rates

pub returns-in_err-read_row-clause-overflow : goal.returns-in_err-read_row-clause-overflow
returns-in_err-read_row-clause-overflow g c =
    let p = err_from_is_err_and c.from_residual-in_err-read_row.result c.from_residual-in_err-read_row.ensures.1 in
    rw (p.1, p.2)
    (IfOverflow-map c.in_err-read_row.field-0.0
    (λ e x from breakpoint left. of_point c.args.self.now.lp.now c.args.self.now.row from c.requires.fits.no_change c.args.basis.now left
    (g.R.Rates.state c.args.rates.now).waypoints (g.R.Rates.state c.read_row.new.rates).waypoints e breakpoint
    (point_refused_later c.args.self.now.lp.now (g.R.Rates.state c.args.rates.now).waypoints (g.R.Rates.state c.fill_prices.new.rates).waypoints
    (g.R.Rates.state c.read_row.new.rates).waypoints c.args.basis.now e c.in_ok-fill_prices.ensures.rates.1 x))
    c.in_err-read_row.ensures.overflow)

pub returns-clause-rates : goal.returns-clause-rates
returns-clause-rates g c = kept_then c.in_ok-fill_prices.ensures.rates c.in_ok-read_row.ensures.rates

pub returns-clause-workspace : goal.returns-clause-workspace
returns-clause-workspace g c =
    let price_places : length c.fill_prices.new.prices ≡ c.args.workspace.now.prices.len = search rules in
    let change_places : length c.read_row.new.out ≡ c.args.workspace.now.change.len = search rules in
    let row_places : length c.fill_prices.new.change ≡ c.args.workspace.now.row.len = search rules in
    let prices = with_items_is c.args.workspace.now.prices c.fill_prices.new.prices price_places in
    let change = with_items_is c.args.workspace.now.change c.read_row.new.out change_places in
    let row = with_items_is c.args.workspace.now.row c.fill_prices.new.change row_places in
    record {
      sized =
          record {
            point = c.requires.sized.point;
            prices = search rules;
            change = search rules;
            row = ap (λ (xs : List ℚ). length xs) row ∙ row_places
                ∙ c.args.workspace.now.row.ok.0 ∙ c.requires.sized.row;
            direction = c.requires.sized.direction;
          };
      point = c.requires.point;
      prices = rw prices c.in_ok-fill_prices.ensures.prices;
      change = rw change c.in_ok-read_row.ensures.row;
    }
