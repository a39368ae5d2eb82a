use Rattle.std.proofs.Common.{◌≡◌, ℕ, Err, None, rules, subst}
use Rattle.lp_definitions.specs.LinearProgram.{value_at}
use Rattle.lp_definitions.specs.Basis.{basics_of}
use Rattle.lp_model.specs.RatesCalls.{IsRowOf}
use Rattle.basis_values.proofs.Kept.{kept_by, kept_then}
use Rattle.lp_model.proofs.Stops.{IfOverflow-map}
use Rattle.basis_values.proofs.TermLaws.{IfErr-map}
use Rattle.basis_values.proofs.Covered.{point_refused_later}
use Rattle.basis_values.proofs.RatesStops.{row_refused, keeps_at}
use Rattle.basis_values.proofs.PriceLaws.{plain_prices}
use Rattle.basis_values.proofs.prices.fill_prices.Goals as goal

pub returns-in_err-row-clause-overflow : goal.returns-in_err-row-clause-overflow
returns-in_err-row-clause-overflow g c =
    let is_err : c.from_residual.result ≡ Err c.in_err-row.field-0.0 = search rules in
    rw is_err (row_refused c.args.lp.now c.args.basis.now (g.R.Rates.state c.args.rates.now).matrix (g.R.Rates.state c.args.rates.now).basics
    (g.R.Rates.state c.row.new.self).basics (g.R.Rates.state c.args.rates.now).waypoints (g.R.Rates.state c.row.new.self).waypoints c.in_err-row.field-0.0
    c.requires.rates c.row.ensures.kept.same_basics c.row.ensures.kept.waypoints c.in_err-row.ensures.overflow)

pub returns-in-None-clause-prices : goal.returns-in-None-clause-prices
returns-in-None-clause-prices g c =
    let same : c.lp.inside.objective ≡ c.args.lp.now.objective = search rules in
    let none : c.args.lp.now.change ≡ None = search rules in
    plain_prices c.args.lp.now c.args.basis.now (value_at c.row.new.out) none
    (subst (λ (o : ℕ). IsRowOf c.args.lp.now.matrix (basics_of c.args.basis.now) o (value_at c.row.new.out)) same
    (rw (c.requires.rates.same_matrix, c.requires.rates.same_basics) at c.in_ok-row.ensures.rates))

pub returns-in_err-row-clause-rates : goal.returns-in_err-row-clause-rates
returns-in_err-row-clause-rates g c = kept_by c.requires.rates c.row.ensures.kept.same_matrix c.row.ensures.kept.same_basics c.row.ensures.kept.waypoints

pub returns-in-None-clause-rates : goal.returns-in-None-clause-rates
returns-in-None-clause-rates g c = kept_by c.requires.rates c.row.ensures.kept.same_matrix c.row.ensures.kept.same_basics c.row.ensures.kept.waypoints

pub returns-in-Some-clause-rates : goal.returns-in-Some-clause-rates
returns-in-Some-clause-rates g c =
    kept_then (kept_by c.requires.rates c.row.ensures.kept.same_matrix c.row.ensures.kept.same_basics c.row.ensures.kept.waypoints)
    c.add_change_row.ensures.rates

pub returns-in-Some-clause-overflow : goal.returns-in-Some-clause-overflow
returns-in-Some-clause-overflow g c =
    IfErr-map c.add_change_row.result
    (λ stop h. IfOverflow-map stop
    (λ e x. point_refused_later c.args.lp.now (g.R.Rates.state c.args.rates.now).waypoints (g.R.Rates.state c.row.new.self).waypoints
    (g.R.Rates.state c.add_change_row.new.rates).waypoints c.args.basis.now e
    (keeps_at c.args.lp.now c.args.basis.now (g.R.Rates.state c.args.rates.now).matrix (g.R.Rates.state c.args.rates.now).basics
    (g.R.Rates.state c.row.new.self).basics (g.R.Rates.state c.args.rates.now).waypoints (g.R.Rates.state c.row.new.self).waypoints
    c.requires.rates c.row.ensures.kept.same_basics c.row.ensures.kept.waypoints) x) h)
    c.add_change_row.ensures.overflow
