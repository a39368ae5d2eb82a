use Rattle.std.proofs.Common.{◌≡◌, ◌-◌, Err, rules, arith}
use Rattle.lp_definitions.specs.LinearProgram.{value_at}
use Rattle.lp_definitions.specs.Basis.{basics_of}
use Rattle.lp_model.specs.RatesCalls.{IsRowOf}
use Rattle.lp_model.proofs.Stops.{IfOverflow-map}
use Rattle.basis_values.proofs.RatesStops.{row_refused}
use Rattle.basis_values.proofs.Kept.{kept_by}
use Rattle.ranging.proofs.Views.{range_by_point}
use Rattle.ranging.proofs.AtBasis.{within, holds_now, ends_of_row, met_more}
use Rattle.ranging.proofs.Refused.{limits_refused, ratio_refused}
use Rattle.ranging.proofs.pass.visit.Goals as goal

pub row-requires-clause-basic : goal.row-requires-clause-basic
row-requires-clause-basic g c = rw (c.requires.rates.same_matrix, c.requires.rates.same_basics) c.requires.basic

pub returns-in_err-row-clause-overflow : goal.returns-in_err-row-clause-overflow
returns-in_err-row-clause-overflow g c =
    let is_err : c.from_residual.result ≡ Err c.in_err-row.field-0.0 = search rules in
    rw is_err (IfOverflow-map c.in_err-row.field-0.0
    (λ e h. range_by_point c.args.at.now.lp.now (g.R.Rates.state c.args.rates.now).waypoints
    (g.R.Rates.state c.row.new.self).waypoints c.args.at.now.basis.now e c.requires.optimum.no_change h)
    (row_refused c.args.at.now.lp.now c.args.at.now.basis.now (g.R.Rates.state c.args.rates.now).matrix (g.R.Rates.state c.args.rates.now).basics
    (g.R.Rates.state c.row.new.self).basics (g.R.Rates.state c.args.rates.now).waypoints (g.R.Rates.state c.row.new.self).waypoints c.in_err-row.field-0.0
    c.requires.rates c.row.ensures.kept.same_basics c.row.ensures.kept.waypoints c.in_err-row.ensures.overflow))

pub meet_limits-requires-clause-low : goal.meet_limits-requires-clause-low
meet_limits-requires-clause-low g c =
    (within c.args.at.now.lp.now c.args.at.now.basis.now c.requires.optimum.lawful c.requires.optimum.no_change c.requires.optimum.optimal
    (value_at c.args.at.now.point.now) c.requires.optimum.point c.args.i c.requires.basic.0).0

pub meet_limits-requires-clause-high : goal.meet_limits-requires-clause-high
meet_limits-requires-clause-high g c =
    (within c.args.at.now.lp.now c.args.at.now.basis.now c.requires.optimum.lawful c.requires.optimum.no_change c.requires.optimum.optimal
    (value_at c.args.at.now.point.now) c.requires.optimum.point c.args.i c.requires.basic.0).1

pub row_ends-requires-clause-holds : goal.row_ends-requires-clause-holds
row_ends-requires-clause-holds g c =
    let row : IsRowOf c.args.at.now.lp.now.matrix (basics_of c.args.at.now.basis.now) c.args.i (value_at c.row.new.out) =
    rw (c.requires.rates.same_matrix, c.requires.rates.same_basics) at c.in_ok-row.ensures.rates in
    holds_now c.args.at.now.lp.now c.args.at.now.basis.now c.requires.optimum.lawful c.requires.optimum.no_change c.requires.optimum.optimal
    (value_at c.args.at.now.point.now) c.requires.optimum.point (value_at c.args.at.now.prices.now) c.requires.optimum.prices c.args.i c.requires.basic.0
    (value_at c.row.new.out) row

pub returns-in-Ok-row_ends-clause-found : goal.returns-in-Ok-row_ends-clause-found
returns-in-Ok-row_ends-clause-found g c =
    let row : IsRowOf c.args.at.now.lp.now.matrix (basics_of c.args.at.now.basis.now) c.args.i (value_at c.row.new.out) =
    rw (c.requires.rates.same_matrix, c.requires.rates.same_basics) at c.in_ok-row.ensures.rates in
    ends_of_row c.args.at.now.lp.now c.args.at.now.basis.now c.requires.optimum.lawful c.requires.optimum.no_change c.requires.optimum.optimal
    (value_at c.args.at.now.point.now) c.requires.optimum.point (value_at c.args.at.now.prices.now) c.requires.optimum.prices c.args.i c.requires.basic.0
    (value_at c.row.new.out) row
    c.in-Ok-row_ends.found c.in-Ok-row_ends.ensures.ends

pub returns-in-Ok-row_ends-clause-met : goal.returns-in-Ok-row_ends-clause-met
returns-in-Ok-row_ends-clause-met g c =
    let row : IsRowOf c.args.at.now.lp.now.matrix (basics_of c.args.at.now.basis.now) c.args.i (value_at c.row.new.out) =
    rw (c.requires.rates.same_matrix, c.requires.rates.same_basics) at c.in_ok-row.ensures.rates in
    let low = c.requires.basic.0.0 in
    met_more c.args.at.now.lp.now c.args.at.now.basis.now c.requires.optimum.lawful c.requires.optimum.no_change c.requires.optimum.optimal
    (value_at c.args.at.now.point.now) c.requires.optimum.point (value_at c.args.at.now.prices.now) c.requires.optimum.prices c.args.i c.requires.basic.0
    (value_at c.row.new.out) row
    (c.args.i - 1) (omega arith) c.requires.basic.1 c.args.ends.now c.meet_limits.new.ends c.requires.met c.in-Ok.ensures.met

pub returns-in-Err-row_ends-clause-overflow : goal.returns-in-Err-row_ends-clause-overflow
returns-in-Err-row_ends-clause-overflow g c =
    let row : IsRowOf c.args.at.now.lp.now.matrix (basics_of c.args.at.now.basis.now) c.args.i (value_at c.row.new.out) =
    rw (c.requires.rates.same_matrix, c.requires.rates.same_basics) at c.in_ok-row.ensures.rates in
    ratio_refused c.args.at.now.lp.now c.args.at.now.basis.now c.requires.optimum.lawful c.requires.optimum.no_change c.requires.optimum.optimal
    (value_at c.args.at.now.point.now) c.requires.optimum.point (value_at c.args.at.now.prices.now) c.requires.optimum.prices c.args.i c.requires.basic
    (value_at c.row.new.out) row
    (g.R.Rates.state c.args.rates.now).waypoints (g.R.Rates.state c.row.new.self).waypoints c.in-Err-row_ends.evidence c.in-Err-row_ends.ensures.refused

pub returns-in-Err-clause-overflow : goal.returns-in-Err-clause-overflow
returns-in-Err-clause-overflow g c =
    let row : IsRowOf c.args.at.now.lp.now.matrix (basics_of c.args.at.now.basis.now) c.args.i (value_at c.row.new.out) =
    rw (c.requires.rates.same_matrix, c.requires.rates.same_basics) at c.in_ok-row.ensures.rates in
    limits_refused c.args.at.now.lp.now c.args.at.now.basis.now c.requires.optimum.lawful c.requires.optimum.no_change c.requires.optimum.optimal
    (value_at c.args.at.now.point.now) c.requires.optimum.point (value_at c.args.at.now.prices.now) c.requires.optimum.prices c.args.i c.requires.basic
    (value_at c.row.new.out) row
    (g.R.Rates.state c.args.rates.now).waypoints (g.R.Rates.state c.row.new.self).waypoints c.in-Err.evidence c.in-Err.ensures.refused

pub returns-in_err-row-clause-rates : goal.returns-in_err-row-clause-rates
returns-in_err-row-clause-rates g c = kept_by c.requires.rates c.row.ensures.kept.same_matrix c.row.ensures.kept.same_basics c.row.ensures.kept.waypoints

pub returns-in-Ok-row_ends-clause-rates : goal.returns-in-Ok-row_ends-clause-rates
returns-in-Ok-row_ends-clause-rates g c = kept_by c.requires.rates c.row.ensures.kept.same_matrix c.row.ensures.kept.same_basics c.row.ensures.kept.waypoints

pub returns-in-Err-row_ends-clause-rates : goal.returns-in-Err-row_ends-clause-rates
returns-in-Err-row_ends-clause-rates g c = kept_by c.requires.rates c.row.ensures.kept.same_matrix c.row.ensures.kept.same_basics c.row.ensures.kept.waypoints

pub returns-in-Err-clause-rates : goal.returns-in-Err-clause-rates
returns-in-Err-clause-rates g c = kept_by c.requires.rates c.row.ensures.kept.same_matrix c.row.ensures.kept.same_basics c.row.ensures.kept.waypoints
