use Rattle.std.proofs.Common.{◌≡◌, ℕ, Err, length, rules, subst, arith}
use Rattle.lp_definitions.specs.LinearProgram.{value_at, size}
use Rattle.basis_values.specs.Prices.{AreChanged, SomeChangedRefused}
use Rattle.basis_values.proofs.Kept.{kept_same, kept_by}
use Rattle.basis_values.proofs.RatesStops.{row_refused}
use Rattle.basis_values.proofs.PriceLaws.{same_prices, changed_prices, change_stops, change_row_basic}
use Rattle.basis_values.proofs.prices.add_change_row.Goals as goal

pub returns-then-is_zero-clause-prices : goal.returns-then-is_zero-clause-prices
returns-then-is_zero-clause-prices g c =
    same_prices c.args.lp.now c.args.basis.now (value_at c.args.prices.now) c.args.added c.requires.added
    (c.is_zero.ensures.0 c.if-is_zero.true) c.requires.objective

pub returns-then-is_zero-clause-rates : goal.returns-then-is_zero-clause-rates
returns-then-is_zero-clause-rates g c = kept_same (g.R.Rates.state c.args.rates.now).waypoints c.requires.rates

pub row-requires-clause-basic : goal.row-requires-clause-basic
row-requires-clause-basic g c =
    rw (c.requires.rates.same_matrix, c.requires.rates.same_basics)
    (change_row_basic c.args.lp.now c.args.basis.now c.args.added c.requires.rates.is_basis c.requires.lawful c.requires.added)

pub returns-in_err-row-clause-overflow : goal.returns-in_err-row-clause-overflow
returns-in_err-row-clause-overflow g c =
    let is_err : c.from_residual.result ≡ Err c.in_err-row.field-0.0 = search rules in
    rw is_err (row_refused c.args.lp.now c.args.basis.now (g.R.Rates.state c.args.rates.now).matrix (g.R.Rates.state c.args.rates.now).basics
    (g.R.Rates.state c.row.new.self).basics (g.R.Rates.state c.args.rates.now).waypoints (g.R.Rates.state c.row.new.self).waypoints c.in_err-row.field-0.0
    c.requires.rates c.row.ensures.kept.same_basics c.row.ensures.kept.waypoints c.in_err-row.ensures.overflow)

pub returns-in-Ok-clause-prices : goal.returns-in-Ok-clause-prices
returns-in-Ok-clause-prices g c =
    let places : length c.row.new.out ≡ size c.args.lp.now.matrix = omega arith in
    changed_prices c.args.lp.now c.args.basis.now (value_at c.args.prices.now) (value_at c.row.new.out)
    (value_at c.add_changes.new.prices) c.args.added c.requires.added c.requires.rates.nonsingular
    (change_row_basic c.args.lp.now c.args.basis.now c.args.added c.requires.rates.is_basis c.requires.lawful c.requires.added) c.requires.objective
    (rw (c.requires.rates.same_matrix, c.requires.rates.same_basics) at c.in_ok-row.ensures.rates)
    (subst (λ (n : ℕ). AreChanged c.args.added.theta (value_at c.row.new.out) (value_at c.args.prices.now) n
    (value_at c.add_changes.new.prices)) places c.in-Ok.ensures.changed)

pub returns-in-Err-clause-overflow : goal.returns-in-Err-clause-overflow
returns-in-Err-clause-overflow g c =
    let places : length c.row.new.out ≡ size c.args.lp.now.matrix = omega arith in
    change_stops c.args.lp.now c.args.basis.now c.requires.rates.is_basis c.requires.rates.nonsingular (value_at c.args.prices.now)
    (value_at c.row.new.out) c.args.added c.requires.objective
    (rw (c.requires.rates.same_matrix, c.requires.rates.same_basics) at c.in_ok-row.ensures.rates)
    (change_row_basic c.args.lp.now c.args.basis.now c.args.added c.requires.rates.is_basis c.requires.lawful c.requires.added) c.in-Err.evidence
    c.requires.added
    (g.R.Rates.state c.args.rates.now).waypoints (g.R.Rates.state c.row.new.self).waypoints
    (subst (λ (n : ℕ). SomeChangedRefused c.args.added.theta (value_at c.row.new.out)
    (value_at c.args.prices.now) n c.in-Err.evidence) places c.in-Err.ensures.refused)

pub returns-in_err-row-clause-rates : goal.returns-in_err-row-clause-rates
returns-in_err-row-clause-rates g c = kept_by c.requires.rates c.row.ensures.kept.same_matrix c.row.ensures.kept.same_basics c.row.ensures.kept.waypoints

pub returns-in-Ok-clause-rates : goal.returns-in-Ok-clause-rates
returns-in-Ok-clause-rates g c = kept_by c.requires.rates c.row.ensures.kept.same_matrix c.row.ensures.kept.same_basics c.row.ensures.kept.waypoints

pub returns-in-Err-clause-rates : goal.returns-in-Err-clause-rates
returns-in-Err-clause-rates g c = kept_by c.requires.rates c.row.ensures.kept.same_matrix c.row.ensures.kept.same_basics c.row.ensures.kept.waypoints
