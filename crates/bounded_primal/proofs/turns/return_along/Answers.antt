use Rattle.std.proofs.Common.{◌≡◌, Err, rules}
use Rattle.lp_definitions.specs.LinearProgram.{value_at}
use Rattle.lp_model.proofs.Stops.{IfOverflow-map}
use Rattle.bounded_primal.specs.Turns.{by_column, by_return}
use Rattle.basis_values.proofs.RatesStops.{column_refused}
use Rattle.basis_values.proofs.Kept.{kept_by}
use Rattle.bounded_primal.proofs.turns.return_along.Goals as goal

pub returns-in_err-direction-clause-overflow : goal.returns-in_err-direction-clause-overflow
returns-in_err-direction-clause-overflow g c =
    let is_err : c.from_residual.result ≡ Err c.in_err-direction.field-0.0 = search rules in
    rw is_err (IfOverflow-map c.in_err-direction.field-0.0 (λ e h. by_column h)
    (column_refused c.args.at.now.lp.now c.args.at.now.basis.now (g.R.Rates.state c.args.rates.now).matrix (g.R.Rates.state c.args.rates.now).basics
    (g.R.Rates.state c.direction.new.self).basics (g.R.Rates.state c.args.rates.now).waypoints
    (g.R.Rates.state c.direction.new.self).waypoints c.in_err-direction.field-0.0
    c.requires.rates c.direction.ensures.kept.same_basics c.direction.ensures.kept.waypoints c.in_err-direction.ensures.overflow))

pub returning-requires-clause-moves : goal.returning-requires-clause-moves
returning-requires-clause-moves g c =
    rw c.values.ensures
    (c.requires.pivot (value_at c.direction.new.out)
    (rw (c.requires.rates.same_matrix, c.requires.rates.same_basics) at c.in_ok-direction.ensures.direction))

pub returns-in-Err-clause-overflow : goal.returns-in-Err-clause-overflow
returns-in-Err-clause-overflow g c =
    by_return (value_at c.direction.new.out) (rw (c.requires.rates.same_matrix, c.requires.rates.same_basics) at c.in_ok-direction.ensures.direction)
    (rw c.values.ensures at c.in-Err.ensures.refused)

pub returns-in_err-direction-clause-rates : goal.returns-in_err-direction-clause-rates
returns-in_err-direction-clause-rates g c =
    kept_by c.requires.rates c.direction.ensures.kept.same_matrix c.direction.ensures.kept.same_basics c.direction.ensures.kept.waypoints

pub returns-in-Ok-clause-rates : goal.returns-in-Ok-clause-rates
returns-in-Ok-clause-rates g c =
    kept_by c.requires.rates c.direction.ensures.kept.same_matrix c.direction.ensures.kept.same_basics c.direction.ensures.kept.waypoints

pub returns-in-Err-clause-rates : goal.returns-in-Err-clause-rates
returns-in-Err-clause-rates g c =
    kept_by c.requires.rates c.direction.ensures.kept.same_matrix c.direction.ensures.kept.same_basics c.direction.ensures.kept.waypoints
