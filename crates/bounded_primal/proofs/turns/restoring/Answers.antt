use Rattle.lp_definitions.specs.LinearProgram.{value_at}
use Rattle.basis_values.proofs.RatesStops.{row_refused}
use Rattle.basis_values.proofs.Kept.{kept_by}
use Rattle.bounded_primal.proofs.FirstWanted.{restoring_found}
use Rattle.bounded_primal.proofs.turns.restoring.Goals as goal

pub returns-in-Ok-clause-found : goal.returns-in-Ok-clause-found
returns-in-Ok-clause-found g c =
    let first = rw (c.requires.rates.same_matrix, c.requires.rates.same_basics) at c.in-Ok.ensures.found in
    restoring_found c.args.at.now.lp.now c.args.at.now.basis.now c.requires.rates.is_basis c.args.wanted.now c.requires.wants c.args.r c.args.below
    (value_at c.first_wanted.new.out) c.in-Ok.found first

pub returns-in-Err-clause-overflow : goal.returns-in-Err-clause-overflow
returns-in-Err-clause-overflow g c =
    row_refused c.args.at.now.lp.now c.args.at.now.basis.now (g.R.Rates.state c.args.rates.now).matrix (g.R.Rates.state c.args.rates.now).basics
    (g.R.Rates.state c.first_wanted.new.self).basics (g.R.Rates.state c.args.rates.now).waypoints
    (g.R.Rates.state c.first_wanted.new.self).waypoints c.in-Err.stop
    c.requires.rates c.first_wanted.ensures.kept.same_basics c.first_wanted.ensures.kept.waypoints c.in-Err.ensures.overflow

pub returns-in-Ok-clause-rates : goal.returns-in-Ok-clause-rates
returns-in-Ok-clause-rates g c =
    kept_by c.requires.rates c.first_wanted.ensures.kept.same_matrix c.first_wanted.ensures.kept.same_basics c.first_wanted.ensures.kept.waypoints

pub returns-in-Err-clause-rates : goal.returns-in-Err-clause-rates
returns-in-Err-clause-rates g c =
    kept_by c.requires.rates c.first_wanted.ensures.kept.same_matrix c.first_wanted.ensures.kept.same_basics c.first_wanted.ensures.kept.waypoints
