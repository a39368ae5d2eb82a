use Rattle.std.proofs.Common.{rules, ◌≡◌, List, sym, subst}
use Rattle.exact_values.specs.Rational.{ℚ}
use Rattle.lp_definitions.specs.LinearProgram.{value_at}
use Rattle.lp_definitions.specs.Basis.{IsPointOf}
use Rattle.basis_values.proofs.Kept.{kept_same}
use Rattle.para_objective.proofs.method.ObjectiveParametric.point.Goals as goal

pub returns-in_err-point-clause-rates : goal.returns-in_err-point-clause-rates
returns-in_err-point-clause-rates g c = kept_same (g.R.Rates.state c.args._rates.now).waypoints c.requires.rates

pub returns-clause-rates : goal.returns-clause-rates
returns-clause-rates g c = kept_same (g.R.Rates.state c.args._rates.now).waypoints c.requires.rates

pub returns-clause-point : goal.returns-clause-point
returns-clause-point g c =
    let same : c.in_ok-point.point.items ≡ c.args.there.now = search rules in
    let there = c.requires.there.1 in
    subst (λ (xs : List ℚ). IsPointOf c.args.self.now.lp.now c.args._basis.now (value_at xs)) (sym same) (record { keeps = there.keeps; placed = there.placed })
