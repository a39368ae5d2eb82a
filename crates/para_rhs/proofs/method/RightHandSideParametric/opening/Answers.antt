use Rattle.std.proofs.Common.{refl, sym, subst}
use Rattle.std.proofs.lemmas.Result.{err_from_is_err_and}
use Rattle.lp_definitions.specs.LinearProgram.{LinearProgram}
use Rattle.basis_values.specs.Calls.{HasRates}
use Rattle.bounded_primal.specs.Outcomes.{IsTrueOutcome}
use Rattle.bounded_primal.specs.Stops.{PrimalStopsAlong}
use Rattle.para_rhs.proofs.OpeningFacts.{to_first, from_first, opening_stops, no_opening}
use Rattle.para_rhs.proofs.method.RightHandSideParametric.opening.Goals as goal

pub returns-in_err-program-clause-stops : goal.returns-in_err-program-clause-stops
returns-in_err-program-clause-stops g c =
    let p = err_from_is_err_and c.from_residual.result c.from_residual.ensures.1 in
    rw (p.1, p.2)
    (no_opening c.args.self.now.lp.now c.args.self.now.shift.now c.args.span.now c.args.basis.now c.args.basis.now (g.R.Rates.state c.args.rates.now).waypoints
    (g.R.Rates.state c.args.rates.now).waypoints refl
    c.in_err-program.field-0.0 c.in_err-program.ensures.overflow)

pub primal-requires : goal.primal-requires
primal-requires g c =
    subst (λ (q : LinearProgram). HasRates (g.R.Rates.state c.args.rates.now).matrix (g.R.Rates.state c.args.rates.now).basics q c.args.basis.now)
    (sym c.in_ok-program.ensures.program)
    (to_first c.args.self.now.lp.now c.args.self.now.shift.now c.args.span.now.from (g.R.Rates.state c.args.rates.now).matrix
    (g.R.Rates.state c.args.rates.now).basics c.args.basis.now c.requires.rates)

pub returns-in-Ok-clause-truth : goal.returns-in-Ok-clause-truth
returns-in-Ok-clause-truth g c = subst (λ (q : LinearProgram). IsTrueOutcome q c.in-Ok.outcome) c.in_ok-program.ensures.program c.in-Ok.ensures.truth

pub returns-in-Ok-clause-rates : goal.returns-in-Ok-clause-rates
returns-in-Ok-clause-rates g c =
    from_first c.args.self.now.lp.now c.args.self.now.shift.now c.args.span.now.from (g.R.Rates.state c.primal.new.rates).matrix
    (g.R.Rates.state c.primal.new.rates).basics c.primal.new.basis
    (subst (λ (q : LinearProgram). HasRates (g.R.Rates.state c.primal.new.rates).matrix
    (g.R.Rates.state c.primal.new.rates).basics q c.primal.new.basis) c.in_ok-program.ensures.program c.in-Ok.ensures.rates)

pub returns-clause-stops : goal.returns-clause-stops
returns-clause-stops g c =
    rw c.reported_at.ensures
    (opening_stops c.args.self.now.lp.now c.args.self.now.shift.now c.args.span.now c.args.basis.now c.primal.new.basis
    (g.R.Rates.state c.args.rates.now).waypoints (g.R.Rates.state c.primal.new.rates).waypoints c.requires.fits.no_change
    c.in-Err.stop
    (subst (λ (q : LinearProgram). PrimalStopsAlong q c.args.basis.now c.primal.new.basis c.args.span.now.limit (g.R.Rates.state c.args.rates.now).waypoints
    (g.R.Rates.state c.primal.new.rates).waypoints c.in-Err.stop)
    c.in_ok-program.ensures.program c.in-Err.ensures.stops))

pub returns-clause-rates : goal.returns-clause-rates
returns-clause-rates g c =
    from_first c.args.self.now.lp.now c.args.self.now.shift.now c.args.span.now.from (g.R.Rates.state c.primal.new.rates).matrix
    (g.R.Rates.state c.primal.new.rates).basics c.primal.new.basis
    (subst (λ (q : LinearProgram). HasRates (g.R.Rates.state c.primal.new.rates).matrix
    (g.R.Rates.state c.primal.new.rates).basics q c.primal.new.basis) c.in_ok-program.ensures.program c.in-Err.ensures.rates)
