use Rattle.std.proofs.Common.{sym, subst}
use Rattle.lp_definitions.specs.Basis.{IsPointOf}
use Rattle.lp_definitions.specs.LinearProgram.{LinearProgram, value_at}
use Rattle.lp_definitions.specs.declared.Evidence.{Evidence}
use Rattle.basis_values.specs.Calls.{HasRates, PointRefused}
use Rattle.para_rhs.specs.Refusals.{RunRefused}
use Rattle.para_rhs.proofs.SlopePrograms.{to_slope, is_slope, kept_slope}
use Rattle.para_rhs.proofs.SlopeStops.{slope_refused}
use Rattle.para_rhs.proofs.method.RightHandSide.slope.Goals as goal

pub point_of-requires-clause-rates : goal.point_of-requires-clause-rates
point_of-requires-clause-rates g c =
    subst (λ (q : LinearProgram). HasRates (g.R.Rates.state c.args.rates.now).matrix (g.R.Rates.state c.args.rates.now).basics q c.args.basis.now)
    (sym c.requires.fits.is_moving)
    (record {
      is_basis =
          to_slope c.args.self.now.lp.now c.args.self.now.shift.now c.args.basis.now
          (record { is_basis = c.requires.rates.is_basis; nonsingular = c.requires.rates.nonsingular });
      nonsingular = c.requires.rates.nonsingular;
      same_matrix = c.requires.rates.same_matrix;
      same_basics = c.requires.rates.same_basics;
    })

pub returns-in-Ok-clause-slope : goal.returns-in-Ok-clause-slope
returns-in-Ok-clause-slope g c =
    is_slope c.args.self.now.lp.now c.args.self.now.shift.now c.args.basis.now
    (record { is_basis = c.requires.rates.is_basis; nonsingular = c.requires.rates.nonsingular }) (value_at c.point_of.new.out)
    (subst (λ (q : LinearProgram). IsPointOf q c.args.basis.now (value_at c.point_of.new.out)) c.requires.fits.is_moving c.in-Ok.ensures.point)

pub returns-in-Err-Overflow-clause-overflow : goal.returns-in-Err-Overflow-clause-overflow
returns-in-Err-Overflow-clause-overflow g c =
    let refused = rw c.in-Err-Overflow.field-0-is at c.in-Err-Overflow.ensures.overflow in
    subst (λ (e : Evidence). RunRefused c.args.self.now.lp.now c.args.self.now.shift.now c.args.basis.now (g.R.Rates.state c.args.rates.now).waypoints
    (g.R.Rates.state c.point_of.new.rates).waypoints e)
    (sym c.slope_evidence.ensures)
    (slope_refused c.args.self.now.lp.now c.args.self.now.shift.now c.requires.fits.lawful c.args.basis.now
    (record { is_basis = c.requires.rates.is_basis; nonsingular = c.requires.rates.nonsingular })
    c.in-Err-Overflow.evidence c.requires.fits.no_change (g.R.Rates.state c.args.rates.now).waypoints (g.R.Rates.state c.point_of.new.rates).waypoints
    (subst (λ (q : LinearProgram). PointRefused q (g.R.Rates.state c.args.rates.now).waypoints c.args.basis.now
    (g.R.Rates.state c.point_of.new.rates).waypoints c.in-Err-Overflow.evidence) c.requires.fits.is_moving refused))

pub returns-in-Ok-clause-rates : goal.returns-in-Ok-clause-rates
returns-in-Ok-clause-rates g c =
    kept_slope c.args.self.now.lp.now c.args.self.now.shift.now c.args.self.now.moving.now c.requires.fits.is_moving c.requires.rates c.point_of.ensures.rates

pub returns-in-Err-Overflow-clause-rates : goal.returns-in-Err-Overflow-clause-rates
returns-in-Err-Overflow-clause-rates g c =
    kept_slope c.args.self.now.lp.now c.args.self.now.shift.now c.args.self.now.moving.now c.requires.fits.is_moving c.requires.rates c.point_of.ensures.rates

pub returns-in-Err-NoMemory-clause-rates : goal.returns-in-Err-NoMemory-clause-rates
returns-in-Err-NoMemory-clause-rates g c =
    kept_slope c.args.self.now.lp.now c.args.self.now.shift.now c.args.self.now.moving.now c.requires.fits.is_moving c.requires.rates c.point_of.ensures.rates
