use Rattle.std.proofs.Common.{inr, [], refl}
use Rattle.std.proofs.lemmas.Result.{err_from_is_err_and}
use Rattle.lp_model.specs.declared.Stop.TheVariants.{NoMemory}
use Rattle.simplex_definitions.specs.Chain.{InOpening, begins}
use Rattle.para_rhs.proofs.OpeningFacts.{no_opening, rhs_parametric}
use Rattle.para_rhs.proofs.run.para_rhs.Goals as goal

pub slope_program-requires : goal.slope_program-requires
slope_program-requires g c = rw c.as_slice-shift.ensures.value c.requires.shifts

pub returns-in_err-moving-clause-stops : goal.returns-in_err-moving-clause-stops
returns-in_err-moving-clause-stops g c =
    let p = err_from_is_err_and c.from_residual.result c.from_residual.ensures.1 in
    rw (p.1, p.2)
    (no_opening c.args.lp.now c.args.run.now.shift.items
    (record { from = c.args.run.now.from; to = c.args.run.now.to; limit = c.args.run.now.limit }) c.args.basis.now c.args.basis.now
    (g.R.Rates.state c.args.rates.now).waypoints
    (g.R.Rates.state c.args.rates.now).waypoints refl NoMemory tt)

pub returns-in_err-moving-clause-waypoints : goal.returns-in_err-moving-clause-waypoints
returns-in_err-moving-clause-waypoints g c =
    record { place = InOpening c.args.basis.now; path = []; ends = []; reaches = begins; is_now = refl; lie = λ earlier lie. lie }

pub returns-in_err-moving-clause-complete : goal.returns-in_err-moving-clause-complete
returns-in_err-moving-clause-complete g c report path goes =
    let p = err_from_is_err_and c.from_residual.result c.from_residual.ensures.1 in
    rw (p.1, p.2) (inr refl)

pub follow-requires-clause-parametric : goal.follow-requires-clause-parametric
follow-requires-clause-parametric g c = rhs_parametric c.args.lp.now c.as_slice-shift.result.now c.slope_program.ensures.lawful

pub follow-requires-clause-fits : goal.follow-requires-clause-fits
follow-requires-clause-fits g c =
    record {
      lawful = c.slope_program.ensures.lawful;
      no_change = c.requires.no_change;
      shifts = rw c.as_slice-shift.ensures.value c.requires.shifts;
      is_moving = c.in_ok-moving.ensures.program;
    }

pub returns-clause-ends : goal.returns-clause-ends
returns-clause-ends g c = rw c.as_slice-shift.ensures.value at c.follow.ensures.ends

pub returns-clause-stops : goal.returns-clause-stops
returns-clause-stops g c = rw c.as_slice-shift.ensures.value at c.follow.ensures.stops

pub returns-clause-waypoints : goal.returns-clause-waypoints
returns-clause-waypoints g c = rw c.as_slice-shift.ensures.value at c.follow.ensures.waypoints

pub returns-clause-truth : goal.returns-clause-truth
returns-clause-truth g c = rw c.as_slice-shift.ensures.value at c.follow.ensures.truth

pub returns-clause-complete : goal.returns-clause-complete
returns-clause-complete g c = rw c.as_slice-shift.ensures.value at c.follow.ensures.complete
