use Rattle.std.proofs.Common.{rules}
use Rattle.lp_definitions.specs.LinearProgram.{IsLinearProgram}
use Rattle.basis_values.proofs.TermLaws.{IfErr-map}
use Rattle.para_objective.proofs.FaceStops.{stops_at_basis, overflow_free}
use Rattle.para_objective.proofs.OpeningFacts.{objective_parametric}
use Rattle.para_objective.proofs.run.para_obj.Goals as goal

pub follow-requires-clause-parametric : goal.follow-requires-clause-parametric
follow-requires-clause-parametric g c =
    let lawful : IsLinearProgram c.args.lp.now = search rules in
    objective_parametric c.args.lp.now c.args.run.now.row
    (record { lawful = lawful; no_change = c.requires.no_change; row = c.requires.row; free = c.requires.free })

pub follow-requires-clause-fits : goal.follow-requires-clause-fits
follow-requires-clause-fits g c =
    let lawful : IsLinearProgram c.args.lp.now = search rules in
    record { lawful = lawful; no_change = c.requires.no_change; row = c.requires.row; free = c.requires.free }

pub returns-clause-ends : goal.returns-clause-ends
returns-clause-ends g c = c.follow.ensures.ends

pub returns-clause-stops : goal.returns-clause-stops
returns-clause-stops g c =
    IfErr-map c.follow.result
    (λ why h. stops_at_basis c.args.lp.now c.args.run.now.row
    (record { from = c.args.run.now.from; to = c.args.run.now.to; limit = c.args.run.now.limit }) c.args.basis.now
    (g.R.Rates.state c.args.rates.now).waypoints c.follow.new.basis
    (g.R.Rates.state c.follow.new.rates).waypoints why h)
    c.follow.ensures.stops

pub returns-clause-waypoints : goal.returns-clause-waypoints
returns-clause-waypoints g c = c.follow.ensures.waypoints

pub returns-clause-truth : goal.returns-clause-truth
returns-clause-truth g c = c.follow.ensures.truth

pub returns-clause-complete : goal.returns-clause-complete
returns-clause-complete g c report path goes =
    c.follow.ensures.complete report path
    (overflow_free c.args.lp.now c.args.run.now.row
    (record { from = c.args.run.now.from; to = c.args.run.now.to; limit = c.args.run.now.limit }) c.args.basis.now
    (g.R.Rates.state c.args.rates.now).waypoints report path goes)
