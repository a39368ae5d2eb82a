use Rattle.std.proofs.Common.{[], refl, arith}
use Rattle.std.proofs.lemmas.Result.{err_from_is_err_and}
use Rattle.bounded_primal.specs.declared.moves.PrimalStop.TheVariants.{NoMemory}
use Rattle.basis_values.proofs.TermLaws.{IfErr-map}
use Rattle.para_objective.proofs.OpeningFacts.{opening_stops}
use Rattle.para_objective.proofs.method.ObjectiveParametric.opening.Goals as goal

pub returns-in_err-program-clause-stops : goal.returns-in_err-program-clause-stops
returns-in_err-program-clause-stops g c =
    let p = err_from_is_err_and c.from_residual.result c.from_residual.ensures.1 in
    rw (p.1, p.2)
    (opening_stops c.args.self.now.lp.now c.args.self.now.row c.args.span.now c.args.basis.now c.args.basis.now (g.R.Rates.state c.args.rates.now).waypoints
    (g.R.Rates.state c.args.rates.now).waypoints NoMemory ([], (tt, refl), omega arith))

pub returns-clause-stops : goal.returns-clause-stops
returns-clause-stops g c =
    IfErr-map c.primal.result
    (λ why h. opening_stops c.args.self.now.lp.now c.args.self.now.row c.args.span.now c.args.basis.now c.primal.new.basis
    (g.R.Rates.state c.args.rates.now).waypoints (g.R.Rates.state c.primal.new.rates).waypoints why h)
    (rw c.in_ok-program.ensures at c.primal.ensures.stops)
