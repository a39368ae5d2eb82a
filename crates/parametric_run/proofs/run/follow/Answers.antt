use Rattle.std.proofs.Common.{◌≡◌, ◌+◌, ◌-◌, refl, arith, Ok}
use Rattle.std.proofs.lemmas.Result.{err_from_is_err_and}
use Rattle.simplex_laws.specs.Laws.{IsNonsingularBasis}
use Rattle.lp_model.specs.declared.reports.ParaReport.TheVariants.{Opening, Run}
use Rattle.parametric_run.proofs.Openings.{failed_by}
use Rattle.parametric_run.proofs.OpeningFacts.{opening_follows, opening_reported, opening_within, first_optimal, first_point, first_opens, run_ends, run_true}
use Rattle.parametric_run.proofs.OpeningFacts.{chain_stops, method_answers}
use Rattle.parametric_run.proofs.run.follow.Goals as goal

pub returns-in_err-outcome-clause-waypoints : goal.returns-in_err-outcome-clause-waypoints
returns-in_err-outcome-clause-waypoints g c =
    opening_follows (g.M.Parametric.problem c.args.method.now) c.requires.parametric c.args.span.now c.args.basis.now c.opening.new.basis
    (g.R.Rates.state c.args.rates.now).waypoints (g.R.Rates.state c.opening.new.rates).waypoints
    c.in_err-outcome.ensures.waypoints

pub returns-in_err-outcome-clause-complete : goal.returns-in_err-outcome-clause-complete
returns-in_err-outcome-clause-complete g c =
    let p = err_from_is_err_and c.from_residual.result c.from_residual.ensures.1 in
    let at : IsNonsingularBasis (g.M.Parametric.problem c.args.method.now).program c.args.basis.now =
    record { is_basis = c.requires.rates.is_basis; nonsingular = c.requires.rates.nonsingular } in
    method_answers (g.M.Parametric.problem c.args.method.now) c.requires.parametric c.args.span.now c.args.basis.now c.opening.new.basis
    (g.R.Rates.state c.args.rates.now).waypoints (g.R.Rates.state c.opening.new.rates).waypoints at
    c.from_residual.result (rw (p.1) tt) (rw (p.1, p.2) c.in_err-outcome.ensures.stops)

pub overflow_sub-opened : goal.overflow_sub-opened
overflow_sub-opened g c =
    let at : IsNonsingularBasis (g.M.Parametric.problem c.args.method.now).program c.args.basis.now =
    record { is_basis = c.requires.rates.is_basis; nonsingular = c.requires.rates.nonsingular } in
    let within =
    opening_within (g.M.Parametric.problem c.args.method.now) c.requires.parametric c.args.span.now c.args.basis.now c.opening.new.basis at
    (g.R.Rates.state c.args.rates.now).waypoints (g.R.Rates.state c.opening.new.rates).waypoints
    c.in_ok-outcome.outcome c.in_ok-outcome.ensures.ends c.in_ok-outcome.ensures.waypoints
    (omega arith) c.in-Optimal.steps c.in-Optimal.point c.in-Optimal.prices c.in-Optimal.is in
    omega (arith, within)

pub chain-requires-clause-point : goal.chain-requires-clause-point
chain-requires-clause-point g c =
    let at : IsNonsingularBasis (g.M.Parametric.problem c.args.method.now).program c.args.basis.now =
    record { is_basis = c.requires.rates.is_basis; nonsingular = c.requires.rates.nonsingular } in
    first_point (g.M.Parametric.problem c.args.method.now) c.requires.parametric c.args.span.now c.args.basis.now c.opening.new.basis at
    (g.R.Rates.state c.args.rates.now).waypoints (g.R.Rates.state c.opening.new.rates).waypoints
    c.in_ok-outcome.outcome c.in_ok-outcome.ensures.ends c.in_ok-outcome.ensures.waypoints
    (omega arith) c.in-Optimal.steps c.in-Optimal.point c.in-Optimal.prices c.in-Optimal.is

pub chain-requires-clause-optimal : goal.chain-requires-clause-optimal
chain-requires-clause-optimal g c =
    let at : IsNonsingularBasis (g.M.Parametric.problem c.args.method.now).program c.args.basis.now =
    record { is_basis = c.requires.rates.is_basis; nonsingular = c.requires.rates.nonsingular } in
    first_optimal (g.M.Parametric.problem c.args.method.now) c.requires.parametric c.args.span.now c.args.basis.now c.opening.new.basis at
    (g.R.Rates.state c.args.rates.now).waypoints (g.R.Rates.state c.opening.new.rates).waypoints
    c.in_ok-outcome.outcome c.in_ok-outcome.ensures.ends c.in_ok-outcome.ensures.waypoints
    (omega arith) c.in-Optimal.steps c.in-Optimal.point c.in-Optimal.prices c.in-Optimal.is

pub returns-in_err-chain-in-Optimal-clause-stops : goal.returns-in_err-chain-in-Optimal-clause-stops
returns-in_err-chain-in-Optimal-clause-stops g c =
    let p = err_from_is_err_and c.from_residual-in_err-chain-in-Optimal.result c.from_residual-in_err-chain-in-Optimal.ensures.1 in
    let at : IsNonsingularBasis (g.M.Parametric.problem c.args.method.now).program c.args.basis.now =
    record { is_basis = c.requires.rates.is_basis; nonsingular = c.requires.rates.nonsingular } in
    let counts : c.in-Optimal.steps + (c.args.span.now.limit - c.in-Optimal.steps) ≡ c.args.span.now.limit =
    (let within = opening_within (g.M.Parametric.problem c.args.method.now) c.requires.parametric c.args.span.now c.args.basis.now c.opening.new.basis at
    (g.R.Rates.state c.args.rates.now).waypoints (g.R.Rates.state c.opening.new.rates).waypoints
    c.in_ok-outcome.outcome c.in_ok-outcome.ensures.ends c.in_ok-outcome.ensures.waypoints
    (omega arith) c.in-Optimal.steps c.in-Optimal.point c.in-Optimal.prices c.in-Optimal.is in omega (arith, within)) in
    rw (p.1, p.2)
    (chain_stops (g.M.Parametric.problem c.args.method.now) c.requires.parametric c.args.span.now c.args.basis.now c.chain.new.basis
    (g.R.Rates.state c.args.rates.now).waypoints (g.R.Rates.state c.chain.new.rates).waypoints _
    (c.in_err-chain-in-Optimal.ensures.stops c.args.basis.now (g.R.Rates.state c.args.rates.now).waypoints c.in-Optimal.steps counts
    (first_opens (g.M.Parametric.problem c.args.method.now) c.requires.parametric c.args.span.now c.args.basis.now c.opening.new.basis at
    (g.R.Rates.state c.args.rates.now).waypoints (g.R.Rates.state c.opening.new.rates).waypoints
    c.in_ok-outcome.outcome c.in_ok-outcome.ensures.ends c.in_ok-outcome.ensures.waypoints
    (omega arith) c.in-Optimal.steps c.in-Optimal.point c.in-Optimal.prices c.in-Optimal.is)))

pub returns-in_err-chain-in-Optimal-clause-waypoints : goal.returns-in_err-chain-in-Optimal-clause-waypoints
returns-in_err-chain-in-Optimal-clause-waypoints g c =
    let at : IsNonsingularBasis (g.M.Parametric.problem c.args.method.now).program c.args.basis.now =
    record { is_basis = c.requires.rates.is_basis; nonsingular = c.requires.rates.nonsingular } in
    let counts : c.in-Optimal.steps + (c.args.span.now.limit - c.in-Optimal.steps) ≡ c.args.span.now.limit =
    (let within = opening_within (g.M.Parametric.problem c.args.method.now) c.requires.parametric c.args.span.now c.args.basis.now c.opening.new.basis at
    (g.R.Rates.state c.args.rates.now).waypoints (g.R.Rates.state c.opening.new.rates).waypoints
    c.in_ok-outcome.outcome c.in_ok-outcome.ensures.ends c.in_ok-outcome.ensures.waypoints
    (omega arith) c.in-Optimal.steps c.in-Optimal.point c.in-Optimal.prices c.in-Optimal.is in omega (arith, within)) in
    c.in_err-chain-in-Optimal.ensures.waypoints c.args.basis.now (g.R.Rates.state c.args.rates.now).waypoints c.in-Optimal.steps counts
    (first_opens (g.M.Parametric.problem c.args.method.now) c.requires.parametric c.args.span.now c.args.basis.now c.opening.new.basis at
    (g.R.Rates.state c.args.rates.now).waypoints (g.R.Rates.state c.opening.new.rates).waypoints
    c.in_ok-outcome.outcome c.in_ok-outcome.ensures.ends c.in_ok-outcome.ensures.waypoints
    (omega arith) c.in-Optimal.steps c.in-Optimal.point c.in-Optimal.prices c.in-Optimal.is)

pub returns-in_err-chain-in-Optimal-clause-complete : goal.returns-in_err-chain-in-Optimal-clause-complete
returns-in_err-chain-in-Optimal-clause-complete g c =
    let p = err_from_is_err_and c.from_residual-in_err-chain-in-Optimal.result c.from_residual-in_err-chain-in-Optimal.ensures.1 in
    let at : IsNonsingularBasis (g.M.Parametric.problem c.args.method.now).program c.args.basis.now =
    record { is_basis = c.requires.rates.is_basis; nonsingular = c.requires.rates.nonsingular } in
    method_answers (g.M.Parametric.problem c.args.method.now) c.requires.parametric c.args.span.now c.args.basis.now c.chain.new.basis
    (g.R.Rates.state c.args.rates.now).waypoints (g.R.Rates.state c.chain.new.rates).waypoints at
    c.from_residual-in_err-chain-in-Optimal.result (rw (p.1) tt) (returns-in_err-chain-in-Optimal-clause-stops g c)

pub returns-in_ok-chain-in-Optimal-clause-ends : goal.returns-in_ok-chain-in-Optimal-clause-ends
returns-in_ok-chain-in-Optimal-clause-ends g c =
    let at : IsNonsingularBasis (g.M.Parametric.problem c.args.method.now).program c.args.basis.now =
    record { is_basis = c.requires.rates.is_basis; nonsingular = c.requires.rates.nonsingular } in
    run_ends (g.M.Parametric.problem c.args.method.now) c.requires.parametric c.args.span.now c.args.basis.now c.opening.new.basis at
    (g.R.Rates.state c.args.rates.now).waypoints (g.R.Rates.state c.opening.new.rates).waypoints
    c.in_ok-outcome.outcome c.in_ok-outcome.ensures.ends c.in_ok-outcome.ensures.waypoints
    (omega arith) c.in-Optimal.steps c.in-Optimal.point c.in-Optimal.prices c.in-Optimal.is
    (c.args.span.now.limit - c.in-Optimal.steps) refl
    c.chain.new.basis (g.R.Rates.state c.chain.new.rates).waypoints c.in_ok-chain-in-Optimal.chain c.in_ok-chain-in-Optimal.ensures.ends

pub returns-in_ok-chain-in-Optimal-clause-truth : goal.returns-in_ok-chain-in-Optimal-clause-truth
returns-in_ok-chain-in-Optimal-clause-truth g c =
    let at : IsNonsingularBasis (g.M.Parametric.problem c.args.method.now).program c.args.basis.now =
    record { is_basis = c.requires.rates.is_basis; nonsingular = c.requires.rates.nonsingular } in
    run_true (g.M.Parametric.problem c.args.method.now) c.requires.parametric c.args.span.now c.args.basis.now c.opening.new.basis at
    (g.R.Rates.state c.args.rates.now).waypoints (g.R.Rates.state c.opening.new.rates).waypoints
    c.in_ok-outcome.outcome c.in_ok-outcome.ensures.ends c.in_ok-outcome.ensures.waypoints
    (omega arith) c.in-Optimal.steps c.in-Optimal.point c.in-Optimal.prices c.in-Optimal.is
    (c.args.span.now.limit - c.in-Optimal.steps) refl
    c.chain.new.basis (g.R.Rates.state c.chain.new.rates).waypoints c.in_ok-chain-in-Optimal.chain c.in_ok-chain-in-Optimal.ensures.ends

pub returns-in_ok-chain-in-Optimal-clause-waypoints : goal.returns-in_ok-chain-in-Optimal-clause-waypoints
returns-in_ok-chain-in-Optimal-clause-waypoints g c =
    let at : IsNonsingularBasis (g.M.Parametric.problem c.args.method.now).program c.args.basis.now =
    record { is_basis = c.requires.rates.is_basis; nonsingular = c.requires.rates.nonsingular } in
    let counts : c.in-Optimal.steps + (c.args.span.now.limit - c.in-Optimal.steps) ≡ c.args.span.now.limit =
    (let within = opening_within (g.M.Parametric.problem c.args.method.now) c.requires.parametric c.args.span.now c.args.basis.now c.opening.new.basis at
    (g.R.Rates.state c.args.rates.now).waypoints (g.R.Rates.state c.opening.new.rates).waypoints
    c.in_ok-outcome.outcome c.in_ok-outcome.ensures.ends c.in_ok-outcome.ensures.waypoints
    (omega arith) c.in-Optimal.steps c.in-Optimal.point c.in-Optimal.prices c.in-Optimal.is in omega (arith, within)) in
    c.in_ok-chain-in-Optimal.ensures.waypoints c.args.basis.now (g.R.Rates.state c.args.rates.now).waypoints c.in-Optimal.steps counts
    (first_opens (g.M.Parametric.problem c.args.method.now) c.requires.parametric c.args.span.now c.args.basis.now c.opening.new.basis at
    (g.R.Rates.state c.args.rates.now).waypoints (g.R.Rates.state c.opening.new.rates).waypoints
    c.in_ok-outcome.outcome c.in_ok-outcome.ensures.ends c.in_ok-outcome.ensures.waypoints
    (omega arith) c.in-Optimal.steps c.in-Optimal.point c.in-Optimal.prices c.in-Optimal.is)

pub returns-in_ok-chain-in-Optimal-clause-complete : goal.returns-in_ok-chain-in-Optimal-clause-complete
returns-in_ok-chain-in-Optimal-clause-complete g c =
    let at : IsNonsingularBasis (g.M.Parametric.problem c.args.method.now).program c.args.basis.now =
    record { is_basis = c.requires.rates.is_basis; nonsingular = c.requires.rates.nonsingular } in
    method_answers (g.M.Parametric.problem c.args.method.now) c.requires.parametric c.args.span.now c.args.basis.now c.chain.new.basis
    (g.R.Rates.state c.args.rates.now).waypoints (g.R.Rates.state c.chain.new.rates).waypoints at
    (Ok (Run c.in_ok-chain-in-Optimal.chain)) (returns-in_ok-chain-in-Optimal-clause-ends g c) tt

pub returns-in_default-clause-ends : goal.returns-in_default-clause-ends
returns-in_default-clause-ends g c =
    let at : IsNonsingularBasis (g.M.Parametric.problem c.args.method.now).program c.args.basis.now =
    record { is_basis = c.requires.rates.is_basis; nonsingular = c.requires.rates.nonsingular } in
    opening_reported (g.M.Parametric.problem c.args.method.now) c.requires.parametric c.args.span.now c.args.basis.now c.opening.new.basis at
    (g.R.Rates.state c.args.rates.now).waypoints (g.R.Rates.state c.opening.new.rates).waypoints
    c.in_ok-outcome.outcome c.in_ok-outcome.ensures.ends c.in_ok-outcome.ensures.waypoints _ refl (failed_by c.in_ok-outcome.outcome c.in_default.not-Optimal)

pub returns-in_default-clause-waypoints : goal.returns-in_default-clause-waypoints
returns-in_default-clause-waypoints g c =
    opening_follows (g.M.Parametric.problem c.args.method.now) c.requires.parametric c.args.span.now c.args.basis.now c.opening.new.basis
    (g.R.Rates.state c.args.rates.now).waypoints (g.R.Rates.state c.opening.new.rates).waypoints
    c.in_ok-outcome.ensures.waypoints

pub returns-in_default-clause-complete : goal.returns-in_default-clause-complete
returns-in_default-clause-complete g c =
    let at : IsNonsingularBasis (g.M.Parametric.problem c.args.method.now).program c.args.basis.now =
    record { is_basis = c.requires.rates.is_basis; nonsingular = c.requires.rates.nonsingular } in
    method_answers (g.M.Parametric.problem c.args.method.now) c.requires.parametric c.args.span.now c.args.basis.now c.opening.new.basis
    (g.R.Rates.state c.args.rates.now).waypoints (g.R.Rates.state c.opening.new.rates).waypoints at
    (Ok (Opening c.in_ok-outcome.outcome)) (returns-in_default-clause-ends g c) tt
