use Rattle.std.proofs.Common.{◌≡◌, ◌+◌, ◌-◌, rules, arith, sym, ◌∙◌, subst, set, None}
use Rattle.lp_definitions.specs.LinearProgram.{value_at, lower_of, upper_of}
use Rattle.lp_laws.proofs.Values.{clash}
use Rattle.ranging.specs.Tables.{AllFound, AreEndsOfRow}
use Rattle.ranging.proofs.AtBasis.{met_skipped, met_free, found_skipped, found_more, nonbasic_by_test}
use Rattle.basis_values.proofs.Kept.{kept_same}
use Rattle.ranging.proofs.pass.visit_basic.Goals as goal

pub returns-then-not-stands_basic-clause-met : goal.returns-then-not-stands_basic-clause-met
returns-then-not-stands_basic-clause-met g c =
    let low = c.requires.variable.0 in
    met_skipped c.args.at.now.lp.now c.args.at.now.basis.now c.requires.optimum.lawful c.requires.optimum.no_change c.requires.optimum.optimal
    (value_at c.args.at.now.point.now) c.requires.optimum.point (c.args.i - 1) c.args.i (omega arith)
    (nonbasic_by_test c.args.at.now.lp.now c.args.at.now.basis.now c.args.i c.stands_basic.result c.requires.rates.is_basis.counted c.requires.variable
    c.stands_basic.ensures c.if-not-stands_basic.true) c.args.ends.now c.requires.met

pub returns-then-not-stands_basic-clause-found : goal.returns-then-not-stands_basic-clause-found
returns-then-not-stands_basic-clause-found g c =
    let low = c.requires.variable.0 in
    found_skipped c.args.at.now.lp.now c.args.at.now.basis.now (c.args.i - 1) c.args.i (omega arith)
    (λ basic other. clash
    (sym basic ∙ nonbasic_by_test c.args.at.now.lp.now c.args.at.now.basis.now c.args.i c.stands_basic.result c.requires.rates.is_basis.counted
    c.requires.variable c.stands_basic.ensures c.if-not-stands_basic.true)) c.args.found.now c.requires.found

pub returns-then-not-stands_basic-clause-rates : goal.returns-then-not-stands_basic-clause-rates
returns-then-not-stands_basic-clause-rates g c = kept_same (g.R.Rates.state c.args.rates.now).waypoints c.requires.rates

pub returns-then-i-lp-clause-met : goal.returns-then-i-lp-clause-met
returns-then-i-lp-clause-met g c =
    let low = c.requires.variable.0 in
    let same : c.args.i ≡ c.args.at.now.lp.now.objective = search rules in
    met_free c.args.at.now.lp.now c.args.at.now.basis.now c.requires.optimum.lawful c.requires.optimum.no_change c.requires.optimum.optimal
    (value_at c.args.at.now.point.now) c.requires.optimum.point (c.args.i - 1) c.args.i (omega arith)
    (subst (λ i. lower_of c.args.at.now.lp.now i ≡ None) (sym same) c.requires.optimum.lawful.objective_free.0)
    (subst (λ i. upper_of c.args.at.now.lp.now i ≡ None) (sym same) c.requires.optimum.lawful.objective_free.1) c.args.ends.now c.requires.met

pub returns-then-i-lp-clause-rates : goal.returns-then-i-lp-clause-rates
returns-then-i-lp-clause-rates g c = kept_same (g.R.Rates.state c.args.rates.now).waypoints c.requires.rates

pub returns-clause-found : goal.returns-clause-found
returns-clause-found g c =
    let low = c.requires.variable.0 in
    let next : c.args.i ≡ c.args.i - 1 + 1 = omega arith in
    subst (λ m. AllFound c.args.at.now.lp.now c.args.at.now.basis.now m (set c.args.found.now (c.args.i - 1) c.in_ok-own.own)) (sym next)
    (found_more c.args.at.now.lp.now c.args.at.now.basis.now (c.args.i - 1) c.args.found.now c.in_ok-own.own (omega arith)
    (subst (λ m. AreEndsOfRow c.args.at.now.lp.now c.args.at.now.basis.now m c.in_ok-own.own) next c.in_ok-own.ensures.found) c.requires.found)
