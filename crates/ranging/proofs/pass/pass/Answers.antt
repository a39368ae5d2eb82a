use Rattle.std.proofs.Common.{◌≡◌, ◌+◌, ◌-◌, ℕ, Err, refl, rules, arith, subst}
use Rattle.lp_definitions.specs.LinearProgram.{value_at, size}
use Rattle.lp_model.proofs.Stops.{IfOverflow-map}
use Rattle.ranging.specs.Tables.{AllMet, AllFound}
use Rattle.ranging.proofs.AtBasis.{found_none}
use Rattle.ranging.proofs.Views.{range_refused_later}
use Rattle.basis_values.proofs.Kept.{kept_same, kept_then}
use Rattle.ranging.proofs.pass.pass.Goals as goal

pub loop-k-init : goal.loop-k-init
loop-k-init g c = record {
  rates = kept_same (g.R.Rates.state c.args.rates.now).waypoints c.requires.rates;
  row_places = refl;
  found_places = refl;
  end_places = refl;
  met = c.requires.begins;
  found = found_none c.args.at.now.lp.now c.args.at.now.basis.now c.args.found.now;
}

pub visit_basic-requires-clause-met : goal.visit_basic-requires-clause-met
visit_basic-requires-clause-met g c =
    let same : c.loop-k.k ≡ c.loop-k.k + 1 - 1 = omega arith in
    subst (λ (n : ℕ). AllMet c.args.at.now.lp.now c.args.at.now.basis.now (value_at c.args.at.now.point.now) n c.loop-k.ends) same c.loop-k.invariant.met

pub returns-in_err-visit_basic-clause-rates : goal.returns-in_err-visit_basic-clause-rates
returns-in_err-visit_basic-clause-rates g c = kept_then c.loop-k.invariant.rates c.visit_basic.ensures.rates

pub returns-in_err-visit_basic-clause-overflow : goal.returns-in_err-visit_basic-clause-overflow
returns-in_err-visit_basic-clause-overflow g c =
    let is_err : c.from_residual.result ≡ Err c.in_err-visit_basic.field-0.0 = search rules in
    rw is_err (IfOverflow-map c.in_err-visit_basic.field-0.0
    (λ e h. range_refused_later c.args.at.now.lp.now (g.R.Rates.state c.args.rates.now).waypoints (g.R.Rates.state c.loop-k.rates).waypoints
    (g.R.Rates.state c.visit_basic.new.rates).waypoints c.args.at.now.basis.now e c.loop-k.invariant.rates.1 h)
    c.in_err-visit_basic.ensures.overflow)

pub loop-k-preserved : goal.loop-k-preserved
loop-k-preserved g c = record {
  rates = kept_then c.loop-k.invariant.rates c.visit_basic.ensures.rates;
  row_places = omega arith;
  found_places = omega arith;
  end_places = omega arith;
  met = c.in_ok-visit_basic.ensures.met;
  found = c.in_ok-visit_basic.ensures.found;
}

pub returns-clause-met : goal.returns-clause-met
returns-clause-met g c =
    let all : c.loop-k.k ≡ size c.args.at.now.lp.now.matrix = omega arith in
    subst (λ (n : ℕ). AllMet c.args.at.now.lp.now c.args.at.now.basis.now (value_at c.args.at.now.point.now) n c.loop-k.ends) all c.loop-k.invariant.met

pub returns-clause-found : goal.returns-clause-found
returns-clause-found g c =
    let all : c.loop-k.k ≡ size c.args.at.now.lp.now.matrix = omega arith in
    subst (λ (n : ℕ). AllFound c.args.at.now.lp.now c.args.at.now.basis.now n c.loop-k.found) all c.loop-k.invariant.found
