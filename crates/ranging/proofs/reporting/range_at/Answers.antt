use Rattle.std.proofs.Common.{◌≡◌, ◌-◌, rules, arith, sym, ap, ◌∙◌, subst, drop, length, replicate}
use Rattle.std.proofs.lemmas.Grind.{common_steps}
use Rattle.std.proofs.lemmas.List.{get_or-replicate}
use Rattle.lp_definitions.specs.LinearProgram.{value_at, size}
use Rattle.ranging.specs.LimitEnds.{no_ends, ends_at}
use Rattle.ranging.specs.Tables.{AllMet, AllFound}
use Rattle.ranging.proofs.Results.{take_all}
use Rattle.ranging.proofs.AtBasis.{met_begins}
use Rattle.basis_values.proofs.Kept.{kept_same}
use Rattle.ranging.proofs.reporting.range_at.Goals as goal

pub returns-in_err-row-clause-rates : goal.returns-in_err-row-clause-rates
returns-in_err-row-clause-rates g c = kept_same (g.R.Rates.state c.args.rates.now).waypoints c.requires.rates

pub returns-in_err-found-clause-rates : goal.returns-in_err-found-clause-rates
returns-in_err-found-clause-rates g c = kept_same (g.R.Rates.state c.args.rates.now).waypoints c.requires.rates

pub returns-in_err-ends-clause-rates : goal.returns-in_err-ends-clause-rates
returns-in_err-ends-clause-rates g c = kept_same (g.R.Rates.state c.args.rates.now).waypoints c.requires.rates

pub pass-requires-clause-begins : goal.pass-requires-clause-begins
pass-requires-clause-begins g c =
    let counted : c.number_of_variables-size.result ≡ size c.args.at.now.lp.now.matrix = search rules in
    let items : c.deref_mut-3.result.now ≡ replicate c.number_of_variables-size.result c.without_ends-2.result = search rules in
    met_begins c.args.at.now.lp.now c.args.at.now.basis.now c.number_of_variables-size.ensures.lawful c.requires.optimum.no_change c.requires.optimum.optimal
    (value_at c.args.at.now.point.now) c.requires.optimum.point c.deref_mut-3.result.now
    (λ k is. ap (λ xs. ends_at xs k) items
    ∙ get_or-replicate c.number_of_variables-size.result (k - 1) c.without_ends-2.result no_ends (omega (arith, counted, is.0, is.1))
    ∙ c.without_ends-2.ensures)

pub report-requires-clause-ends : goal.report-requires-clause-ends
report-requires-clause-ends g c =
    let same : c.deref-2.result.now ≡ c.pass.new.ends =
    c.deref-2.ensures.value ∙ take_all c.pass.new.ends (drop (length c.pass.new.ends) c.in_ok-ends.ends.items) c.in_ok-ends.ends.len (omega arith) in
    record {
      places = grind (arith, common_steps);
      each = subst (AllMet c.args.at.now.lp.now c.args.at.now.basis.now (value_at c.args.at.now.point.now) (size c.args.at.now.lp.now.matrix))
          (sym same) c.in_ok-pass.ensures.met;
    }

pub report-requires-clause-found : goal.report-requires-clause-found
report-requires-clause-found g c =
    let same : c.deref.result.now ≡ c.pass.new.found =
    c.deref.ensures.value ∙ take_all c.pass.new.found (drop (length c.pass.new.found) c.in_ok-found.found.items) c.in_ok-found.found.len (omega arith) in
    record {
      places = grind (arith, common_steps);
      each = subst (AllFound c.args.at.now.lp.now c.args.at.now.basis.now (size c.args.at.now.lp.now.matrix)) (sym same) c.in_ok-pass.ensures.found;
    }
