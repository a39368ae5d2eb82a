use Rattle.std.proofs.Common.{◌∷◌, IfErr, arith, rules, sym, ap₂, subst}
use Rattle.std.proofs.lemmas.Grind.{common_steps}
use Rattle.deck_fields.specs.Reported.{ReportsDeckFault}
use Rattle.named_problem.specs.Views.{rows_alone}
use Rattle.deck_fields.specs.Views.{pair_view}
use Rattle.named_problem.proofs.Second.{second_tells}
use Rattle.named_problem.proofs.pairs.take_pairs.Goals as goal

pub returns-in-Some : goal.returns-in-Some
returns-in-Some c = record {
  no_fault = search rules;
  step = grind (arith, common_steps);
  stop = subst (λ fault. IfErr c.take_pair-in-Some.result (ReportsDeckFault fault))
      (second_tells (rows_alone c.args.rows.now) c.args.section c.args.items.now _ c.args.count (pair_view c.first_pair.result)
      (pair_view c.in-Some.second) _ c.in_ok-take_pair.ensures.no_fault c.in_ok-take_pair.ensures.step
      (ap₂ (λ first rest. first ∷ rest) (sym c.first_pair.ensures) (sym c.in-Some.ensures)))
      c.take_pair-in-Some.ensures.stop;
}
