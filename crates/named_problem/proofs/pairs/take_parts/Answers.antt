use Rattle.std.proofs.Common.{◌++◌, IfErr, arith, rules, sym, ap₂, subst, ◌∙◌, option_map}
use Rattle.std.proofs.lemmas.Grind.{common_steps}
use Rattle.std.specs.Option.{option_to_list}
use Rattle.deck_definitions.specs.DataCards.{pair_if}
use Rattle.deck_fields.specs.Reported.{ReportsDeckFault}
use Rattle.deck_fields.specs.Views.{viewed, pair_view}
use Rattle.named_problem.specs.Views.{parts_fault}
use Rattle.named_problem.proofs.PartsReported.{reported_first, parts-append, second_parts}
use Rattle.named_problem.proofs.pairs.take_parts.Goals as goal

pub returns-in-Ok : goal.returns-in-Ok
returns-in-Ok c = record {
  no_fault = search rules;
  step = grind (arith, common_steps);
  stop = subst (λ fault. IfErr c.take_part-in-Ok.result (ReportsDeckFault fault))
      (second_parts c.args.rows.now c.args.parts.now c.take_part.new.parts (option_to_list (option_map pair_view c.first_part.result))
      (option_to_list (option_map pair_view c.second_pair.result)) c.in-Ok.ensures.no_fault c.in-Ok.ensures.step
      ∙ ap₂ (λ first second. parts_fault c.args.rows.now c.args.parts.now (first ++ second)) c.first_part.ensures c.second_pair.ensures)
      c.take_part-in-Ok.ensures.stop;
}

pub returns-in-Err : goal.returns-in-Err
returns-in-Err c = record {
  no_fault = search rules;
  step = search rules;
  stop =
      let card = viewed c.args.card.now in
      let first = pair_if card.name2 card.value1 card.value1_column in
      let second = pair_if card.name3 card.value2 card.value2_column in
      subst (λ fault. ReportsDeckFault fault c.in-Err.stop) (sym (parts-append c.args.rows.now c.args.parts.now first second))
      (reported_first (parts_fault c.args.rows.now c.args.parts.now first) _ c.in-Err.stop
      (subst (λ first. ReportsDeckFault (parts_fault c.args.rows.now c.args.parts.now first) c.in-Err.stop) c.first_part.ensures c.in-Err.ensures.stop));
}
