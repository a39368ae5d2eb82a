use Rattle.std.proofs.Common.{◌≡◌, None, OnOk, IfErr, rules, sym, subst, ◌∙◌}
use Rattle.deck_fields.specs.Reported.{ReportsDeckFault}
use Rattle.deck_fields.specs.Views.{viewed}
use Rattle.named_problem.proofs.RowsReported.{begins_plain, begins_combination}
use Rattle.named_problem.proofs.row_cards.begin_row.Goals as goal

pub returns-in-Some : goal.returns-in-Some
returns-in-Some c = record {
  no_fault = search rules;
  step = search rules;
  stop = subst (λ fault. IfErr c.begin_plain.result (ReportsDeckFault fault))
      (sym (begins_plain c.args.rows.now (viewed c.args.card.now) c.requires c.in-Some.kind (sym c.in-Some.ensures))) c.begin_plain.ensures.stop;
}

pub returns-in-Some-combination_kind : goal.returns-in-Some-combination_kind
returns-in-Some-combination_kind c =
    let begins = sym (begins_combination c.args.rows.now (viewed c.args.card.now) c.requires c.in-Some-combination_kind.kind
    (sym c.row_kind.ensures ∙ c.in_default.is) (sym c.in-Some-combination_kind.ensures)) in
    record {
      no_fault = subst (λ fault. OnOk c.begin_combination.result (fault ≡ None)) begins c.begin_combination.ensures.no_fault;
      step = search rules;
      stop = subst (λ fault. IfErr c.begin_combination.result (ReportsDeckFault fault)) begins c.begin_combination.ensures.stop;
    }
