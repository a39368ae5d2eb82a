use Rattle.std.proofs.Common.{◌≡◌, ◌++◌, None, length, unwrap_or, OnOk, IfErr, sym, ap, ap₂, subst, ◌∙◌}
use Rattle.std.proofs.lemmas.Result.{IfOk-weaker}
use Rattle.indexmap.specs.IndexMap.{insert_entry}
use Rattle.problem_definitions.specs.Names.{same}
use Rattle.deck_definitions.specs.DataCards.{entries_of, pairs_of}
use Rattle.deck_definitions.specs.Tests.{pairs_fault}
use Rattle.deck_fields.specs.Reported.{ReportsDeckFault}
use Rattle.named_problem.specs.Views.{rows_alone}
use Rattle.deck_fields.specs.Views.{viewed}
use Rattle.named_problem.proofs.Grouped.{items_found}
use Rattle.named_problem.proofs.groups.take_into.Goals as goal

pub returns-clause-no_fault : goal.returns-clause-no_fault
returns-clause-no_fault c =
    let taken = c.or_insert-items.ensures.value ∙ ap₂ unwrap_or c.in_ok-groups.ensures.value c.new.ensures in
    subst (λ items. OnOk c.take_measured.result
    (pairs_fault (rows_alone c.args.rows.now) c.args.section items c.args.count (pairs_of (viewed c.args.card.now)) ≡ None))
    (taken ∙ items_found c.args.card.now.name1 c.args.groups.now.entries c.in_ok-groups.ensures.unique) c.take_measured.ensures.no_fault

pub returns-clause-put : goal.returns-clause-put
returns-clause-put c =
    let taken = c.or_insert-items.ensures.value ∙ ap₂ unwrap_or c.in_ok-groups.ensures.value c.new.ensures in
    IfOk-weaker c.take_measured.result _ _ (λ lengths step.
    let made = step.0 ∙ ap (λ items. items ++ entries_of (viewed c.args.card.now)) taken in (
      ap (λ m. m.entries) (c.groups-3-1.given.1 (sym c.in_ok-groups.ensures.same_map)) ∙ c.in_ok-groups.ensures.update.1 c.take_measured.new.items
          ∙ ap (λ items. insert_entry same c.args.groups.now.entries c.args.card.now.name1 items) made,
      step.1 ∙ ap length taken,
      step.2 ∙ ap length made,
    )) c.take_measured.ensures.step

pub returns-clause-stop : goal.returns-clause-stop
returns-clause-stop c =
    let taken = c.or_insert-items.ensures.value ∙ ap₂ unwrap_or c.in_ok-groups.ensures.value c.new.ensures in
    subst (λ items. IfErr c.take_measured.result
    (ReportsDeckFault (pairs_fault (rows_alone c.args.rows.now) c.args.section items c.args.count (pairs_of (viewed c.args.card.now)))))
    (taken ∙ items_found c.args.card.now.name1 c.args.groups.now.entries c.in_ok-groups.ensures.unique) c.take_measured.ensures.stop
