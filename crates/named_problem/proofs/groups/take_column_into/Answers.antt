use Rattle.std.proofs.Common.{◌≡◌, ◌+◌, ◌++◌, ◌∷◌, [], None, ◌&&◌, map, nat_lt, nat_le, nat_eq, length, unwrap_or, OnOk, IfErr, sym, ap, ap₂, subst, ◌∙◌, arith}
use Rattle.std.proofs.lemmas.Result.{IfOk-weaker}
use Rattle.indexmap.specs.IndexMap.{insert_entry}
use Rattle.card_definitions.specs.Words.{◌⟹◌, first_fault}
use Rattle.problem_definitions.specs.declared.TheConstants.{MAX_COLUMNS}
use Rattle.problem_definitions.specs.Names.{same}
use Rattle.deck_definitions.specs.declared.DeckFaultKind.TheVariants.{ColumnSplit, TooManyColumns}
use Rattle.deck_definitions.specs.declared.Section.TheVariants.{Columns}
use Rattle.deck_definitions.specs.DataCards.{entries_of, pairs_of}
use Rattle.deck_definitions.specs.Tests.{pairs_fault}
use Rattle.deck_fields.specs.Reported.{ReportsDeckFault}
use Rattle.named_problem.specs.Views.{rows_alone, group_at, column_fault}
use Rattle.deck_fields.specs.Views.{viewed}
use Rattle.named_problem.proofs.Fronts.{place_within, place_tells, column_fine, column_refused}
use Rattle.named_problem.proofs.Grouped.{items_found}
use Rattle.named_problem.proofs.groups.take_column_into.Goals as goal

pub place_fault-requires : goal.place_fault-requires
place_fault-requires c =
    let within = place_within c.args.card.now.name1 c.args.columns.now.entries in
    omega (arith, within, c.index-place.ensures, c.in_ok-entry.ensures.index, c.len-before.ensures.len)

pub returns-in-Some-clause-stop : goal.returns-in-Some-clause-stop
returns-in-Some-clause-stop c =
    let place = c.index-place.ensures ∙ c.in_ok-entry.ensures.index in
    let reported =
    ap₂ (λ p n. first_fault ((nat_lt (p + 1) n ⟹ ColumnSplit) ∷ (nat_eq p n && nat_le MAX_COLUMNS n ⟹ TooManyColumns) ∷ [])) place c.len-before.ensures.len in
    column_refused (map group_at c.args.columns.now.entries) c.args.card.now.name1 _ c.in-Some.kind
    (sym (place_tells c.args.card.now.name1 c.args.columns.now.entries) ∙ sym reported ∙ sym c.in-Some.ensures)

pub returns-clause-no_fault : goal.returns-clause-no_fault
returns-clause-no_fault c =
    let place = c.index-place.ensures ∙ c.in_ok-entry.ensures.index in
    let reported =
    ap₂ (λ p n. first_fault ((nat_lt (p + 1) n ⟹ ColumnSplit) ∷ (nat_eq p n && nat_le MAX_COLUMNS n ⟹ TooManyColumns) ∷ [])) place c.len-before.ensures.len in
    let fine : column_fault (map group_at c.args.columns.now.entries) c.args.card.now.name1 None ≡ None =
    sym (place_tells c.args.card.now.name1 c.args.columns.now.entries) ∙ sym reported ∙ sym c.in_default.ensures in
    let taken = c.or_insert-items.ensures.value ∙ ap₂ unwrap_or c.in_ok-entry.ensures.value c.new.ensures in
    subst (λ fault. OnOk c.take_measured.result (fault ≡ None)) (sym (column_fine (map group_at c.args.columns.now.entries) c.args.card.now.name1 _ fine))
    (subst (λ items. OnOk c.take_measured.result
    (pairs_fault (rows_alone c.args.rows.now) Columns items c.args.count (pairs_of (viewed c.args.card.now)) ≡ None))
    (taken ∙ items_found c.args.card.now.name1 c.args.columns.now.entries c.in_ok-entry.ensures.unique) c.take_measured.ensures.no_fault)

pub returns-clause-put : goal.returns-clause-put
returns-clause-put c =
    let taken = c.or_insert-items.ensures.value ∙ ap₂ unwrap_or c.in_ok-entry.ensures.value c.new.ensures in
    IfOk-weaker c.take_measured.result _ _ (λ lengths step.
    let made = step.0 ∙ ap (λ items. items ++ entries_of (viewed c.args.card.now)) taken in (
      ap (λ m. m.entries) (c.columns-3-1.given.1 (sym c.in_ok-entry.ensures.same_map)) ∙ c.in_ok-entry.ensures.update.1 c.take_measured.new.items
          ∙ ap (λ items. insert_entry same c.args.columns.now.entries c.args.card.now.name1 items) made,
      step.1 ∙ ap length taken,
      step.2 ∙ ap length made,
    )) c.take_measured.ensures.step

pub returns-clause-stop : goal.returns-clause-stop
returns-clause-stop c =
    let place = c.index-place.ensures ∙ c.in_ok-entry.ensures.index in
    let reported =
    ap₂ (λ p n. first_fault ((nat_lt (p + 1) n ⟹ ColumnSplit) ∷ (nat_eq p n && nat_le MAX_COLUMNS n ⟹ TooManyColumns) ∷ [])) place c.len-before.ensures.len in
    let fine : column_fault (map group_at c.args.columns.now.entries) c.args.card.now.name1 None ≡ None =
    sym (place_tells c.args.card.now.name1 c.args.columns.now.entries) ∙ sym reported ∙ sym c.in_default.ensures in
    let taken = c.or_insert-items.ensures.value ∙ ap₂ unwrap_or c.in_ok-entry.ensures.value c.new.ensures in
    subst (λ fault. IfErr c.take_measured.result (ReportsDeckFault fault))
    (sym (column_fine (map group_at c.args.columns.now.entries) c.args.card.now.name1 _ fine))
    (subst (λ items. IfErr c.take_measured.result
    (ReportsDeckFault (pairs_fault (rows_alone c.args.rows.now) Columns items c.args.count (pairs_of (viewed c.args.card.now)))))
    (taken ∙ items_found c.args.card.now.name1 c.args.columns.now.entries c.in_ok-entry.ensures.unique) c.take_measured.ensures.stop)
