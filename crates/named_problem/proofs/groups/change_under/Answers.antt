use Rattle.std.proofs.Common.{length, unwrap_or, sym, ap, ap₂, ◌∙◌}
use Rattle.indexmap.specs.IndexMap.{insert_entry}
use Rattle.problem_definitions.specs.Names.{same}
use Rattle.deck_fields.specs.Views.{viewed}
use Rattle.named_problem.specs.Changes.{entries_changed}
use Rattle.named_problem.proofs.groups.change_under.Goals as goal

pub returns : goal.returns
returns c =
    let taken = c.or_insert-items.ensures.value ∙ ap₂ unwrap_or c.in_ok-groups.ensures.value c.new.ensures in
    let made = c.in_ok-change.ensures ∙ ap (entries_changed c.args.change (viewed c.args.card.now)) taken in (
      ap (λ m. m.entries) (c.groups-3-1.given.1 (sym c.in_ok-groups.ensures.same_map)) ∙ c.in_ok-groups.ensures.update.1 c.change.new.self
          ∙ ap (λ items. insert_entry same c.args.groups.now.entries c.args.card.now.name1 items) made,
      c.len-before.ensures ∙ ap length taken,
      c.len-after.ensures ∙ ap length made,
    )
