use Rattle.std.proofs.Common.{◌≡◌, map, unwrap_or, sym, ap, ap₂, ◌∙◌}
use Rattle.std.proofs.lemmas.Result.{on_ok_weaker}
use Rattle.indexmap.specs.IndexMap.{insert_entry}
use Rattle.problem_definitions.specs.Names.{same}
use Rattle.named_problem.specs.Views.{group_at}
use Rattle.deck_fields.specs.Views.{viewed}
use Rattle.named_problem.proofs.Grouped.{put_in_set}
use Rattle.named_problem.specs.Changes.{bounds_changed}
use Rattle.named_problem.proofs.bound_sets.change_under.Goals as goal

pub returns : goal.returns
returns c =
    let taken = c.or_insert-bounds.ensures.value ∙ ap₂ unwrap_or c.in_ok-sets.ensures.value c.new.ensures in
    on_ok_weaker {P = c.change.new.self ≡ bounds_changed c.args.change (viewed c.args.card.now) c.or_insert-bounds.result.now} c.change.result
    (λ step. ap (λ m. map group_at m.entries) (c.sets-3-1.given.1 (sym c.in_ok-sets.ensures.same_map))
    ∙ ap (map group_at) (c.in_ok-sets.ensures.update.1 c.change.new.self)
    ∙ ap (λ items. map group_at (insert_entry same c.args.sets.now.entries c.args.card.now.name1 items))
    (step ∙ ap (bounds_changed c.args.change (viewed c.args.card.now)) taken)
    ∙ put_in_set c.args.card.now.name1 (bounds_changed c.args.change (viewed c.args.card.now)) c.args.sets.now.entries c.in_ok-sets.ensures.unique)
    c.change.ensures
