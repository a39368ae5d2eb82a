use Rattle.std.proofs.Common.{◌≡◌, ◌++◌, ◌∷◌, [], None, map, unwrap_or, OnOk, IfErr, sym, ap, ap₂, subst, ◌∙◌}
use Rattle.std.proofs.lemmas.Result.{on_ok_weaker}
use Rattle.indexmap.specs.IndexMap.{insert_entry}
use Rattle.problem_definitions.specs.Names.{same}
use Rattle.deck_definitions.specs.DataCards.{bound_of}
use Rattle.deck_fields.specs.Reported.{ReportsDeckFault}
use Rattle.named_problem.specs.Views.{group_at, bound_rest_fault}
use Rattle.deck_fields.specs.Views.{viewed}
use Rattle.named_problem.proofs.Grouped.{items_found, put_in_set}
use Rattle.named_problem.proofs.bound_sets.take_bound_into.Goals as goal

pub returns : goal.returns
returns c =
    let taken = c.or_insert-items.ensures.value ∙ ap₂ unwrap_or c.in_ok-sets.ensures.value c.new.ensures in
    let found = taken ∙ items_found c.args.card.now.name1 c.args.sets.now.entries c.in_ok-sets.ensures.unique in
    record {
      no_fault = subst (λ items. OnOk c.take_bound.result (bound_rest_fault items (viewed c.args.card.now) c.args.kind ≡ None)) found
          c.take_bound.ensures.no_fault;
      step = on_ok_weaker {P = c.take_bound.new.items ≡ c.or_insert-items.result.now ++ bound_of (viewed c.args.card.now) c.args.kind ∷ []}
          c.take_bound.result
          (λ step. ap (λ m. map group_at m.entries) (c.sets-3-1.given.1 (sym c.in_ok-sets.ensures.same_map))
          ∙ ap (map group_at) (c.in_ok-sets.ensures.update.1 c.take_bound.new.items)
          ∙ ap (λ items. map group_at (insert_entry same c.args.sets.now.entries c.args.card.now.name1 items))
          (step ∙ ap (λ items. items ++ bound_of (viewed c.args.card.now) c.args.kind ∷ []) taken)
          ∙ put_in_set c.args.card.now.name1
          (λ items. items ++ bound_of (viewed c.args.card.now) c.args.kind ∷ []) c.args.sets.now.entries c.in_ok-sets.ensures.unique)
          c.take_bound.ensures.step;
      stop = subst (λ items. IfErr c.take_bound.result (ReportsDeckFault (bound_rest_fault items (viewed c.args.card.now) c.args.kind))) found
          c.take_bound.ensures.stop;
    }
