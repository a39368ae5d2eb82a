use Rattle.std.proofs.Common.{◌++◌, map, rules, ap, ◌∙◌}
use Rattle.std.proofs.lemmas.Result.{IfOk-weaker}
use Rattle.deck_definitions.specs.DataCards.{entries_of}
use Rattle.named_problem.specs.Views.{IsPut, IsCountBefore, group_at}
use Rattle.deck_fields.specs.Views.{viewed}
use Rattle.named_problem.proofs.Counted.{put_kept, under}
use Rattle.named_problem.proofs.Grouped.{put_in_set}
use Rattle.named_problem.proofs.Settled.{on_ok_settled, if_err_settled, with_ok_settled}
use Rattle.named_problem.proofs.groups.Groups.take_column.Goals as goal

pub settle-requires : goal.settle-requires
settle-requires c =
    let name = c.args.card.now.name1 in
    let items = under name c.self.inside.groups.entries ++ entries_of (viewed c.args.card.now) in
    let new = c.take_column_into-taken.new.columns.entries in
    IfOk-weaker c.take_column_into-taken.result (λ lengths. IsPut name items c.self.inside.groups.entries new lengths.before lengths.after)
    (λ lengths. IsCountBefore (map group_at new) c.self.inside.count lengths.before lengths.after)
    (λ lengths put. put_kept name items c.self.inside.groups.entries new c.self.inside.count lengths.before lengths.after c.self.invariant.1
    c.self.invariant.2 put)
    c.take_column_into-taken.ensures.put

pub invariant_of-self : goal.invariant_of-self
invariant_of-self c = (c.settle.ensures.distinct, c.settle.ensures.count, c.settle.ensures.short)

pub returns : goal.returns
returns c = record {
  no_fault = on_ok_settled _ c.take_column_into-taken.result c.settle.result c.settle.ensures.same (search rules);
  step = rw (← c.self.view_is) (with_ok_settled _ _ _ c.take_column_into-taken.result c.settle.result c.settle.ensures.same
      (λ lengths put kept. ap (map group_at) (kept ∙ put.0)
      ∙ put_in_set c.args.card.now.name1 (λ items. items ++ entries_of (viewed c.args.card.now)) c.self.inside.groups.entries c.self.invariant.0)
      c.take_column_into-taken.ensures.put c.settle.ensures.kept);
  stop = if_err_settled _ c.take_column_into-taken.result c.settle.result c.settle.ensures.same (search rules);
}
