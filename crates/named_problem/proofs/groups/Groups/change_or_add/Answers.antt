use Rattle.std.proofs.Common.{map, sym, ap, subst, ◌∙◌}
use Rattle.std.proofs.lemmas.Result.{IfOk-weaker}
use Rattle.named_problem.specs.Additions.{CanChange}
use Rattle.named_problem.specs.Changes.{entries_changed}
use Rattle.named_problem.specs.Views.{IsPut, IsCountBefore, group_at}
use Rattle.deck_fields.specs.Views.{viewed}
use Rattle.named_problem.proofs.Counted.{put_kept, under}
use Rattle.named_problem.proofs.Grouped.{items_found, put_in_set}
use Rattle.named_problem.proofs.Settled.{with_ok_settled}
use Rattle.named_problem.proofs.groups.Groups.change_or_add.Goals as goal

pub change_under-changed-requires : goal.change_under-changed-requires
change_under-changed-requires c =
    subst (CanChange c.args.change (viewed c.args.card.now))
    (sym (items_found c.args.card.now.name1 c.self.inside.groups.entries c.self.invariant.0)) (rw (← c.self.view_is) at c.requires)

pub settle-requires : goal.settle-requires
settle-requires c =
    let name = c.args.card.now.name1 in
    let items = entries_changed c.args.change (viewed c.args.card.now) (under name c.self.inside.groups.entries) in
    let new = c.change_under-changed.new.groups.entries in
    IfOk-weaker c.change_under-changed.result (λ lengths. IsPut name items c.self.inside.groups.entries new lengths.before lengths.after)
    (λ lengths. IsCountBefore (map group_at new) c.self.inside.count lengths.before lengths.after)
    (λ lengths put. put_kept name items c.self.inside.groups.entries new c.self.inside.count lengths.before lengths.after c.self.invariant.1
    c.self.invariant.2 put)
    c.change_under-changed.ensures

pub invariant_of-self : goal.invariant_of-self
invariant_of-self c = (c.settle.ensures.distinct, c.settle.ensures.count, c.settle.ensures.short)

pub returns : goal.returns
returns c = rw (← c.self.view_is) (with_ok_settled _ _ _ c.change_under-changed.result c.settle.result c.settle.ensures.same
    (λ lengths put kept. ap (map group_at) (kept ∙ put.0)
    ∙ put_in_set c.args.card.now.name1 (entries_changed c.args.change (viewed c.args.card.now)) c.self.inside.groups.entries c.self.invariant.0)
    c.change_under-changed.ensures c.settle.ensures.kept)
