use Rattle.std.proofs.Common.{◌≡◌, ℕ, ◌≤◌, ◌-◌, length, ap, ◌∙◌, subst, None}
use Rattle.std.proofs.lemmas.List.{take_all}
use Rattle.problem_definitions.specs.Problem.{Entry}
use Rattle.selection_definitions.specs.Limits.{value_on}
use Rattle.lp_setup.proofs.Lists.{Holds, holds-all}
use Rattle.lp_setup.proofs.Values.{value_step}
use Rattle.lp_setup.proofs.parts.values_by_row.Goals as goal

pub loop-item-preserved : goal.loop-item-preserved
loop-item-preserved c =
    let is_row : c.item.inside.row ≡ c.item-item.result.row = ap (λ (entry : Entry ℕ). entry.row) c.item.view_is in
    let is_value : c.value.result ≡ c.item-item.result.value.value = c.value.ensures ∙ ap (λ (entry : Entry ℕ). entry.value.value) c.item.view_is in
    value_step c.args.items.now c.args.rows c.loop-item.item-index (c.item.inside.row - 1) c.item-item.result c.value.result c.loop-item.values.items c.requires
    c.loop-item-test.true c.item-item.is (ap (λ row. row - 1) is_row) is_value c.loop-item.invariant

pub returns : goal.returns
returns c =
    let past : length c.args.items.now ≤ c.loop-item.item-index = c.loop-item-test.false in
    holds-all (value_on c.args.items.now) c.args.rows None c.loop-item.values.items
    (subst (λ items. Holds (value_on items) c.args.rows None c.loop-item.values.items)
    (take_all c.loop-item.item-index c.args.items.now past) c.loop-item.invariant)
