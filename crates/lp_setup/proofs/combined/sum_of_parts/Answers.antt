use Rattle.std.proofs.Common.{◌≡◌, ◌≤◌, length, refl, ap, ◌∙◌, subst}
use Rattle.std.proofs.lemmas.List.{take_all}
use Rattle.std.proofs.lemmas.Result.{err_from_is_err_and}
use Rattle.check_definitions.specs.declared.Verdict.TheVariants.{Checked}
use Rattle.check_definitions.specs.Steps.{verdict_of, sum_steps}
use Rattle.exact_values.specs.Rational.{zero_ℚ}
use Rattle.selection_definitions.specs.Combinations.{part_products, sum_if_any}
use Rattle.lp_setup.proofs.Sums.{total_step, refused_at, room}
use Rattle.lp_setup.proofs.combined.sum_of_parts.Goals as goal

pub loop-part-init : goal.loop-part-init
loop-part-init c = record { is_sum = refl; is_count = refl; is_made = refl }

pub with_part-requires-clause-room : goal.with_part-requires-clause-room
with_part-requires-clause-room c =
    room (length c.args.values.now) c.args.parts.now c.args.values.now c.loop-part.part-index c.loop-part.total c.requires.parts c.requires.few
    c.loop-part.invariant

pub returns-in_err-total-clause-refused : goal.returns-in_err-total-clause-refused
returns-in_err-total-clause-refused c =
    let p = err_from_is_err_and c.from_residual.result c.from_residual.ensures.1 in
    rw (p.1, p.2)
    (refused_at c.args.parts.now c.args.values.now c.loop-part.part-index c.part-item.result c.loop-part-test.true c.part-item.is c.loop-part.total _
    c.loop-part.invariant c.in_err-total.ensures.refused)

pub loop-part-preserved : goal.loop-part-preserved
loop-part-preserved c =
    total_step c.args.parts.now c.args.values.now c.loop-part.part-index c.part-item.result c.loop-part-test.true c.part-item.is c.loop-part.total
    c.in_ok-total.total c.loop-part.invariant c.in_ok-total.ensures.total

pub returns-clause-sum : goal.returns-clause-sum
returns-clause-sum c =
    let past : length c.args.parts.now ≤ c.loop-part.part-index = c.loop-part-test.false in
    c.loop-part.invariant.is_sum ∙ ap (λ parts. sum_if_any (part_products parts c.args.values.now)) (take_all c.loop-part.part-index c.args.parts.now past)

pub returns-clause-made : goal.returns-clause-made
returns-clause-made c =
    let past : length c.args.parts.now ≤ c.loop-part.part-index = c.loop-part-test.false in
    subst (λ parts. verdict_of (sum_steps zero_ℚ (part_products parts c.args.values.now)) ≡ Checked)
    (take_all c.loop-part.part-index c.args.parts.now past) c.loop-part.invariant.is_made
