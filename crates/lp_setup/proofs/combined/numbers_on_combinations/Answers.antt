use Rattle.std.proofs.Common.{rules, ◌≡◌, ℕ, ◌+◌, ◌<◌, ◌≤◌, [], ◌∷◌, ◌++◌, Some, None, length, take, ap, sym, ◌∙◌, arith}
use Rattle.std.specs.List.{enumerate_from, filter_map, cons_option, slice_get}
use Rattle.std.proofs.lemmas.List.{take_all, append-nil}
use Rattle.problem_definitions.specs.Problem.{Row}
use Rattle.selection_definitions.specs.Combinations.{value_in, on_combination}
use Rattle.selection_laws.proofs.Fields.{length-numbered}
use Rattle.lp_setup.proofs.Columns.{numbers_step, with_number}
use Rattle.lp_setup.proofs.Lists.{standing}
use Rattle.lp_setup.proofs.combined.numbers_on_combinations.Goals as goal

pub loop-place-preserved-in_default : goal.loop-place-preserved-in_default
loop-place-preserved-in_default c =
    let place : ℕ = c.loop-place.place in
    let row : Row ℕ = c.index-rows-place.result in
    let is_row : slice_get c.args.rows.now place ≡ Some row = standing c.args.rows.now place row c.loop-place-test.true c.index-rows-place.is in
    let below : place < length c.args.values.now = omega (arith, c.loop-place-test.true, c.requires.values) in
    let none : on_combination (place + 1) c.index-values-place.result row.parts ≡ None = sym c.on_combination.ensures ∙ c.in_default.is in
    c.loop-place.invariant
    ∙ sym (append-nil
    (filter_map (λ (r : ℕ × Row ℕ). on_combination r.0 (value_in c.args.values.now r.0) r.1.parts) (take place (enumerate_from 1 c.args.rows.now))))
    ∙ ap (λ o. filter_map (λ (r : ℕ × Row ℕ). on_combination r.0 (value_in c.args.values.now r.0) r.1.parts)
    (take place (enumerate_from 1 c.args.rows.now)) ++ cons_option o []) (sym none)
    ∙ sym (numbers_step c.args.rows.now c.args.values.now place row c.index-values-place.result is_row below c.index-values-place.is)

pub loop-place-preserved : goal.loop-place-preserved
loop-place-preserved c =
    let place : ℕ = c.loop-place.place in
    let row : Row ℕ = c.index-rows-place.result in
    let is_row : slice_get c.args.rows.now place ≡ Some row = standing c.args.rows.now place row c.loop-place-test.true c.index-rows-place.is in
    let below : place < length c.args.values.now = omega (arith, c.loop-place-test.true, c.requires.values) in
    let some : on_combination (place + 1) c.index-values-place.result row.parts ≡ Some c.in-Some.number = sym c.on_combination.ensures ∙ c.in-Some.is in
    let pushed : c.push.new.self.items ≡ c.loop-place.numbers.items ++ (c.in-Some.number ∷ []) = search rules in
    with_number (filter_map (λ (r : ℕ × Row ℕ). on_combination r.0 (value_in c.args.values.now r.0) r.1.parts)
    (take place (enumerate_from 1 c.args.rows.now))) c.push.new.self.items
    (on_combination (place + 1) c.index-values-place.result row.parts) c.in-Some.number some
    (pushed ∙ ap (λ numbers. numbers ++ c.in-Some.number ∷ []) c.loop-place.invariant)
    ∙ sym (numbers_step c.args.rows.now c.args.values.now place row c.index-values-place.result is_row below c.index-values-place.is)

pub returns : goal.returns
returns c =
    let past : length (enumerate_from 1 c.args.rows.now) ≤ c.loop-place.place = omega (arith, length-numbered c.args.rows.now 1, c.loop-place-test.false) in
    c.loop-place.invariant
    ∙ ap (filter_map (λ (r : ℕ × Row ℕ). on_combination r.0 (value_in c.args.values.now r.0) r.1.parts))
    (take_all c.loop-place.place (enumerate_from 1 c.args.rows.now) past)
