use Rattle.std.proofs.Common.{[], ◌∷◌, refl}
use Rattle.std.specs.List.{flat_map}
use Rattle.lp_definitions.specs.LinearProgram.{value_at}
use Rattle.check_definitions.specs.Steps.{verdict_of, in_turn}
use Rattle.check_definitions.specs.Checks.{equations, reduced_costs}
use Rattle.answer_definitions.specs.Lines.{row_numbers}
use Rattle.walk_definitions.specs.Checkers.{checker_of_128_bits}
use Rattle.walk_definitions.specs.Tests.{slack_steps, best_test}
use Rattle.listing_words.specs.Read.{sheet_view}
use Rattle.listing_claims.proofs.Passing.{exit_by, then_by, last_by}
use Rattle.checks_of_128_bits.proofs.solution_tests.check_values.Goals as goal

pub returns-in_err-judge : goal.returns-in_err-judge
returns-in_err-judge c =
    let sheet = sheet_view c.args.sheet in
    let z = value_at c.args.point.now in
    let y = value_at c.args.prices.now in
    let slacks = verdict_of (flat_map (slack_steps sheet z (value_at c.args.slacks.now)) (row_numbers sheet.lp)) in
    exit_by c.check_equations.result (verdict_of (equations sheet.lp 1 z))
    (in_turn (verdict_of
    (reduced_costs sheet.lp y) ∷ slacks ∷ best_test checker_of_128_bits sheet c.args.mark z y ∷ [])) c.from_residual.result c.in_err-judge.field-0.0
    c.check_equations.ensures.exact c.in_err-judge.ensures c.from_residual.ensures.1

pub returns-in_err-judge-2 : goal.returns-in_err-judge-2
returns-in_err-judge-2 c =
    let sheet = sheet_view c.args.sheet in
    let z = value_at c.args.point.now in
    let y = value_at c.args.prices.now in
    let slacks = verdict_of (flat_map (slack_steps sheet z (value_at c.args.slacks.now)) (row_numbers sheet.lp)) in
    let result = c.from_residual-in_err-judge-2.result in
    then_by c.check_equations.result (verdict_of (equations sheet.lp 1 z))
    (in_turn (verdict_of
    (reduced_costs sheet.lp y) ∷ slacks ∷ best_test checker_of_128_bits sheet c.args.mark z y ∷ [])) result c.check_equations.ensures.exact
    c.in_ok-judge.ensures
    (exit_by c.check_prices.result (verdict_of (reduced_costs sheet.lp y))
    (in_turn (slacks ∷ best_test checker_of_128_bits sheet c.args.mark z y ∷ [])) result c.in_err-judge-2.field-0.0
    c.check_prices.ensures.exact c.in_err-judge-2.ensures c.from_residual-in_err-judge-2.ensures.1)

pub returns-in_err-check_slacks : goal.returns-in_err-check_slacks
returns-in_err-check_slacks c =
    let sheet = sheet_view c.args.sheet in
    let z = value_at c.args.point.now in
    let y = value_at c.args.prices.now in
    let slacks = verdict_of (flat_map (slack_steps sheet z (value_at c.args.slacks.now)) (row_numbers sheet.lp)) in
    let result = c.from_residual-in_err-check_slacks.result in
    then_by c.check_equations.result (verdict_of (equations sheet.lp 1 z))
    (in_turn (verdict_of
    (reduced_costs sheet.lp y) ∷ slacks ∷ best_test checker_of_128_bits sheet c.args.mark z y ∷ [])) result c.check_equations.ensures.exact
    c.in_ok-judge.ensures
    (then_by c.check_prices.result (verdict_of (reduced_costs sheet.lp y))
    (in_turn (slacks ∷ best_test checker_of_128_bits sheet c.args.mark z y ∷ [])) result c.check_prices.ensures.exact c.in_ok-judge-2.ensures
    (exit_by slacks slacks
    (in_turn (best_test checker_of_128_bits sheet c.args.mark z y ∷ [])) result c.in_err-check_slacks.field-0.0 refl c.in_err-check_slacks.ensures
    c.from_residual-in_err-check_slacks.ensures.1))

pub returns : goal.returns
returns c =
    let sheet = sheet_view c.args.sheet in
    let z = value_at c.args.point.now in
    let y = value_at c.args.prices.now in
    let slacks = verdict_of (flat_map (slack_steps sheet z (value_at c.args.slacks.now)) (row_numbers sheet.lp)) in
    let result = c.judge-3.result in
    then_by c.check_equations.result (verdict_of (equations sheet.lp 1 z))
    (in_turn (verdict_of
    (reduced_costs sheet.lp y) ∷ slacks ∷ best_test checker_of_128_bits sheet c.args.mark z y ∷ [])) result c.check_equations.ensures.exact
    c.in_ok-judge.ensures
    (then_by c.check_prices.result (verdict_of (reduced_costs sheet.lp y))
    (in_turn (slacks ∷ best_test checker_of_128_bits sheet c.args.mark z y ∷ [])) result c.check_prices.ensures.exact c.in_ok-judge-2.ensures
    (then_by slacks slacks (in_turn (best_test checker_of_128_bits sheet c.args.mark z y ∷ [])) result refl c.in_ok-check_slacks.ensures
    (last_by c.check_best.result (best_test checker_of_128_bits sheet c.args.mark z y) result c.check_best.ensures c.judge-3.ensures)))
