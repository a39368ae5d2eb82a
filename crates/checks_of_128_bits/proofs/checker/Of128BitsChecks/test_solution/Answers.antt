use Rattle.std.proofs.Common.{◌≡◌, ◌∙◌}
use Rattle.lp_definitions.specs.LinearProgram.{value_at}
use Rattle.walk_definitions.specs.Checkers.{checker_of_128_bits}
use Rattle.listing_words.specs.Read.{sheet_view}
use Rattle.listing_claims.specs.Solutions.{printed_test}
use Rattle.listing_claims.proofs.Passing.{judges_same}
use Rattle.checks_of_128_bits.proofs.checker.Of128BitsChecks.test_solution.Goals as goal

pub returns : goal.returns
returns c =
    let sheet = sheet_view c.args.sheet in
    let mark = c.args.mark in
    let printed = c.args.printed.now in
    let z : c.deref-4.result.now ≡ printed.point.items = c.deref-4.ensures.value ∙ c.in_ok-point.ensures ∙ c.deref.ensures.value in
    let y : c.deref-5.result.now ≡ printed.prices.items = c.deref-5.ensures.value ∙ c.in_ok-prices.ensures ∙ c.deref-2.ensures.value in
    let slack : c.deref-6.result.now ≡ printed.slacks.items = c.deref-6.ensures.value ∙ c.in_ok-slacks.ensures ∙ c.deref-3.ensures.value in
    judges_same (printed_test checker_of_128_bits sheet mark (value_at c.deref-4.result.now) (value_at c.deref-5.result.now) (value_at c.deref-6.result.now))
    (printed_test checker_of_128_bits sheet mark (value_at printed.point.items) (value_at printed.prices.items)
    (value_at printed.slacks.items)) c.check_values.result
    (λ i. printed_test checker_of_128_bits sheet mark (value_at (z i)) (value_at (y i)) (value_at (slack i))) c.check_values.ensures
