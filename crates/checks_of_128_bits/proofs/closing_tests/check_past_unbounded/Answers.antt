use Rattle.std.proofs.Common.{◌≡◌, [], ◌∷◌, refl, ap}
use Rattle.exact_values.specs.Tests.{eq_ℚ, lt_ℚ}
use Rattle.lp_definitions.specs.LinearProgram.{value_at}
use Rattle.check_definitions.specs.Steps.{in_turn}
use Rattle.walk_definitions.specs.Checkers.{checker_of_128_bits}
use Rattle.walk_definitions.specs.Tests.{asked, unbounded_past}
use Rattle.listing_words.specs.Read.{sheet_view}
use Rattle.listing_claims.proofs.Passing.{then_by, last_by, judges_same}
use Rattle.checks_of_128_bits.proofs.closing_tests.check_past_unbounded.Goals as goal

pub returns : goal.returns
returns c changing =
    let sheet = sheet_view c.args.run.now.sheet in
    let value = c.args.value in
    let pair = c.args.pair.now in
    let result = c.check_unbounded_past.result in
    let proof = unbounded_past checker_of_128_bits sheet changing c.args.row value (value_at pair.point.items) (value_at pair.direction.items) in
    let same : unbounded_past checker_of_128_bits sheet changing c.args.row value (value_at c.deref.result.now) (value_at c.deref-2.result.now) ≡ proof =
    λ i. unbounded_past checker_of_128_bits sheet changing c.args.row value (value_at (c.deref.ensures.value i)) (value_at (c.deref-2.ensures.value i)) in
    then_by (asked c.is_equal.result) (asked (eq_ℚ value c.args.last)) (in_turn (asked (lt_ℚ value c.args.run.now.request.now.to) ∷ proof ∷ [])) result
    (ap asked c.is_equal.ensures) c.in_ok-ask.ensures
    (then_by (asked c.is_less.result) (asked (lt_ℚ value c.args.run.now.request.now.to)) (in_turn (proof ∷ [])) result (ap asked c.is_less.ensures) c.in_ok-ask-2.ensures
    (last_by proof proof result refl
    (judges_same
    (unbounded_past checker_of_128_bits sheet changing c.args.row value (value_at c.deref.result.now) (value_at c.deref-2.result.now)) proof result same
    (c.check_unbounded_past.ensures changing))))
