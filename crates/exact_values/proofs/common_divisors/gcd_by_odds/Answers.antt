use Rattle.std.proofs.Common.{◌∙◌, rules, ap, ◌*◌, ◌%◌, ◌^◌}
use Rattle.std.specs.Int.{w128}
use mir.Val.{bits}
use Rattle.exact_values.proofs.Twos.{gcd-small_zero, gcd-near, gcd-near_zero, odd_part, shifted_back}
use Rattle.exact_values.proofs.common_divisors.gcd_by_odds.Goals as goal

pub returns-then-small-eq0 : goal.returns-then-small-eq0
returns-then-small-eq0 c = gcd-small_zero c.args.a c.args.b _ _ c.max-large.ensures c.min-small.ensures c.if-small-eq0.true

pub returns-then-near-eq0 : goal.returns-then-near-eq0
returns-then-near-eq0 c =
    gcd-near_zero c.args.a c.args.b c.brought_near-near.result c.min-small.result
    (gcd-near c.args.a c.args.b _ _ _ c.max-large.ensures c.min-small.ensures c.brought_near-near.ensures) c.if-near-eq0.true

pub gcd_of_odds-requires-clause-a_odd : goal.gcd_of_odds-requires-clause-a_odd
gcd_of_odds-requires-clause-a_odd c = (odd_part w128 c.brought_near-near.result (search rules) (search rules)).is_odd

pub gcd_of_odds-requires-clause-b_odd : goal.gcd_of_odds-requires-clause-b_odd
gcd_of_odds-requires-clause-b_odd c = (odd_part w128 c.min-small.result (search rules) (search rules)).is_odd

pub returns : goal.returns
returns c =
    ap (λ n. c.gcd_of_odds.result * 2 ^ n % 2 ^ bits w128) c.min.ensures
    ∙ shifted_back w128 c.brought_near-near.result c.min-small.result c.gcd_of_odds.result (search rules) (search rules) (search rules)
    (search rules) c.gcd_of_odds.ensures
    ∙ gcd-near c.args.a c.args.b _ _ _ c.max-large.ensures c.min-small.ensures c.brought_near-near.ensures
