use Rattle.std.specs.Int.{w128}
use Rattle.exact_values.proofs.Twos.{odds_step, odds_end}
use Rattle.exact_values.proofs.common_divisors.gcd_of_odds.Goals as goal

pub loop-x-preserved : goal.loop-x-preserved
loop-x-preserved c =
    rw (c.min-x.ensures, c.abs_diff-gap.ensures)
    (odds_step w128 c.loop-x.x c.loop-x.y _ c.loop-x.invariant c.loop-x-test.true)

pub returns : goal.returns
returns c = odds_end w128 c.loop-x.x c.loop-x.y _ c.loop-x.invariant c.loop-x-test.false
