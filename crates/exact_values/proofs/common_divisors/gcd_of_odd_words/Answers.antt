use Rattle.std.specs.Int.{w64}
use Rattle.exact_values.proofs.Twos.{odds_step, odds_end}
use Rattle.exact_values.proofs.common_divisors.gcd_of_odd_words.Goals as goal

pub loop-x-preserved : goal.loop-x-preserved
loop-x-preserved c =
    rw (c.min-x.ensures, c.abs_diff-gap.ensures)
    (odds_step w64 c.loop-x.x c.loop-x.y _ c.loop-x.invariant c.loop-x-test.true)

pub returns : goal.returns
returns c = odds_end w64 c.loop-x.x c.loop-x.y _ c.loop-x.invariant c.loop-x-test.false
