use Rattle.std.proofs.Common.{◌+◌}
use Rattle.std.specs.Int.{w128}
use Rattle.exact_values.specs.Gcd.{gcd}
use Rattle.exact_values.proofs.Twos.{OddPair}
use Rattle.exact_values.proofs.common_divisors.gcd_of_odds.Given as goal

abbrev pub invariant-loop-x : goal.invariant-loop-x
invariant-loop-x l = OddPair w128 l.x l.y (gcd l.fn.a l.fn.b)

abbrev pub decreases-loop-x : goal.decreases-loop-x
decreases-loop-x l = l.x + l.y
