use Rattle.std.proofs.Common.{◌+◌}
use Rattle.std.specs.Int.{w64}
use Rattle.exact_values.specs.Gcd.{gcd}
use Rattle.exact_values.proofs.Twos.{OddPair}
use Rattle.exact_values.proofs.common_divisors.gcd_of_odd_words.Given as goal

abbrev pub invariant-loop-x : goal.invariant-loop-x
invariant-loop-x l = OddPair w64 l.x l.y (gcd l.fn.a l.fn.b)

abbrev pub decreases-loop-x : goal.decreases-loop-x
decreases-loop-x l = l.x + l.y
