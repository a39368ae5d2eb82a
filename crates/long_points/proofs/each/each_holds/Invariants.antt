use Rattle.std.proofs.Common.{ℕ, Bool}
use Rattle.long_points.specs.Tests.{UpTo, AnswersUpTo}
use Rattle.long_points.proofs.each.each_holds.Given as goal

-- the numbers so far pass
abbrev pub invariant-loop-i : goal.invariant-loop-i
invariant-loop-i g l = (passes : ℕ → Bool) → AnswersUpTo (goal.F-post g l.test) passes l.fn.count → UpTo passes l.i
