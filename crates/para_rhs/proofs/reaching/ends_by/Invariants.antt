use Rattle.std.specs.Prelude.{IsSome}
use Rattle.lp_definitions.specs.LinearProgram.{value_at}
use Rattle.para_rhs.specs.Reach.{IsReachOf}
use Rattle.para_rhs.proofs.reaching.ends_by.Given as goal

abbrev pub invariant-loop-k : goal.invariant-loop-k
invariant-loop-k l = record { reach : IsReachOf l.lp l.shift (value_at l.value) (value_at l.slope) l.k l.fn.max l.ends; high : IsSome l.ends.high }
