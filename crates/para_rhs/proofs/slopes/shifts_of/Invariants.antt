use Rattle.std.proofs.Common.{◌≡◌, map}
use Rattle.std.specs.Prelude.{option_map}
use Rattle.lp_definitions.specs.LinearProgram.{numbers_from}
use Rattle.simplex_definitions.specs.RhsRun.{shift_of}
use Rattle.para_rhs.specs.Limits.{limit_on}
use Rattle.para_rhs.proofs.slopes.shifts_of.Given as goal

abbrev pub invariant-loop-k : goal.invariant-loop-k
invariant-loop-k l = l.shifts.items ≡ map (λ k. option_map (λ x. shift_of l.lp.matrix l.shift k) (limit_on l.lp l.fn.side k)) (numbers_from 1 l.k)
