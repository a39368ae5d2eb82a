use Rattle.std.proofs.Common.{◌≤◌, ◌+◌, length, take}
use Rattle.lp_definitions.specs.LinearProgram.{value_at}
use Rattle.certificate_check.specs.Listed.{AreListed}
use Rattle.certificate_check.proofs.listed.list_columns.Given as goal

-- of the columns so far those with a value other than 0 are listed
abbrev pub invariant-loop-j : goal.invariant-loop-j
invariant-loop-j l = (l.count ≤ length l.listed) × AreListed (λ k. value_at l.values (l.lp.rows + k)) 0 (take l.count l.listed) l.j
