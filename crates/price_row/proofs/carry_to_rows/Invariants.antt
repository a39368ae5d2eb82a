use Rattle.std.proofs.Common.{◌≡◌, ◌-◌, length}
use Rattle.lp_definitions.specs.LinearProgram.{size}
use Rattle.price_row.specs.Known.{IsKnown}
use Rattle.price_row.proofs.carry_to_rows.Given as goal

-- the multipliers are those of the set before the etas that are done
abbrev pub invariant-loop-back : goal.invariant-loop-back
invariant-loop-back l = (length l.out ≡ size l.file.matrix) × IsKnown l.file (length l.file.etas - l.back) l.row l.out
