use Rattle.std.proofs.Common.{◌≡◌, ◌-◌, length}
use Rattle.lp_definitions.specs.LinearProgram.{size}
use Rattle.whole_vectors.specs.Quotients.{Represent}
use Rattle.price_row.specs.Known.{IsKnown}
use Rattle.price_row.proofs.numbers.multipliers_in_numbers.Given as goal

-- the multipliers are those of the set before the etas that are done
abbrev pub invariant-loop-back : goal.invariant-loop-back
invariant-loop-back g l =
    (length (g.N.Numbers.fractions l.out) ≡ size l.file.matrix) × Represent (IsKnown l.file (length l.file.etas - l.back) l.row) l.denominator
    (g.N.Numbers.fractions l.out)
