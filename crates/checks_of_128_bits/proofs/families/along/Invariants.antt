use Rattle.std.proofs.Common.{◌≡◌, map}
use Rattle.lp_definitions.specs.LinearProgram.{numbers_from, size}
use Rattle.simplex_definitions.specs.Chain.{along}
use Rattle.certificate_check.proofs.Each.{EachLeft}
use Rattle.checks_of_128_bits.proofs.Limits.{along_step}
use Rattle.checks_of_128_bits.proofs.families.along.Given as goal

-- the values so far are made
abbrev pub invariant-loop-i : goal.invariant-loop-i
invariant-loop-i l = record {
  made : l.made.items ≡ map (along l.theta l.value l.rate) (numbers_from 1 l.i);
  left : EachLeft (along_step l.theta l.value l.rate) (size l.sheet.lp.now.matrix) l.i;
}
