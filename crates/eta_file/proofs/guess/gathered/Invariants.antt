use Rattle.std.proofs.Common.{◌≡◌, ℕ, length}
use Rattle.exact_values.specs.Rational.{zero_ℚ}
use Rattle.lp_definitions.specs.LinearProgram.{value_at}
use Rattle.lp_definitions.specs.Basis.{IsNonbasic}
use Rattle.eta_file.proofs.guess.gathered.Given as goal

-- the numbers so far are those of basics
abbrev pub invariant-loop-k : goal.invariant-loop-k
invariant-loop-k l = record {
  places : length l.out ≡ length l.fn.out;
  others : (k : ℕ) → IsNonbasic l.file.matrix l.file.basics k → value_at l.out k ≡ zero_ℚ;
}
