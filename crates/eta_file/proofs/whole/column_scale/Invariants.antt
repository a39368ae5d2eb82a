use Rattle.std.proofs.Common.{◌≢◌}
use Rattle.exact_values.specs.Rational.{zero_ℚ}
use Rattle.eta_file.proofs.whole.column_scale.Given as goal

-- the multiple isn't 0
abbrev pub invariant-loop-entry : goal.invariant-loop-entry
invariant-loop-entry l = l.scale ≢ zero_ℚ
