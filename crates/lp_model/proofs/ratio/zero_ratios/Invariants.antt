use Rattle.std.proofs.Common.{◌≡◌, replicate}
use Rattle.exact_values.specs.Rational.{zero_ℚ}
use Rattle.lp_model.proofs.ratio.zero_ratios.Given as goal

abbrev pub invariant-loop-place : goal.invariant-loop-place
invariant-loop-place l = l.made.items ≡ replicate l._place zero_ℚ
