use Rattle.std.proofs.Common.{◌≡◌, ◌++◌, filter, not}
use Rattle.exact_values.specs.Rational.{zero_ℚ}
use Rattle.exact_values.specs.Tests.{eq_ℚ}
use Rattle.lp_definitions.specs.LinearProgram.{value_at, numbers_from}
use Rattle.lp_model.proofs.sparse.keep_all_nonzero.Given as goal

abbrev pub invariant-loop-place : goal.invariant-loop-place
invariant-loop-place l = l.kept.items ≡ l.fn.kept.items ++ filter (λ k. not (eq_ℚ (value_at l.values k) zero_ℚ)) (numbers_from 1 l.place)
