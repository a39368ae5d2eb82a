use Rattle.std.proofs.Common.{◌≡◌, ◌≤◌, ℕ, vec_len}
use Rattle.lp_model.specs.Wanted.{wanted_at}
use Rattle.basis_values.specs.Wants.{want_of}
use Rattle.basis_values.proofs.wants.wants_of.Given as goal

abbrev pub invariant-loop-k : goal.invariant-loop-k
invariant-loop-k l = record { places : vec_len l.wants ≡ l.k; each : (j : ℕ) → 1 ≤ j → j ≤ l.k → wanted_at l.wants.items j ≡ want_of l.lp l.basis j }
