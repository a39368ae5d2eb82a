use Rattle.std.proofs.Common.{◌≡◌, length, take}
use Rattle.bounded_primal.proofs.workspace.copy_ratios.Given as goal

abbrev pub invariant-loop-place : goal.invariant-loop-place
invariant-loop-place l = record { places : length l.to ≡ length l.from; same : take l.place l.to ≡ take l.place l.from }
