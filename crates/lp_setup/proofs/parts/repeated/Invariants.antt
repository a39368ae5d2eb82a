use Rattle.std.proofs.Common.{◌≡◌, replicate}
use Rattle.lp_setup.proofs.parts.repeated.Given as goal

-- so many are there
abbrev pub invariant-loop-i : goal.invariant-loop-i
invariant-loop-i g l = l.values.items ≡ replicate l._i l.value
