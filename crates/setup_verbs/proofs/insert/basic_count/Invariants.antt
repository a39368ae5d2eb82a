use Rattle.std.proofs.Common.{◌≡◌, ◌≤◌, length}
use Rattle.setup_verbs.proofs.Counting.{basics_so_far}
use Rattle.setup_verbs.proofs.insert.basic_count.Given as goal

-- the basic columns so far are counted
abbrev pub invariant-loop-c : goal.invariant-loop-c
invariant-loop-c l = (l.count ≡ length (basics_so_far l.lp l.basis l.c)) × (l.count ≤ l.c)
