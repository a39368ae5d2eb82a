use Rattle.std.proofs.Common.{◌≡◌, ◌≤◌}
use Rattle.basis_deck.specs.Punching.{rows_from}
use Rattle.basis_deck.proofs.punching.next_nonbasic_row.Given as goal

-- the rows so far are basic
abbrev pub invariant-loop-i : goal.invariant-loop-i
invariant-loop-i l = (l.row ≤ l.i) × (rows_from l.lp l.basis l.row ≡ rows_from l.lp l.basis l.i)
