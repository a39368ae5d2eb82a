use Rattle.std.proofs.Common.{◌≡◌, ◌+◌}
use Rattle.lp_definitions.specs.Basis.{basics_of}
use Rattle.basis_deck.specs.Installing.{IsUnderWay}
use Rattle.basis_deck.proofs.installing.fill.Given as goal

-- the columns so far are through
abbrev pub invariant-loop-c : goal.invariant-loop-c
invariant-loop-c g l =
    ((g.E.Rates.state l.engine).matrix ≡ l.lp.matrix) × IsUnderWay l.lp.matrix (basics_of l.basis) (g.E.Rates.state l.engine).basics
    (g.E.Rates.state l.engine).waypoints (l.lp.rows + l.c + 1)
