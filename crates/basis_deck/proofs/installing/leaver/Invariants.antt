use Rattle.std.proofs.Common.{ℕ, ◌≤◌, MatchOption}
use Rattle.lp_definitions.specs.Basis.{basics_of}
use Rattle.basis_deck.specs.Installing.{IsLeaver}
use Rattle.basis_deck.proofs.installing.leaver.Given as goal

-- none of the rows so far may leave, or one is found
abbrev pub invariant-loop-k : goal.invariant-loop-k
invariant-loop-k l =
    MatchOption l.found ((p : ℕ) → p ≤ l.k → IsLeaver l.lp.matrix (basics_of l.basis) l.direction p → ⊥) (IsLeaver l.lp.matrix (basics_of l.basis) l.direction)
