use Rattle.std.proofs.Common.{◌≡◌, ◌≤◌, ◌+◌, ◌++◌, ℕ, List, Ok, length}
use Rattle.deck_definitions.specs.Written.{card_text}
use Rattle.job_devices.specs.Text.{Writes}
use Rattle.basis_deck.specs.Punching.{exchanges_from}
use Rattle.basis_deck.proofs.punching.put_exchanges.Given as goal

-- what is written, and what is left, are the whole
abbrev pub invariant-loop-c : goal.invariant-loop-c
invariant-loop-c g l =
    (written : List ℕ) × (Writes {T = Unit {0}} (g.U.Sink.taken l.fn.sink) (g.U.Sink.taken l.sink) (Ok tt) written)
    × (written ++ card_text (exchanges_from l.problem l.lp l.basis l.c l.row) ≡ card_text (exchanges_from l.problem l.lp l.basis 0 0))
    × (l.count + length (exchanges_from l.problem l.lp l.basis l.c l.row) ≡ length (exchanges_from l.problem l.lp l.basis 0 0))
    × (l.count ≤ l.c) × (l.row ≤ l.lp.rows)
