-- The place is the index and the place in the rest.
use Rattle.std.proofs.Common.{◌≡◌, ◌+◌, drop, eqb}
use Rattle.std.specs.List.{position_or_len}
use Rattle.control_definitions.specs.Statements.{marked, marked_from, outside}
use Rattle.control_verbs.proofs.quotes.place_outside.Given as goal

abbrev pub invariant-loop-place : goal.invariant-loop-place
invariant-loop-place l =
    position_or_len (outside (λ byte. eqb byte l.wanted)) (marked l.text) ≡ l.place + position_or_len (outside (λ byte. eqb byte l.wanted))
    (marked_from l.inside (drop l.place l.text))
