-- The total is the fold of the digits so far, and what is left can only bring it to the bound.
use Rattle.std.proofs.Common.{◌≡◌, ◌+◌, ◌-◌, ◌*◌, ◌^◌, ◌≤◌, length, take, fold}
use Rattle.card_definitions.specs.Numbers.{next_value}
use Rattle.deck_fields.proofs.reading.continued.Given as goal

abbrev pub invariant-loop-digit : goal.invariant-loop-digit
invariant-loop-digit l =
    (l.total ≡ fold next_value l.value (take l.digit-index l.digits)) ×
    ((l.total + 1) * 10 ^ (length l.digits - l.digit-index) ≤ (l.value + 1) * 10 ^ length l.digits)
