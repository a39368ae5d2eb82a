use Rattle.listing_claims.specs.Numbers.{number_in}
use Rattle.listing_readers.proofs.Slots.{AreTakenSoFar}
use Rattle.listing_readers.proofs.tables.take_slots.Given as goal

abbrev pub invariant-loop-slot : goal.invariant-loop-slot
invariant-loop-slot g l =
    AreTakenSoFar (number_in g.T.Checks.checker l.fn.by) l.fn.slots l.fn.cursor l.slot-index l.cursor l.numbers
