use Rattle.std.proofs.Common.{◌≡◌, drop}
use Rattle.listing_tables.specs.Intervals.{interval_at}
use Rattle.listing_tables.proofs.intervals.interval_of.Given as goal

abbrev pub invariant-loop-item : goal.invariant-loop-item
invariant-loop-item l = interval_at l.intervals l.k ≡ interval_at (drop l.item-index l.intervals) l.k
