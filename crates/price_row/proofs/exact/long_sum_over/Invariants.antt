use Rattle.std.proofs.Common.{◌≡◌, take}
use Rattle.lp_definitions.specs.RatesEvidence.{sum_from}
use Rattle.price_row.specs.Sums.{weighted}
use Rattle.price_row.proofs.exact.long_sum_over.Given as goal

-- the sum so far
abbrev pub invariant-loop-entry : goal.invariant-loop-entry
invariant-loop-entry l = l.sum ≡ sum_from l.fn.first (weighted l.p l.values (take l.entry-index l.entries))
