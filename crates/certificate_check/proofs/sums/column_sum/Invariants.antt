use Rattle.std.proofs.Common.{drop}
use Rattle.lp_definitions.specs.LinearProgram.{value_at}
use Rattle.check_definitions.specs.Checks.{entry_products}
use Rattle.certificate_check.proofs.Left.{IsLeft}
use Rattle.certificate_check.proofs.sums.column_sum.Given as goal

-- the numbers that are left are to be added to the sum so far
abbrev pub invariant-loop-entry : goal.invariant-loop-entry
invariant-loop-entry l =
    IsLeft l.fn.start (entry_products (value_at l.values) l.column) l.sum (entry_products (value_at l.values) (drop l.entry-index l.column))
