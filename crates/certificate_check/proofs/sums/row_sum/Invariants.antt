use Rattle.std.proofs.Common.{◌+◌, drop}
use Rattle.exact_values.specs.Rational.{zero_ℚ}
use Rattle.frac128.specs.Operations.{TermsFit}
use Rattle.lp_definitions.specs.LinearProgram.{value_at}
use Rattle.check_definitions.specs.Checks.{row_products}
use Rattle.certificate_check.proofs.Left.{IsLeft, columns_left}
use Rattle.certificate_check.proofs.Skips.{IsListLeft}
use Rattle.certificate_check.proofs.sums.row_sum.Given as goal

-- the listed columns that are left are to be added to the sum so far
abbrev pub invariant-loop-column : goal.invariant-loop-column
invariant-loop-column l = IsListLeft l.lp (value_at l.values) l.row l.sum (drop l.column-index l.listed) l.last

-- the columns that are left are to be added to the sum so far
abbrev pub invariant-loop-place : goal.invariant-loop-place
invariant-loop-place l =
    TermsFit l.sum × IsLeft zero_ℚ (row_products l.lp (value_at l.values) l.row) l.sum (columns_left l.lp (value_at l.values) l.row (l.last + l.place))
