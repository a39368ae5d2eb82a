use Rattle.std.proofs.Common.{List}
use Rattle.exact_values.specs.Rational.{ℚ, whole}
use Rattle.lp_definitions.specs.LinearProgram.{value_at}
use Rattle.long_vectors.specs.Vectors.{IsOver}
use Rattle.long_points.proofs.Sums.{IsPart}
use Rattle.long_points.proofs.prices.column_sum.Given as goal

-- the products so far
abbrev pub invariant-loop-entry : goal.invariant-loop-entry
invariant-loop-entry l = (values : List ℚ) → IsOver values l.column → IsPart (value_at values) l.entries l.entry-index (whole l.column.bottom) l.sum
