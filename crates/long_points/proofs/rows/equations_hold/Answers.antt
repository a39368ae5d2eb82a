use Rattle.std.proofs.Common.{◌∙◌, List, ap}
use Rattle.exact_values.specs.Rational.{ℚ}
use Rattle.lp_definitions.specs.LinearProgram.{value_at}
use Rattle.long_points.proofs.rows.equations_hold.Goals as goal

pub returns : goal.returns
returns c =
    λ values over part. c.in_ok-holds.ensures values over part
    (λ i row. ap (λ (xs : List ℚ). value_at xs i) c.deref_mut.ensures.value ∙ c.in_ok-sums.ensures.values values over i row)
