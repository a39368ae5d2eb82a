-- What is told of a vector beside the linear programs of a run: it is so for whichever values and whichever theta the vector is of.
--     Passes test at k holds       whether the value of variable k passes a test
--     Tells steps at holds         whether all comparisons of these steps hold
--     PassesPriced test at k holds, TellsPriced steps at holds     the same of a point with prices
use Rattle.std.specs.Prelude.{◌≡◌, ◌↔◌, ℕ, Bool, IsTrue, List}
use Rattle.exact_values.specs.Rational.{ℚ}
use Rattle.lp_definitions.specs.LinearProgram.{LinearProgram, Vector, value_at}
use Rattle.check_definitions.specs.Steps.{Step, AllHold}
use Rattle.long_vectors.specs.Vectors.{IsOver}
use Rattle.long_programs.specs.declared.spread_at.SpreadAt.{SpreadAt}
use Rattle.long_programs.specs.Places.{IsSpread}
use Rattle.long_programs.specs.Orders.{program_at}
use Rattle.long_points.specs.declared.priced_at.PricedAt.{PricedAt}

abbrev pub Passes : (LinearProgram → Vector → ℕ → Bool) → SpreadAt → ℕ → Bool → Type 0
Passes test at k holds = (values : List ℚ) → (theta : ℚ) → IsSpread values theta at.spread.now → holds ≡ test (program_at at theta) (value_at values) k

abbrev pub Tells : (LinearProgram → Vector → List Step) → SpreadAt → Bool → Type 0
Tells steps at holds =
    (values : List ℚ) → (theta : ℚ) → IsSpread values theta at.spread.now → IsTrue holds ↔ AllHold (steps (program_at at theta) (value_at values))

abbrev pub PassesPriced : (LinearProgram → Vector → Vector → ℕ → Bool) → PricedAt → ℕ → Bool → Type 0
PassesPriced test at k holds =
    (values costs : List ℚ) → (theta : ℚ) → IsSpread values theta at.point.spread.now → IsOver costs at.prices.now →
    holds ≡ test (program_at at.point theta) (value_at values) (value_at costs) k

abbrev pub TellsPriced : (LinearProgram → Vector → Vector → List Step) → PricedAt → Bool → Type 0
TellsPriced steps at holds =
    (values costs : List ℚ) → (theta : ℚ) → IsSpread values theta at.point.spread.now → IsOver costs at.prices.now →
    IsTrue holds ↔ AllHold (steps (program_at at.point theta) (value_at values) (value_at costs))
