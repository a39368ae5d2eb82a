-- Prices, variable by variable.
--     worth_by p y                 how the objective grows with each nonbasic, by the prices
--     AreChanged theta h o n y     y has theta times h added to o at the first n variables
--     SomeChangedRefused           the product at some j is refused, or the sum with it
use Rattle.std.specs.Prelude.{◌≡◌, ◌≢◌, ℕ, ◌≤◌}
use Rattle.exact_values.specs.Rational.{ℚ, zero_ℚ, ◌+ℚ◌, ◌*ℚ◌}
use Rattle.lp_definitions.specs.LinearProgram.{LinearProgram, Vector, for_min}
use Rattle.lp_definitions.specs.declared.Evidence.{Evidence}
use Rattle.basis_values.specs.Formulas.{IsTermRefusal}
use Rattle.basis_values.specs.declared.formula.Formula.{Formula}

-- how the objective, or its negative for MAX, grows with each nonbasic, by the prices
abbrev pub worth_by : LinearProgram → Vector → Vector
worth_by p y k = for_min p.sense (y k)

-- the formula of the price of j
abbrev pub price_formula : ℕ → ℚ → Formula
price_formula j theta = record { number = 17; p = 0; q = 0; i = 0; j = j; term = 0; theta = theta }

abbrev pub AreChanged : ℚ → Vector → Vector → ℕ → Vector → Type 0
AreChanged theta h o n y = (k : ℕ) → 1 ≤ k → k ≤ n → y k ≡ o k +ℚ theta *ℚ h k

-- the price of some variable is refused, whose change is not 0
pub record SomeChangedRefused (theta : ℚ) (h o : Vector) (n : ℕ) (e : Evidence) : Type 0 where
  pub j : ℕ
  pub low : 1 ≤ j
  pub high : j ≤ n
  pub changes : h j ≢ zero_ℚ
  pub refused : IsTermRefusal (price_formula j theta) (o j) theta (h j) e
