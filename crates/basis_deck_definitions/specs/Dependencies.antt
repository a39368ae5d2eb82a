-- Which columns of a set of variables depend on those before them; and what shows a refusal on the way to such a set.
--     IsCombination a b c d        d keeps the equations, and is 1 at the basic column c and 0 past it and at the nonbasics
--     IsDependency a b c d         and no basic column before c has such a vector
--     InstallRefused a b w e       an exchange at w is refused, on the way to b
use Rattle.std.specs.Prelude.{◌≡◌, ℕ, ◌<◌, [], ◌∷◌}
use Rattle.exact_values.specs.Rational.{ℚ, zero_ℚ, one_ℚ}
use Rattle.lp_definitions.specs.LinearProgram.{Matrix, Vector, KeepsEquations}
use Rattle.lp_definitions.specs.Basis.{Basics, IsBasic, IsNonbasic, AreRates, exchanged}
use Rattle.lp_definitions.specs.RatesEvidence.{ExchangeFormula}
use Rattle.lp_definitions.specs.Waypoints.{IsWaypoint}
use Rattle.lp_definitions.specs.declared.Evidence.{Evidence}

pub record IsCombination (a : Matrix) (b : Basics) (c : ℕ) (d : Vector) : Type 0 where
  pub is_column : a.rows < c
  pub basic : IsBasic a b c
  pub keeps : KeepsEquations a d
  pub own : d c ≡ one_ℚ
  pub later : (k : ℕ) → c < k → IsBasic a b k → d k ≡ zero_ℚ
  pub outside : (k : ℕ) → IsNonbasic a b k → d k ≡ zero_ℚ

pub record IsDependency (a : Matrix) (b : Basics) (c : ℕ) (d : Vector) : Type 0 where
  pub combination : IsCombination a b c d
  pub first : (j : ℕ) → j < c → (e : Vector) → IsCombination a b j e → ⊥

-- w and the set that the exchange leads to are nonsingular, and the columns of both are among those of b
pub record InstallRefused (a : Matrix) (b w : Basics) (e : Evidence) : Type 0 where
  pub rate : ℕ → ℕ → ℚ
  pub are_rates : AreRates a w rate
  pub formula : ExchangeFormula a w rate e
  pub is_way : IsWaypoint a (b ∷ []) w
  pub reaches : IsWaypoint a (b ∷ []) (exchanged w e.p e.q)
  pub no_theta : e.theta ≡ zero_ℚ
