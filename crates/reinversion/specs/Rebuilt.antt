-- What a reinversion makes, and what it shows where it stops.
--     IsRebuilt a b c g            g has all basics of b among the rows and the first c columns, and of its columns none that b hasn't
--     IsRemade f g                 g is a file of the same basics, with one eta for each basic column
--     without_way stop             the same stop, with evidence that names no set
--     KeptRefused a b e            an exchange on the way from the rows to the basics b is refused
--     IsLeaver b g xs p            p may leave: it is basic in g and not in b, and xs isn't 0 there
use Rattle.std.specs.Prelude.{◌≡◌, ◌≢◌, ℕ, ◌+◌, ◌≤◌, true, false, List, [], ◌∷◌, length, All}
use Rattle.exact_values.specs.Rational.{ℚ, zero_ℚ}
use Rattle.lp_definitions.specs.LinearProgram.{Matrix, IsRow, IsVariable, value_at}
use Rattle.lp_definitions.specs.Basis.{Basics, is_in, IsNonsingular, AreRates, exchanged}
use Rattle.lp_definitions.specs.Waypoints.{HasColumnsWithin, IsWaypoint}
use Rattle.lp_definitions.specs.RatesEvidence.{ExchangeFormula}
use Rattle.lp_definitions.specs.declared.Evidence.{Evidence}
use Rattle.lp_model.specs.declared.Stop.{Stop}
use Rattle.lp_model.specs.declared.Stop.TheVariants.{Overflow, NoMemory}
use Rattle.eta_file.specs.Prefixes.{basic_columns}
use Rattle.eta_file.specs.Inverse.{Inverse, ways_of}

pub record IsRebuilt (a : Matrix) (b : Basics) (c : ℕ) (g : Inverse) : Type 0 where
  pub same_matrix : g.matrix ≡ a
  pub within : HasColumnsWithin a g.basics b
  pub all_in : (j : ℕ) → j ≤ a.rows + c → IsVariable a j → is_in b j ≡ true → is_in g.basics j ≡ true
  pub counted : length g.etas ≡ basic_columns a g.basics
  pub ways : All (λ w. HasColumnsWithin a w b) (ways_of g)

pub record IsRemade (f g : Inverse) : Type 0 where
  pub same_matrix : g.matrix ≡ f.matrix
  pub same_basics : g.basics ≡ f.basics
  pub counted : length g.etas ≡ basic_columns f.matrix f.basics
  pub ways : All (λ w. HasColumnsWithin f.matrix w f.basics) (ways_of g)

-- the exchange is one at a nonsingular set whose columns are all among b, and leads to another such set; the evidence names no set,
-- since the file that was to be is dropped
pub record KeptRefused (a : Matrix) (b : Basics) (e : Evidence) : Type 0 where
  pub way : Basics
  pub rate : ℕ → ℕ → ℚ
  pub within : HasColumnsWithin a way b
  pub nonsingular : IsNonsingular a way
  pub are_rates : AreRates a way rate
  pub reaches : IsWaypoint a (b ∷ []) (exchanged way e.p e.q)
  pub no_way : e.way ≡ 0
  pub no_theta : e.theta ≡ zero_ℚ
  pub formula : ExchangeFormula a way rate e

pub record IsLeaver (a : Matrix) (b g : Basics) (xs : List ℚ) (p : ℕ) : Type 0 where
  pub is_row : IsRow a p
  pub is_basic : is_in g p ≡ true
  pub is_out : is_in b p ≡ false
  pub apart : value_at xs p ≢ zero_ℚ

-- the same stop, with evidence that names no set
abbrev pub without_way : Stop → Stop
without_way (Overflow e) = Overflow (record e { way = 0 })
without_way NoMemory = NoMemory
