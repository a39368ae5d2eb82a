-- How far a multiple of a row may be taken off the objective, rate by rate.
--     rate_bound s rising price rate j     the bound on y by which `price - y rate` keeps the sign that lets j not rise, or not fall
--     worth s f                            the values f as they count where less is better
--     rate_sides_at, RatesStayTo           the conditions of one variable, and of the first n
--     IsRateEnd prices row n e             the end is a price over a rate, of one of the first n variables
--     AreOfBound, AreEnds P ends           each end is an earlier one or that of a bound; P of each end
use Rattle.std.specs.Prelude.{◌≡◌, ◌≢◌, ◌↔◌, ◌⊎◌, ℕ, ◌≤◌, Bool, true, not, List, Option, Some, IfSome}
use Rattle.exact_values.specs.Rational.{ℚ, zero_ℚ, neg_ℚ, ◌/ℚ◌}
use Rattle.affine_laws.specs.Ends.{Meets, IsBetweenEnds, IsEither}
use Rattle.affine_laws.specs.declared.tightening.ProductBound.{ProductBound}
use Rattle.affine_laws.specs.declared.tightening.Endpoint.{Endpoint}
use Rattle.affine_laws.specs.declared.tightening.Ends.{Ends}
use Rattle.sensitivity_laws.specs.Changes.{Sides, SidesHold, sign_sides}
use Rattle.frac128.specs.declared.Op.TheVariants.{Div}
use Rattle.lp_definitions.specs.LinearProgram.{LinearProgram, Vector, for_min}
use Rattle.lp_definitions.specs.declared.Evidence.{Evidence}
use Rattle.lp_definitions.specs.declared.Sense.{Sense}
use Rattle.lp_definitions.specs.declared.Sense.TheVariants.{Min, Max}
use Rattle.lp_definitions.specs.declared.Status.{Status}
use Rattle.simplex_definitions.specs.Moves.{may_rise, may_fall}
use Rattle.basis_values.specs.Formulas.{IsRefusal}
use Rattle.ranging.specs.Formulas.{ratio_formula}

-- for MIN a price that may not be negative keeps its multiples of the rate below it, and for MAX above it
abbrev pub keeps_below : Sense → Bool → Bool
keeps_below Min rising = rising
keeps_below Max rising = not rising

abbrev pub rate_bound : Sense → Bool → ℚ → ℚ → ℕ → ProductBound
rate_bound s rising price rate j = record { at_most = keeps_below s rising; slope = rate; number = price; by = j; which = 0 }

abbrev pub worth : Sense → Vector → Vector
worth s f k = for_min s (f k)

-- the conditions of j, whose price and rate these are
abbrev pub sides_of : LinearProgram → List Status → ℚ → ℚ → ℕ → Sides
sides_of p s price rate j = sign_sides (may_rise p s j) (may_fall p s j) (for_min p.sense price) (for_min p.sense rate)

abbrev pub RatesStayTo : LinearProgram → List Status → Vector → Vector → ℕ → ℚ → Type 0
RatesStayTo p s prices row n x = (k : ℕ) → 1 ≤ k → k ≤ n → SidesHold (sides_of p s (prices k) (row k) k) x

-- the ends now keep what the earlier ones keep and the bound, if it is one
pub record IsTightenedIf (may : Bool) (ends : Ends) (b : ProductBound) (now : Ends) : Type 0 where
  pub exact : (y : ℚ) → IsBetweenEnds now y ↔ (IsBetweenEnds ends y × (may ≡ true → Meets b y))
  pub low : IsEither b ends.low now.low
  pub high : IsEither b ends.high now.high

abbrev pub AreEnds : (Endpoint → Type 0) → Ends → Type 0
AreEnds P ends = IfSome ends.low P × IfSome ends.high P

-- the price of one of the first n variables, over its rate
pub record IsRateEnd (prices row : Vector) (n : ℕ) (e : Endpoint) : Type 0 where
  pub low : 1 ≤ e.by
  pub high : e.by ≤ n
  pub moves : row e.by ≢ zero_ℚ
  pub is_quotient : e.value ≡ prices e.by /ℚ row e.by

-- the price of j over its rate in the row of i is refused
pub record RatioRefused (prices row : Vector) (n i : ℕ) (e : Evidence) : Type 0 where
  pub j : ℕ
  pub low : 1 ≤ j
  pub high : j ≤ n
  pub moves : row j ≢ zero_ℚ
  pub refused : IsRefusal (ratio_formula i j) Div (prices j) (row j) e

abbrev pub rate_end : ℚ → ℚ → ℕ → Endpoint
rate_end price rate j = record { value = price /ℚ rate; by = j; which = 0 }

abbrev pub IsEitherRate : ℚ → ℚ → ℕ → Option Endpoint → Option Endpoint → Type 0
IsEitherRate price rate j before now = (now ≡ before) ⊎ ((rate ≢ zero_ℚ) × (now ≡ Some (rate_end price rate j)))

-- the ends now keep what the earlier ones keep and the conditions of j
pub record IsWithRate (p : LinearProgram) (s : List Status) (price rate : ℚ) (j : ℕ) (ends now : Ends) : Type 0 where
  pub exact : (y : ℚ) → IsBetweenEnds now y ↔ (IsBetweenEnds ends y × SidesHold (sides_of p s price rate j) (neg_ℚ y))
  pub low : IsEitherRate price rate j ends.low now.low
  pub high : IsEitherRate price rate j ends.high now.high

-- the ends keep just those multiples by which the first n prices keep their signs
pub record AreRowEnds (p : LinearProgram) (s : List Status) (prices row : Vector) (n : ℕ) (ends : Ends) : Type 0 where
  pub exact : (y : ℚ) → IsBetweenEnds ends y ↔ RatesStayTo p s prices row n (neg_ℚ y)
  pub made : AreEnds (IsRateEnd prices row n) ends
