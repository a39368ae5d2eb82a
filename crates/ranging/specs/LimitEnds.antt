-- How far the limit of a nonbasic may move, basic by basic.
--     distances_of p z i           the limits of i, less its value
--     IsBasicEnd p z v i e         the end is one of these over the rate of i
--     no_ends, ends_at xs k        no ends; those of variable k
--     IsMet p z v i ends now       the ends now keep what the earlier ones keep, and i within its limits, where its rate is v
--     IsLimitRefused, IsRateRefused    a distance of i is refused, or one over its rate
use Rattle.std.specs.Prelude.{◌≡◌, ◌≢◌, ◌↔◌, ◌⊎◌, ℕ, ◌-◌, ◌≤◌, ◌<◌, Bool, true, List, Option, Some, None, IfSome, option_map, slice_index_or, nat_eq}
use Rattle.std.specs.Prelude.{if◌then◌else◌}
use Rattle.exact_values.specs.Rational.{ℚ, zero_ℚ, ◌-ℚ◌, ◌*ℚ◌, ◌/ℚ◌, ◌≤ℚ◌}
use Rattle.affine_laws.specs.Ends.{MeetsBy, IsBetweenEnds}
use Rattle.affine_laws.specs.declared.tightening.Endpoint.{Endpoint}
use Rattle.affine_laws.specs.declared.tightening.Ends.{Ends}
use Rattle.sensitivity_laws.specs.Changes.{SidesHold, value_sides}
use Rattle.lp_definitions.specs.Basis.{status_of}
use Rattle.lp_definitions.specs.declared.Status.{Status}
use Rattle.simplex_definitions.specs.Ranges.{stands_at_limit}
use Rattle.simplex_definitions.specs.Formulas.{limit_numbered}
use Rattle.frac128.specs.declared.Op.TheVariants.{Sub, Div}
use Rattle.lp_definitions.specs.LinearProgram.{LinearProgram, Vector, IsVariable, lower_of, upper_of}
use Rattle.lp_definitions.specs.declared.Evidence.{Evidence}
use Rattle.basis_values.specs.Formulas.{IsRefusal}
use Rattle.basis_values.specs.Reach.{reach_formula}
use Rattle.ranging.specs.declared.limit_ends.Distances.{Distances}

abbrev pub less_value : ℚ → Option ℚ → Option ℚ
less_value value limit = option_map (λ l. l -ℚ value) limit

abbrev pub distances_of : LinearProgram → ℚ → ℕ → Distances
distances_of p value i = record { low = less_value value (lower_of p i); high = less_value value (upper_of p i) }

-- the distance to the limit of this number: 1 is the lower one, 2 the upper one
abbrev pub distance_numbered : Distances → ℕ → Option ℚ
distance_numbered far which = if nat_eq which 1 then far.low else (if nat_eq which 2 then far.high else None)

-- a distance of i over its rate
pub record IsBasicEnd (far : Distances) (rate : ℚ) (i : ℕ) (e : Endpoint) : Type 0 where
  pub distance : ℚ
  pub is_distance : distance_numbered far e.which ≡ Some distance
  pub is_i : e.by ≡ i
  pub moves : rate ≢ zero_ℚ
  pub is_quotient : e.value ≡ distance /ℚ rate

-- the end is as it was, or one of which P holds
abbrev pub IsKeptOr : (Endpoint → Type 0) → Option Endpoint → Option Endpoint → Type 0
IsKeptOr P before now = (now ≡ before) ⊎ ((e : Endpoint) × (now ≡ Some e) × P e)

-- so is each end
pub record KeepOr (P : Endpoint → Type 0) (ends now : Ends) : Type 0 where
  pub low : IsKeptOr P ends.low now.low
  pub high : IsKeptOr P ends.high now.high

-- the one distance over the rate
pub record IsQuotientOf (far : Option ℚ) (rate : ℚ) (i which : ℕ) (e : Endpoint) : Type 0 where
  pub distance : ℚ
  pub is_distance : far ≡ Some distance
  pub is_end : e ≡ record { value = distance /ℚ rate; by = i; which = which }

-- the ends with the bound of one limit, if it is there
pub record IsWithDistance (at_most : Bool) (far : Option ℚ) (rate : ℚ) (i which : ℕ) (ends now : Ends) : Type 0 where
  pub exact : (x : ℚ) → IsBetweenEnds now x ↔ (IsBetweenEnds ends x × IfSome far (λ d. MeetsBy at_most (x *ℚ rate) d))
  pub made : KeepOr (IsQuotientOf far rate i which) ends now

abbrev pub IsFarEnough : Distances → ℚ → Type 0
IsFarEnough far product = IfSome far.low (λ d. d ≤ℚ product) × IfSome far.high (λ d. product ≤ℚ d)

-- the ends with the bounds of both limits of i
pub record IsWithDistances (far : Distances) (rate : ℚ) (i : ℕ) (ends now : Ends) : Type 0 where
  pub exact : (x : ℚ) → IsBetweenEnds now x ↔ (IsBetweenEnds ends x × IsFarEnough far (x *ℚ rate))
  pub made : KeepOr (IsBasicEnd far rate i) ends now

-- the same for a nonbasic that stands at a limit; without a rate the ends are as they were
pub record IsWithBasic (stands : Bool) (far : Distances) (rate : ℚ) (i : ℕ) (ends now : Ends) : Type 0 where
  pub exact : stands ≡ true → rate ≢ zero_ℚ → (x : ℚ) → IsBetweenEnds now x ↔ (IsBetweenEnds ends x × IsFarEnough far (x *ℚ rate))
  pub still : rate ≡ zero_ℚ → now ≡ ends
  pub made : KeepOr (IsBasicEnd far rate i) ends now

pub record IsDistanceRefused (far : Option ℚ) (rate : ℚ) (i k which : ℕ) (e : Evidence) : Type 0 where
  pub distance : ℚ
  pub is_distance : far ≡ Some distance
  pub refused : IsRefusal (reach_formula 7 k i which) Div distance rate e

pub record IsBasicRefused (far : Distances) (rate : ℚ) (i k : ℕ) (e : Evidence) : Type 0 where
  pub which : ℕ
  pub small : which < 3
  pub distance : ℚ
  pub is_distance : distance_numbered far which ≡ Some distance
  pub moves : rate ≢ zero_ℚ
  pub refused : IsRefusal (reach_formula 7 k i which) Div distance rate e

-- ---- in a program

abbrev pub no_ends : Ends
no_ends = record { low = None; high = None }

abbrev pub ends_at : List Ends → ℕ → Ends
ends_at xs k = slice_index_or xs (k - 1) no_ends

-- a limit of i, less its value z, over its rate v
pub record IsLimitEnd (p : LinearProgram) (z v : ℚ) (i : ℕ) (e : Endpoint) : Type 0 where
  pub limit : ℚ
  pub is_limit : limit_numbered p i e.which ≡ Some limit
  pub is_i : e.by ≡ i
  pub moves : v ≢ zero_ℚ
  pub is_quotient : e.value ≡ (limit -ℚ z) /ℚ v

pub record IsMet (p : LinearProgram) (z v : ℚ) (i : ℕ) (ends now : Ends) : Type 0 where
  pub exact : (x : ℚ) → IsBetweenEnds now x ↔ (IsBetweenEnds ends x × SidesHold (value_sides (lower_of p i) (upper_of p i) z v) x)
  pub made : KeepOr (IsLimitEnd p z v i) ends now

-- a limit of i and its value
pub record IsLimitRefused (p : LinearProgram) (z : ℚ) (i : ℕ) (e : Evidence) : Type 0 where
  pub which : ℕ
  pub small : which < 3
  pub limit : ℚ
  pub is_limit : limit_numbered p i which ≡ Some limit
  pub refused : IsRefusal (reach_formula 6 0 i which) Sub limit z e

-- or their distance and its rate at k
pub record IsRateRefused (p : LinearProgram) (z : ℚ) (row : Vector) (i : ℕ) (e : Evidence) : Type 0 where
  pub k : ℕ
  pub is_variable : IsVariable p.matrix k
  pub which : ℕ
  pub small : which < 3
  pub limit : ℚ
  pub is_limit : limit_numbered p i which ≡ Some limit
  pub moves : row k ≢ zero_ℚ
  pub refused : IsRefusal (reach_formula 7 k i which) Div (limit -ℚ z) (row k) e

-- so are the ends of each of the first n variables that stands at a limit, where z is the value of i and row its rates
abbrev pub AreMet : LinearProgram → List Status → ℚ → Vector → ℕ → ℕ → List Ends → List Ends → Type 0
AreMet p s z row i n before now = (k : ℕ) → 1 ≤ k → k ≤ n → stands_at_limit (status_of s k) ≡ true → IsMet p z (row k) i (ends_at before k) (ends_at now k)
