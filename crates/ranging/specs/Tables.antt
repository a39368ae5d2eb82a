-- What is known of the ends at a basis.
--     IsBasicsEnd p s z rate k e       the end is a limit of a basic, less its value, over its rate at k
--     AreLimitEnds p s z n k ends      the ends of the limit of k keep the basics among the first n variables within their limits
--     AllMet p s z n ends              so do those of each nonbasic that stands at a limit
--     IsRowEnd p s rate i e            the end is the objective's rate of a nonbasic over that of i
--     AreEndsOfRow p s i ends          the ends keep the multiples of the row of i that may be taken off the objective
use Rattle.std.specs.Prelude.{◌≡◌, ◌≢◌, ◌↔◌, ℕ, ◌≤◌, true, List, Some}
use Rattle.exact_values.specs.Rational.{ℚ, zero_ℚ, neg_ℚ, ◌-ℚ◌, ◌/ℚ◌}
use Rattle.affine_laws.specs.Ends.{IsBetweenEnds}
use Rattle.affine_laws.specs.declared.tightening.Endpoint.{Endpoint}
use Rattle.affine_laws.specs.declared.tightening.Ends.{Ends}
use Rattle.sensitivity_laws.specs.Changes.{SidesHold, limit_sides, RatesStay}
use Rattle.simplex_definitions.specs.Formulas.{limit_numbered}
use Rattle.lp_definitions.specs.LinearProgram.{LinearProgram, Vector, IsVariable, for_min}
use Rattle.lp_definitions.specs.Basis.{basics_of, is_in, status_of, IsBasic, IsNonbasic, AreRates}
use Rattle.lp_definitions.specs.declared.Status.{Status}
use Rattle.simplex_definitions.specs.Ranges.{stands_at_limit}
use Rattle.ranging.specs.LimitEnds.{ends_at}
use Rattle.ranging.specs.RowEnds.{AreEnds}

pub record IsBasicsEnd (p : LinearProgram) (s : List Status) (z : Vector) (rate : ℕ → ℕ → ℚ) (k : ℕ) (e : Endpoint) : Type 0 where
  pub is_basic : IsBasic p.matrix (basics_of s) e.by
  pub limit : ℚ
  pub is_limit : limit_numbered p e.by e.which ≡ Some limit
  pub moves : rate e.by k ≢ zero_ℚ
  pub is_quotient : e.value ≡ (limit -ℚ z e.by) /ℚ rate e.by k

pub record AreLimitEnds (p : LinearProgram) (s : List Status) (z : Vector) (n k : ℕ) (ends : Ends) : Type 0 where
  pub exact : (rate : ℕ → ℕ → ℚ) → AreRates p.matrix (basics_of s) rate → (x : ℚ)
      → IsBetweenEnds ends x ↔ ((i : ℕ) → 1 ≤ i → i ≤ n → is_in (basics_of s) i ≡ true → SidesHold (limit_sides p z (λ j. rate j k) i) x)
  pub made : (rate : ℕ → ℕ → ℚ) → AreRates p.matrix (basics_of s) rate → AreEnds (IsBasicsEnd p s z rate k) ends

abbrev pub AllMet : LinearProgram → List Status → Vector → ℕ → List Ends → Type 0
AllMet p s z n ends = (k : ℕ) → IsVariable p.matrix k → stands_at_limit (status_of s k) ≡ true → AreLimitEnds p s z n k (ends_at ends k)

pub record IsRowEnd (p : LinearProgram) (s : List Status) (rate : ℕ → ℕ → ℚ) (i : ℕ) (e : Endpoint) : Type 0 where
  pub is_nonbasic : IsNonbasic p.matrix (basics_of s) e.by
  pub moves : rate i e.by ≢ zero_ℚ
  pub is_quotient : e.value ≡ rate p.objective e.by /ℚ rate i e.by

pub record AreEndsOfRow (p : LinearProgram) (s : List Status) (i : ℕ) (ends : Ends) : Type 0 where
  pub exact : (rate : ℕ → ℕ → ℚ) → AreRates p.matrix (basics_of s) rate → (y : ℚ)
      → IsBetweenEnds ends y ↔ RatesStay p s (λ k. for_min p.sense (rate p.objective k)) (λ k. for_min p.sense (rate i k)) (neg_ℚ y)
  pub made : (rate : ℕ → ℕ → ℚ) → AreRates p.matrix (basics_of s) rate → AreEnds (IsRowEnd p s rate i) ends

-- the ends of the rows of the basics other than the objective among the first n variables
abbrev pub AllFound : LinearProgram → List Status → ℕ → List Ends → Type 0
AllFound p s n found = (i : ℕ) → 1 ≤ i → i ≤ n → is_in (basics_of s) i ≡ true → i ≢ p.objective → AreEndsOfRow p s i (ends_at found i)
