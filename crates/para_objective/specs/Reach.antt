-- How far a basis stays optimal while theta times the change row is added to the objective, price by price.
--     zero_at price rate           the theta at which the combined rate `price + theta rate` is 0
--     meets product price rate     the combined rate hasn't passed 0 at the theta whose product with the rate this is
--     IsLeast best other now       now is the lesser of the two
--     IsWithRate                   one variable: from a theta at which its conditions hold, they hold up to now, as far as best
--     IsReachOf                    the same for the first n variables
--     IsReachAbove                 no more than max, and no less than the reach: some of the first n variables may not count
--     IsReachFromAny               the greatest value up to which the basis stays optimal, from any at which it is
--     rate_formula j               formula 16 of the nonbasic j
--     RateRefused                  the price of a variable over its rate in the change row is refused
--     EndRefused p h s e           the same at the basis s, as the evidence of a run that changes row h
use Rattle.std.specs.Prelude.{◌≡◌, ◌≢◌, ◌↔◌, ℕ, ◌≤◌, Bool, not, List, if◌then◌else◌, [], ◌∷◌, IsTrue}
use Rattle.exact_values.specs.Rational.{ℚ, zero_ℚ, neg_ℚ, ◌/ℚ◌, ◌≤ℚ◌}
use Rattle.exact_values.specs.Tests.{lt_ℚ}
use Rattle.sensitivity_laws.specs.Changes.{SidesHold}
use Rattle.simplex_definitions.specs.Evidence.{ShowsRefusal}
use Rattle.simplex_definitions.specs.Statements.{Paraobj, belongs}
use Rattle.frac128.specs.declared.Op.TheVariants.{Div}
use Rattle.lp_definitions.specs.Basis.{basics_of, IsOptimalBasis}
use Rattle.lp_definitions.specs.LinearProgram.{LinearProgram, Vector}
use Rattle.lp_definitions.specs.declared.Evidence.{Evidence}
use Rattle.lp_definitions.specs.declared.Status.{Status}
use Rattle.simplex_definitions.specs.Chain.{ReachesTo}
use Rattle.simplex_definitions.specs.ObjectiveRun.{objective_family}
use Rattle.ranging.specs.RowEnds.{sides_of, RatesStayTo}
use Rattle.basis_values.specs.Formulas.{IsRefusal}
use Rattle.basis_values.specs.declared.formula.Formula.{Formula}

abbrev pub zero_at : ℚ → ℚ → ℚ
zero_at price rate = neg_ℚ (price /ℚ rate)

abbrev pub meets : ℚ → ℚ → ℚ → Bool
meets product price rate =
    if lt_ℚ rate zero_ℚ then not (lt_ℚ product (neg_ℚ price)) else not (lt_ℚ (neg_ℚ price) product)

abbrev pub IsLeast : ℚ → ℚ → ℚ → Type 0
IsLeast best other now = (x : ℚ) → (x ≤ℚ now) ↔ ((x ≤ℚ best) × (x ≤ℚ other))

abbrev pub IsWithRate : LinearProgram → List Status → ℚ → ℚ → ℕ → ℚ → ℚ → Type 0
IsWithRate p s price rate k best now =
    (from : ℚ) → SidesHold (sides_of p s price rate k) from → (x : ℚ) → from ≤ℚ x →
    (x ≤ℚ now) ↔ ((x ≤ℚ best) × SidesHold (sides_of p s price rate k) x)

abbrev pub IsReachOf : LinearProgram → List Status → Vector → Vector → ℕ → ℚ → ℚ → Type 0
IsReachOf p s prices change n max to =
    (from : ℚ) → RatesStayTo p s prices change n from → (x : ℚ) → from ≤ℚ x →
    (x ≤ℚ to) ↔ ((x ≤ℚ max) × RatesStayTo p s prices change n x)

abbrev pub IsReachAbove : LinearProgram → List Status → Vector → Vector → ℕ → ℚ → ℚ → Type 0
IsReachAbove p s prices change n max best =
    (from : ℚ) → RatesStayTo p s prices change n from → (x : ℚ) → from ≤ℚ x →
    ((x ≤ℚ best) → (x ≤ℚ max)) × ((x ≤ℚ max) × RatesStayTo p s prices change n x → x ≤ℚ best)

-- from any value up to max at which the basis is optimal, it stays so up to this one, and no further
abbrev pub IsReachFromAny : LinearProgram → ℕ → List Status → ℚ → ℚ → Type 0
IsReachFromAny p h s max to =
    (from : ℚ) → from ≤ℚ max → IsOptimalBasis (objective_family p h from) s →
    ReachesTo (objective_family p h) s from max to

abbrev pub rate_formula : ℕ → Formula
rate_formula j = record { number = 16; p = 0; q = 0; i = 0; j = j; term = 0; theta = zero_ℚ }

pub record RateRefused (prices change : Vector) (n : ℕ) (e : Evidence) : Type 0 where
  pub j : ℕ
  pub low : 1 ≤ j
  pub high : j ≤ n
  pub moves : change j ≢ zero_ℚ
  pub refused : IsRefusal (rate_formula j) Div (prices j) (change j) e

-- the quotient is refused at the basis s itself, as the evidence shows for a run of the objective from any value
pub record EndRefused (p : LinearProgram) (h : ℕ) (s : List Status) (e : Evidence) : Type 0 where
  pub number : e.formula ≡ 16
  pub no_way : e.way ≡ 0
  pub no_theta : e.theta ≡ zero_ℚ
  pub of_run : (from : ℚ) → IsTrue (belongs (Paraobj p h from) e)
  pub shows : (from : ℚ) → ShowsRefusal (Paraobj p h from) (λ to. ⊥) (basics_of s ∷ []) s (basics_of s) e
