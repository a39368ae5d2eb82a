-- How far a basis stays optimal while theta times its shift is added to the limits of each row, variable by variable.
--     side_ahead slope by          the limit to which a variable of this slope comes, where its limits have this shift
--     bound_of                     the bound on theta that this limit of k makes
--     high_of ends max             the upper end, or else max
--     closing_at p shift v k       how fast k moves, less how fast its limits do
--     limit_sides p shift z v k    the conditions that k is within its limits, which moves from z at 0 with the slope v
--     StaysTo p shift z v n x      these of the first n variables
--     IsNarrowed sides ends now    the ends now keep what the earlier ones keep, and the conditions, from where these hold
--     IsReachOf .. n max ends      the ends keep what is up to max and meets the conditions of the first n variables
--     IsReachFromAny               the greatest value up to which the basis stays optimal, from any at which it is
--     basic_formula number i term  formula 6 or 18 of the basic i
--     IsApproach p shift z v k a   a is the way of k to the limit that it comes to
--     IsApproachOf .. found        it is that way, if there is one
--     VariableRefused              an operation of k is refused
use Rattle.std.specs.Prelude.{◌≡◌, ◌≢◌, ◌↔◌, ◌⊎◌, ℕ, ◌≤◌, List, Option, Some, None, option_map, unwrap_or, if◌then◌else◌}
use Rattle.exact_values.specs.Rational.{ℚ, zero_ℚ, ◌-ℚ◌, ◌≤ℚ◌}
use Rattle.exact_values.specs.Tests.{lt_ℚ}
use Rattle.affine_laws.specs.Ends.{IsBetweenEnds}
use Rattle.affine_laws.specs.declared.tightening.ProductBound.{ProductBound}
use Rattle.affine_laws.specs.declared.tightening.Ends.{Ends}
use Rattle.sensitivity_laws.specs.Changes.{Sides, SidesHold, value_sides}
use Rattle.frac128.specs.declared.Op.TheVariants.{Sub, Div}
use Rattle.lp_definitions.specs.Basis.{IsOptimalBasis}
use Rattle.lp_definitions.specs.LinearProgram.{LinearProgram, Vector, IsVariable, lower_of, upper_of}
use Rattle.lp_definitions.specs.declared.Evidence.{Evidence}
use Rattle.lp_definitions.specs.declared.Status.{Status}
use Rattle.simplex_definitions.specs.Chain.{ReachesTo}
use Rattle.simplex_definitions.specs.RhsRun.{shift_of, rhs_family}
use Rattle.basis_values.specs.Formulas.{IsRefusal}
use Rattle.basis_values.specs.declared.formula.Formula.{Formula}
use Rattle.para_rhs.specs.Limits.{limit_on, number_of, is_upper}
use Rattle.para_rhs.specs.declared.limits.Side.{Side}
use Rattle.para_rhs.specs.declared.reaching.Approach.{Approach}
use Rattle.para_rhs.specs.declared.limits.Side.TheVariants.{Lower, Upper}

abbrev pub side_ahead : ℚ → ℚ → Option Side
side_ahead slope by = if lt_ℚ slope by then Some Lower else (if lt_ℚ by slope then Some Upper else None)

-- theta times the closing is at most the distance to an upper limit, and at least that to a lower one
abbrev pub bound_of : Side → ℚ → ℚ → ℕ → ProductBound
bound_of side closing distance k = record { at_most = is_upper side; slope = closing; number = distance; by = k; which = number_of side }

abbrev pub high_of : Ends → ℚ → ℚ
high_of ends max = unwrap_or (option_map (λ e. e.value) ends.high) max

abbrev pub closing_at : LinearProgram → List ℚ → Vector → ℕ → ℚ
closing_at p shift v k = v k -ℚ shift_of p.matrix shift k

abbrev pub limit_sides : LinearProgram → List ℚ → Vector → Vector → ℕ → Sides
limit_sides p shift z v k = value_sides (lower_of p k) (upper_of p k) (z k) (closing_at p shift v k)

abbrev pub StaysTo : LinearProgram → List ℚ → Vector → Vector → ℕ → ℚ → Type 0
StaysTo p shift z v n x = (k : ℕ) → 1 ≤ k → k ≤ n → SidesHold (limit_sides p shift z v k) x

abbrev pub IsNarrowed : Sides → Ends → Ends → Type 0
IsNarrowed sides ends now =
    (from : ℚ) → SidesHold sides from → (x : ℚ) → from ≤ℚ x → IsBetweenEnds now x ↔ (IsBetweenEnds ends x × SidesHold sides x)

abbrev pub IsReachOf : LinearProgram → List ℚ → Vector → Vector → ℕ → ℚ → Ends → Type 0
IsReachOf p shift z v n max ends =
    (from : ℚ) → from ≤ℚ max → StaysTo p shift z v n from → (x : ℚ) → from ≤ℚ x →
    IsBetweenEnds ends x ↔ ((x ≤ℚ max) × StaysTo p shift z v n x)

-- from any value up to max at which the basis is optimal, it stays so up to this one, and no further
abbrev pub IsReachFromAny : LinearProgram → List ℚ → List Status → ℚ → ℚ → Type 0
IsReachFromAny p shift s max to =
    (from : ℚ) → from ≤ℚ max → IsOptimalBasis (rhs_family p shift from) s → ReachesTo (rhs_family p shift) s from max to

abbrev pub basic_formula : ℕ → ℕ → ℕ → Formula
basic_formula number i term = record { number = number; p = 0; q = 0; i = i; j = 0; term = term; theta = zero_ℚ }

-- how fast k closes in on the limit, and how far it is from it at 0
pub record IsApproach (p : LinearProgram) (shift : List ℚ) (z v : Vector) (k : ℕ) (a : Approach) : Type 0 where
  pub limit : ℚ
  pub is_ahead : side_ahead (v k) (shift_of p.matrix shift k) ≡ Some a.side
  pub is_limit : limit_on p a.side k ≡ Some limit
  pub is_closing : a.closing ≡ closing_at p shift v k
  pub is_distance : a.distance ≡ limit -ℚ z k

-- there is none where k moves as its limits do, or where it has no limit on the side to which it comes
abbrev pub IsApproachOf : LinearProgram → List ℚ → Vector → Vector → ℕ → Option Approach → Type 0
IsApproachOf p shift z v k None =
    (side_ahead (v k) (shift_of p.matrix shift k) ≡ None) ⊎
    ((side : Side) × ((side_ahead (v k) (shift_of p.matrix shift k) ≡ Some side) × (limit_on p side k ≡ None)))
IsApproachOf p shift z v k (Some a) = IsApproach p shift z v k a

-- its slope less its shift, the distance to a limit, or that over the first
pub data VariableRefused (p : LinearProgram) (shift : List ℚ) (z v : Vector) (k : ℕ) (e : Evidence) : Type 0 where
  of_closing : IsRefusal (basic_formula 18 k 0) Sub (v k) (shift_of p.matrix shift k) e → VariableRefused p shift z v k e
  of_distance : (side : Side) (l : ℚ) → limit_on p side k ≡ Some l → IsRefusal (basic_formula 6 k (number_of side)) Sub l (z k) e →
      VariableRefused p shift z v k e
  of_quotient : (side : Side) (l : ℚ) → limit_on p side k ≡ Some l →
      IsRefusal (basic_formula 18 k (number_of side)) Div (l -ℚ z k) (closing_at p shift v k) e → VariableRefused p shift z v k e

-- of some variable that moves otherwise than its limits
pub record SomeVariableRefused (p : LinearProgram) (shift : List ℚ) (z v : Vector) (e : Evidence) : Type 0 where
  pub k : ℕ
  pub is_variable : IsVariable p.matrix k
  pub moves : v k ≢ shift_of p.matrix shift k
  pub refused : VariableRefused p shift z v k e
