-- When a basis stays optimal while one number of its program changes by x.
--     HasRows p                    the objective row and the change row, if there is one, are rows
--     IsRightTableau p s t         the point is feasible, and no nonbasic may move so as to improve the objective
--     Sides, SidesHold c x         up to two conditions on x; that those that are there hold
--     rate_sides p s w v k         the rate w + x v of the nonbasic k keeps its sign
--     RatesStay p s w v x          the rates of all variables do
--     limit_sides p z v k          z + x v lies within the limits of k
--     own_sides p s z k            the limit at which the nonbasic k stands, moved by x, doesn't pass its other limit
--     LimitStays p s t k x         each basic stays within its limits where that limit moves by x, and it doesn't pass the other one
--     shift_sides p shift z v k    z + x v lies within the limits of k, which move by x times the shift of k
--     ValuesStay p shift z v x     the values of all variables do
use Rattle.std.specs.Prelude.{◌≡◌, ℕ, Bool, false, List, Option, Some, None, IfSome, option_map, if◌then◌else◌}
use Rattle.exact_values.specs.Rational.{ℚ, one_ℚ, neg_ℚ, ◌-ℚ◌}
use Rattle.affine_laws.specs.Conditions.{Condition, Holds}
use Rattle.lp_definitions.specs.LinearProgram.{Matrix, LinearProgram, Vector, IsRow, IsVariable, lower_of, upper_of, for_min}
use Rattle.lp_definitions.specs.Solutions.{IsFeasible}
use Rattle.lp_definitions.specs.Basis.{basics_of, status_of, IsBasic, Tableau}
use Rattle.lp_definitions.specs.declared.Change.{Change}
use Rattle.lp_definitions.specs.declared.Status.{Status}
use Rattle.lp_definitions.specs.declared.Status.TheVariants.{Bs, Ll, Ul, Fr}
use Rattle.simplex_definitions.specs.Moves.{is_fixed, may_rise, may_fall, lowers}
use Rattle.simplex_definitions.specs.Path.{worth_rate}
use Rattle.simplex_definitions.specs.RhsRun.{shift_of}

abbrev pub ChangeIsRow : Matrix → Option Change → Type 0
ChangeIsRow a None = Unit {0}
ChangeIsRow a (Some c) = IsRow a c.row

pub record HasRows (p : LinearProgram) : Type 0 where
  pub objective : IsRow p.matrix p.objective
  pub change : ChangeIsRow p.matrix p.change

pub record IsRightTableau (p : LinearProgram) (s : List Status) (t : Tableau) : Type 0 where
  pub feasible : IsFeasible p t.point
  pub right : (k : ℕ) → IsVariable p.matrix k → lowers p s (worth_rate p s t) k ≡ false

-- ---- conditions of a variable

pub record Sides : Type 0 where
  pub first : Option Condition
  pub second : Option Condition

abbrev pub SidesHold : Sides → ℚ → Type 0
SidesHold c x = IfSome c.first (λ e. Holds e x) × IfSome c.second (λ e. Holds e x)

abbrev pub condition : ℚ → ℚ → Condition
condition a b = record { constant = a; slope = b }

abbrev pub condition_if : Bool → ℚ → ℚ → Option Condition
condition_if there a b = if there then Some (condition a b) else None

-- a rate that may not be negative, or not positive, or neither
abbrev pub sign_sides : Bool → Bool → ℚ → ℚ → Sides
sign_sides rises falls w v = record { first = condition_if rises w v; second = condition_if falls (neg_ℚ w) (neg_ℚ v) }

abbrev pub rate_sides : LinearProgram → List Status → Vector → Vector → ℕ → Sides
rate_sides p s w v k = sign_sides (may_rise p s k) (may_fall p s k) (w k) (v k)

abbrev pub RatesStay : LinearProgram → List Status → Vector → Vector → ℚ → Type 0
RatesStay p s w v x = (k : ℕ) → IsVariable p.matrix k → SidesHold (rate_sides p s w v k) x

-- a value that may not be below the one limit, nor above the other
abbrev pub value_sides : Option ℚ → Option ℚ → ℚ → ℚ → Sides
value_sides low high z v = record {
  first = option_map (λ l. condition (z -ℚ l) v) low;
  second = option_map (λ u. condition (u -ℚ z) (neg_ℚ v)) high;
}

abbrev pub limit_sides : LinearProgram → Vector → Vector → ℕ → Sides
limit_sides p z v k = value_sides (lower_of p k) (upper_of p k) (z k) (v k)

-- the lower limit, moved, doesn't pass the upper one, nor the upper limit the lower one
abbrev pub sides_at : Status → Option ℚ → Option ℚ → ℚ → Sides
sides_at Bs low high z = record { first = None; second = None }
sides_at Ll low high z = value_sides None high z one_ℚ
sides_at Ul low high z = value_sides low None z one_ℚ
sides_at Fr low high z = record { first = None; second = None }

-- where both limits are one they move together
abbrev pub own_sides : LinearProgram → List Status → Vector → ℕ → Sides
own_sides p s z k =
    if is_fixed p k then record { first = None; second = None } else sides_at (status_of s k) (lower_of p k) (upper_of p k) (z k)

pub record LimitStays (p : LinearProgram) (s : List Status) (t : Tableau) (k : ℕ) (x : ℚ) : Type 0 where
  pub basics : (i : ℕ) → IsBasic p.matrix (basics_of s) i → SidesHold (limit_sides p t.point (λ j. t.rate j k) i) x
  pub own : SidesHold (own_sides p s t.point k) x

-- a value and its limits both move: the value comes to a limit so fast as the two differ
abbrev pub shift_sides : LinearProgram → List ℚ → Vector → Vector → ℕ → Sides
shift_sides p shift z v k = limit_sides p z (λ k. v k -ℚ shift_of p.matrix shift k) k

abbrev pub ValuesStay : LinearProgram → List ℚ → Vector → Vector → ℚ → Type 0
ValuesStay p shift z v x = (k : ℕ) → IsVariable p.matrix k → SidesHold (shift_sides p shift z v k) x

-- ---- rates of a row

-- the objective's rates, where the objective is to be small
abbrev pub worths : LinearProgram → Tableau → Vector
worths p t k = for_min p.sense (t.rate p.objective k)

-- and those of the basic i
abbrev pub slopes : LinearProgram → Tableau → ℕ → Vector
slopes p t i k = for_min p.sense (t.rate i k)
