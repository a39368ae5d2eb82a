-- Limits at a value theta of the parameter, variable by variable.
--     limit_on p side k            the lower or the upper limit of k
--     number_of side               the number of that limit: 1 is the lower one, 2 the upper one
--     is_upper side                it is the upper one
--     moved_by theta by limit      the limit with theta times its shift
--     shift_formula i term theta   formula 13 of the row i
--     MoveRefused                  the product of theta and the shift is refused, or the limit's sum with it
--     LimitRefused                 the same of a limit, if it is there
--     SomeLimitRefused             that of some row
use Rattle.std.specs.Prelude.{◌≡◌, ◌≢◌, ℕ, Bool, true, false, List, Option, Some, option_map}
use Rattle.exact_values.specs.Rational.{ℚ, zero_ℚ, ◌+ℚ◌, ◌*ℚ◌}
use Rattle.frac128.specs.declared.Op.TheVariants.{Add, Mul}
use Rattle.lp_definitions.specs.LinearProgram.{LinearProgram, IsVariable, lower_of, upper_of}
use Rattle.lp_definitions.specs.declared.Evidence.{Evidence}
use Rattle.simplex_definitions.specs.RhsRun.{shift_of}
use Rattle.basis_values.specs.Formulas.{IsRefusal}
use Rattle.basis_values.specs.declared.formula.Formula.{Formula}
use Rattle.para_rhs.specs.declared.limits.Side.{Side}
use Rattle.para_rhs.specs.declared.limits.Side.TheVariants.{Lower, Upper}

abbrev pub limit_on : LinearProgram → Side → ℕ → Option ℚ
limit_on p Lower k = lower_of p k
limit_on p Upper k = upper_of p k

abbrev pub number_of : Side → ℕ
number_of Lower = 1
number_of Upper = 2

abbrev pub is_upper : Side → Bool
is_upper Lower = false
is_upper Upper = true

abbrev pub moved_by : ℚ → ℚ → Option ℚ → Option ℚ
moved_by theta by limit = option_map (λ l. l +ℚ theta *ℚ by) limit

abbrev pub shift_formula : ℕ → ℕ → ℚ → Formula
shift_formula i term theta = record { number = 13; p = 0; q = 0; i = i; j = 0; term = term; theta = theta }

pub data MoveRefused (theta by limit : ℚ) (i which : ℕ) (e : Evidence) : Type 0 where
  of_product : IsRefusal (shift_formula i 0 theta) Mul theta by e → MoveRefused theta by limit i which e
  of_sum : IsRefusal (shift_formula i which theta) Add limit (theta *ℚ by) e → MoveRefused theta by limit i which e

-- the limit is there and has a shift, and to move it is refused
pub record LimitRefused (theta by : ℚ) (limit : Option ℚ) (i which : ℕ) (e : Evidence) : Type 0 where
  pub number : ℚ
  pub is_limit : limit ≡ Some number
  pub moves : by ≢ zero_ℚ
  pub refused : MoveRefused theta by number i which e

pub record SomeLimitRefused (p : LinearProgram) (shift : List ℚ) (theta : ℚ) (side : Side) (e : Evidence) : Type 0 where
  pub i : ℕ
  pub is_variable : IsVariable p.matrix i
  pub refused : LimitRefused theta (shift_of p.matrix shift i) (limit_on p side i) i (number_of side) e
