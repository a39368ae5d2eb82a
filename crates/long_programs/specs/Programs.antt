-- A linear program of a family at a value of the parameter.
--     program_of p change theta    the linear program
--     IsChangeIn p change          the row is a row, or each row has a shift
--     IsChangeIn-prop              it is so in one way at most
--     IsPlain p change             no other row is added to the objective than the one that changes
--     own_theta p                  theta of the change row that a program has, or 0
--     shift_at p change k          what is added to the limits of variable k for each unit of theta
--     rate_at p change j           what is added to the cost of column j for each unit of theta
--     order_to limit x             how a number compares to a limit, if it is there
use Rattle.std.specs.Prelude.{◌≡◌, length, Option, Some, None, option_map, refl}
use Rattle.std.specs.Coded.{Coded-set, coded_ℕ, ×_prop}
use Rattle.std.proofs.Math.Bridge.{le_prop}
use Rattle.std.specs.declared.cmp.Ordering.{Ordering}
use Rattle.exact_values.specs.Rational.{ℚ, zero_ℚ, compare_ℚ}
use Rattle.lp_definitions.specs.LinearProgram.{LinearProgram, Vector, IsRow, entry}
use Rattle.lp_definitions.specs.declared.Change.{Change}
use Rattle.simplex_definitions.specs.ObjectiveRun.{objective_family}
use Rattle.simplex_definitions.specs.RhsRun.{shift_of, rhs_family}
use Rattle.long_programs.specs.declared.programs.ChangeAt.{ChangeAt}
use Rattle.long_programs.specs.declared.programs.ChangeAt.TheVariants.{Unchanged, Row, Set}

abbrev pub program_of : LinearProgram → ChangeAt → ℚ → LinearProgram
program_of p Unchanged theta = p
program_of p (Row h) theta = objective_family p h theta
program_of p (Set shift) theta = rhs_family p shift.now theta

abbrev pub IsChangeIn : LinearProgram → ChangeAt → Type 0
IsChangeIn p Unchanged = Unit {0}
IsChangeIn p (Row h) = IsRow p.matrix h
IsChangeIn p (Set shift) = length shift.now ≡ p.rows

-- this has at most one proof
pub IsChangeIn-prop : (p : LinearProgram) (change : ChangeAt) → IsProp (IsChangeIn p change)
IsChangeIn-prop p Unchanged = λ x y. refl
IsChangeIn-prop p (Row h) = ×_prop le_prop le_prop
IsChangeIn-prop p (Set shift) = Coded-set coded_ℕ (length shift.now) p.rows

abbrev pub IsPlain : LinearProgram → ChangeAt → Type 0
IsPlain p Unchanged = p.change ≡ None
IsPlain p (Row h) = Unit {0}
IsPlain p (Set shift) = p.change ≡ None

abbrev pub theta_of : Option Change → ℚ
theta_of None = zero_ℚ
theta_of (Some change) = change.theta

abbrev pub own_theta : LinearProgram → ℚ
own_theta p = theta_of p.change

abbrev pub shift_at : LinearProgram → ChangeAt → Vector
shift_at p Unchanged k = zero_ℚ
shift_at p (Row h) k = zero_ℚ
shift_at p (Set shift) k = shift_of p.matrix shift.now k

abbrev pub rate_at : LinearProgram → ChangeAt → Vector
rate_at p Unchanged j = zero_ℚ
rate_at p (Row h) j = entry p.matrix h j
rate_at p (Set shift) j = zero_ℚ

abbrev pub order_to : Option ℚ → ℚ → Option Ordering
order_to limit x = option_map (λ l. compare_ℚ x l) limit
