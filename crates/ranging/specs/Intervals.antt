-- Intervals of costs, multiples of rows and limits, from ends.
--     IsIn interval t              t lies between the ends that are there
--     taken_from cost ends         the ends, taken from the cost
--     opposite ends                their opposites
--     IsOwn p s k t                where k is not fixed, t is not past the limit of k at which it doesn't stand
--     SumRefused, DifferenceRefused    the sum of a limit or the difference of a cost with an end is refused
use Rattle.std.specs.Prelude.{◌≡◌, ◌⊎◌, ℕ, List, Option, Some, IfSome, option_map, Bool, true, false}
use Rattle.exact_values.specs.Rational.{ℚ, neg_ℚ, ◌-ℚ◌, ◌≤ℚ◌}
use Rattle.affine_laws.specs.declared.tightening.Endpoint.{Endpoint}
use Rattle.affine_laws.specs.declared.tightening.Ends.{Ends}
use Rattle.frac128.specs.declared.Op.TheVariants.{Add, Sub}
use Rattle.lp_definitions.specs.LinearProgram.{LinearProgram, lower_of, upper_of}
use Rattle.lp_definitions.specs.Basis.{status_of}
use Rattle.lp_definitions.specs.declared.Evidence.{Evidence}
use Rattle.lp_definitions.specs.declared.Status.{Status}
use Rattle.lp_definitions.specs.declared.Status.TheVariants.{Bs, Ll, Ul, Fr}
use Rattle.lp_model.specs.declared.reports.Interval.{Interval}
use Rattle.simplex_definitions.specs.Moves.{is_fixed}
use Rattle.basis_values.specs.Formulas.{IsRefusal}
use Rattle.ranging.specs.Formulas.{end_formula}

abbrev pub IsAtLeast : Option ℚ → ℚ → Type 0
IsAtLeast low t = IfSome low (λ l. l ≤ℚ t)

abbrev pub IsAtMost : Option ℚ → ℚ → Type 0
IsAtMost high t = IfSome high (λ h. t ≤ℚ h)

abbrev pub IsIn : Interval → ℚ → Type 0
IsIn interval t = IsAtLeast interval.low t × IsAtMost interval.high t

abbrev pub less_end : ℚ → Option Endpoint → Option ℚ
less_end cost end = option_map (λ e. cost -ℚ e.value) end

abbrev pub taken_from : ℚ → Ends → Interval
taken_from cost ends = record { low = less_end cost ends.high; high = less_end cost ends.low }

abbrev pub opposite_end : Option Endpoint → Option ℚ
opposite_end end = option_map (λ e. neg_ℚ e.value) end

abbrev pub opposite : Ends → Interval
opposite ends = record { low = opposite_end ends.high; high = opposite_end ends.low }

-- at a lower limit up to the upper one, and at an upper limit down to the lower one
abbrev pub IsUpToOther : Status → Option ℚ → Option ℚ → ℚ → Type 0
IsUpToOther Bs low high t = Unit {0}
IsUpToOther Ll low high t = IsAtMost high t
IsUpToOther Ul low high t = IsAtLeast low t
IsUpToOther Fr low high t = Unit {0}

-- a fixed variable's limits move together
abbrev pub IsOwnAt : Bool → Status → Option ℚ → Option ℚ → ℚ → Type 0
IsOwnAt true st low high t = Unit {0}
IsOwnAt false st low high t = IsUpToOther st low high t

abbrev pub IsOwn : LinearProgram → List Status → ℕ → ℚ → Type 0
IsOwn p s k t = IsOwnAt (is_fixed p k) (status_of s k) (lower_of p k) (upper_of p k) t

abbrev pub IsOneOf : Ends → Endpoint → Type 0
IsOneOf ends e = (ends.low ≡ Some e) ⊎ (ends.high ≡ Some e)

pub record DifferenceRefused (cost : ℚ) (ends : Ends) (i : ℕ) (e : Evidence) : Type 0 where
  pub end : Endpoint
  pub is_end : IsOneOf ends end
  pub refused : IsRefusal (end_formula i end.by 0) Sub cost end.value e

pub record SumRefused (stands : ℚ) (ends : Ends) (k : ℕ) (e : Evidence) : Type 0 where
  pub end : Endpoint
  pub is_end : IsOneOf ends end
  pub refused : IsRefusal (end_formula end.by k end.which) Add stands end.value e
