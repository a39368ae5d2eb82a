-- The limits that a row has by its type, its right-hand side and its range, and those that a column has by its bounds.
use Rattle.std.specs.Prelude.{ℕ, List, Option, Some, None, if◌then◌else◌, option_map, filter, fold, find, nat_eq}
use Rattle.exact_values.specs.Rational.{ℚ, zero_ℚ}
use Rattle.exact_values.specs.Tests.{lt_ℚ, magnitude}
use Rattle.frac128.specs.declared.Op.{Op}
use Rattle.frac128.specs.declared.Op.TheVariants.{Add, Sub}
use Rattle.frac128.specs.Operations.{result_of}
use Rattle.problem_definitions.specs.declared.RowKind.{RowKind}
use Rattle.problem_definitions.specs.declared.RowKind.TheVariants.{N, G, L, E}
use Rattle.problem_definitions.specs.declared.BoundKind.{BoundKind}
use Rattle.problem_definitions.specs.declared.BoundKind.TheVariants.{Up, Lo, Fx, Fr, Mi, Pl}
use Rattle.problem_definitions.specs.Problem.{Entry, Bound}

-- a lower and an upper limit, or none
pub record Limits : Type 0 where
  pub lower : Option ℚ
  pub upper : Option ℚ

abbrev pub no_limits : Limits
no_limits = record { lower = None; upper = None }

-- the value that a set has on a row, if it has one
abbrev pub value_on : List (Entry ℕ) → ℕ → Option ℚ
value_on items row = option_map (λ item. item.value.value) (find (λ item. nat_eq item.row row) items)

-- ---- rows

-- A range gives a second limit: below the right-hand side for L, above it for G, and for E below it where the range is
-- negative, else above it.
abbrev pub range_operation : RowKind → ℚ → Option Op
range_operation N range = None
range_operation G range = Some Add
range_operation L range = Some Sub
range_operation E range = Some (if lt_ℚ range zero_ℚ then Sub else Add)

-- the second limit is the right-hand side with the range's magnitude added or subtracted
abbrev pub with_range : Op → ℚ → ℚ → Limits
with_range Add rhs size = record { lower = Some rhs; upper = Some (result_of Add rhs size) }
with_range Sub rhs size = record { lower = Some (result_of Sub rhs size); upper = Some rhs }
with_range _ rhs size = no_limits

-- an N row has no limits, a G row a lower one, an L row an upper one and an E row both
abbrev pub without_range : RowKind → ℚ → Limits
without_range N rhs = no_limits
without_range G rhs = record { lower = Some rhs; upper = None }
without_range L rhs = record { lower = None; upper = Some rhs }
without_range E rhs = record { lower = Some rhs; upper = Some rhs }

abbrev pub row_limits : RowKind → ℚ → Option ℚ → Limits
row_limits kind rhs None = without_range kind rhs
row_limits kind rhs (Some range) = elim (range_operation kind range) [ None ↦ no_limits | Some op ↦ with_range op rhs (magnitude range) ]

-- ---- columns

-- UP sets the upper limit and LO the lower one; FX sets both; FR removes both, MI the lower and PL the upper one
abbrev pub bounded : BoundKind → Option ℚ → Limits → Limits
bounded Up value limits = record { lower = limits.lower; upper = value }
bounded Lo value limits = record { lower = value; upper = limits.upper }
bounded Fx value limits = record { lower = value; upper = value }
bounded Fr value limits = no_limits
bounded Mi value limits = record { lower = None; upper = limits.upper }
bounded Pl value limits = record { lower = limits.lower; upper = None }

-- a column lies in 0 and upward, unless bounds say otherwise
abbrev pub unbounded : Limits
unbounded = record { lower = Some zero_ℚ; upper = None }

-- the bounds of a column are applied in order
abbrev pub column_limits : List (Bound ℕ) → ℕ → Limits
column_limits bounds column =
    fold (λ limits bound. bounded bound.kind (option_map (λ value. value.value) bound.value) limits) unbounded
    (filter (λ bound. nat_eq bound.column column) bounds)
