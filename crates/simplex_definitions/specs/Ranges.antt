-- The intervals in which a basis stays optimal.
--     Interval, IsBetween e t      the values of a variable's limit, cost or multiplier from a low end to a high one; t is one of them
--     with_limit p s k t           the limit at which k stands is t, or both of its limits are t where they are equal
--     with_cost p k t              the entry of the column k on the objective row is t
--     with_row p i t               t times the activity of row i is added to the objective
--     at_limits, columns_of, intermediate_rows      the variables of the three lists
--     RangeReport, IsRangeReport p s r      the three lists; each interval has just the values at which the basis is optimal
use Rattle.std.specs.Prelude.{◌≡◌, ◌↔◌, ℕ, ◌+◌, ◌-◌, Bool, true, false, not, ◌&&◌, List, ◌∷◌, map, Option, Some, IfSome, All, filter, if◌then◌else◌, nat_eq}
use Rattle.std.specs.Prelude.{slice_set}
use Rattle.exact_values.specs.Rational.{ℚ, ◌≤ℚ◌}
use Rattle.lp_definitions.specs.LinearProgram.{LinearProgram, variables, numbers_from, column, with_change, with_limits}
use Rattle.lp_definitions.specs.Basis.{is_basic, status_of, IsOptimalBasis}
use Rattle.lp_definitions.specs.declared.Entry.{Entry}
use Rattle.lp_definitions.specs.declared.Status.{Status}
use Rattle.lp_definitions.specs.declared.Status.TheVariants.{Bs, Ll, Ul, Fr}
use Rattle.simplex_definitions.specs.Moves.{is_fixed}

-- an end that is not there is no bound
pub record Interval : Type 0 where
  pub variable : ℕ
  pub low : Option ℚ
  pub high : Option ℚ

abbrev pub IsBetween : Interval → ℚ → Type 0
IsBetween e t = IfSome e.low (λ l. l ≤ℚ t) × IfSome e.high (λ h. t ≤ℚ h)

abbrev pub with_lower : LinearProgram → ℕ → ℚ → LinearProgram
with_lower p k t = with_limits p (slice_set p.lower (k - 1) (Some t)) p.upper

abbrev pub with_upper : LinearProgram → ℕ → ℚ → LinearProgram
with_upper p k t = with_limits p p.lower (slice_set p.upper (k - 1) (Some t))

abbrev pub with_limit_at : Status → LinearProgram → ℕ → ℚ → LinearProgram
with_limit_at Bs p k t = p
with_limit_at Ll p k t = with_lower p k t
with_limit_at Ul p k t = with_upper p k t
with_limit_at Fr p k t = p

abbrev pub with_limit : LinearProgram → List Status → ℕ → ℚ → LinearProgram
with_limit p s k t = if is_fixed p k then with_upper (with_lower p k t) k t else with_limit_at (status_of s k) p k t

-- the column's one entry on row i is t
abbrev pub with_entry : ℕ → ℚ → List Entry → List Entry
with_entry i t entries = record { row = i; value = t } ∷ filter (λ e. not (nat_eq e.row i)) entries

abbrev pub with_cost : LinearProgram → ℕ → ℚ → LinearProgram
with_cost p k t =
    let j : ℕ = k - p.rows in
    record p { matrix = record p.matrix { columns = slice_set p.columns (j - 1) (with_entry p.objective t (column p.matrix j)) } }

-- the row need not be free here
abbrev pub with_row : LinearProgram → ℕ → ℚ → LinearProgram
with_row p i t = with_change p (record { row = i; theta = t })

abbrev pub stands_at_limit : Status → Bool
stands_at_limit Bs = false
stands_at_limit Ll = true
stands_at_limit Ul = true
stands_at_limit Fr = false

-- the nonbasic variables with a limit
abbrev pub at_limits : LinearProgram → List Status → List ℕ
at_limits p s = filter (λ k. stands_at_limit (status_of s k)) (variables p.matrix)

abbrev pub columns_of : LinearProgram → List ℕ
columns_of p = numbers_from (p.rows + 1) p.cols

-- the basic rows other than the objective
abbrev pub intermediate_rows : LinearProgram → List Status → List ℕ
intermediate_rows p s = filter (λ i. is_basic (status_of s i) && not (nat_eq i p.objective)) (numbers_from 1 p.rows)

-- the list has these variables in order, and the interval of each has just those t at which the claim holds
pub record AreIntervals (numbers : List ℕ) (Claim : ℕ → ℚ → Type 0) (list : List Interval) : Type 0 where
  pub whole : map (λ e. e.variable) list ≡ numbers
  pub exact : All (λ e. (t : ℚ) → IsBetween e t ↔ Claim e.variable t) list

-- the intervals of the limits, of the costs and of the rows' multipliers
pub record RangeReport : Type 0 where
  pub limits : List Interval
  pub costs : List Interval
  pub rows : List Interval

-- each interval is the set of all t at which the basis is optimal in the changed program; p has no change row
pub record IsRangeReport (p : LinearProgram) (s : List Status) (r : RangeReport) : Type 0 where
  pub limits : AreIntervals (at_limits p s) (λ k t. IsOptimalBasis (with_limit p s k t) s) r.limits
  pub costs : AreIntervals (columns_of p) (λ k t. IsOptimalBasis (with_cost p k t) s) r.costs
  pub rows : AreIntervals (intermediate_rows p s) (λ i t. IsOptimalBasis (with_row p i t) s) r.rows
