-- The ends of intervals, as values of table lines.
--     interval_at items k          the interval of variable k, if it has one
--     low_value, high_value        its ends, or dashes
--     ends_at items k              both
use Rattle.std.specs.Prelude.{ℕ, List, [], ◌∷◌, Option, Some, None, nat_eq, if◌then◌else◌}
use Rattle.lp_model.specs.declared.reports.Interval.{Interval}
use Rattle.listing_definitions.specs.Report.{Value, Dash, limit_value}

-- the first one that has the variable's number
abbrev pub interval_at : List (ℕ × Interval) → ℕ → Option Interval
interval_at [] k = None
interval_at (item ∷ items) k = if nat_eq item.0 k then Some item.1 else interval_at items k

abbrev pub low_value : Option Interval → Value
low_value None = Dash
low_value (Some interval) = limit_value interval.low

abbrev pub high_value : Option Interval → Value
high_value None = Dash
high_value (Some interval) = limit_value interval.high

abbrev pub ends_at : List (ℕ × Interval) → ℕ → List Value
ends_at items k = low_value (interval_at items k) ∷ high_value (interval_at items k) ∷ []
