-- The three lists of a report.
--     own_ends_of s rises falls price k    the ends of what may be taken off the price of the nonbasic k itself
--     ListsTo numbers Claim items          the numbers of the items in order, and each interval has just the values that the claim has
--     RefusedAnywhere p s e                the evidence holds, whatever the waypoints are
--     interval_of, report_of               the items and the report as the definitions have them
use Rattle.std.specs.Prelude.{◌≡◌, ◌↔◌, ℕ, Bool, List, map, All, Option, Some, None, if◌then◌else◌}
use Rattle.exact_values.specs.Rational.{ℚ}
use Rattle.affine_laws.specs.declared.tightening.Endpoint.{Endpoint}
use Rattle.affine_laws.specs.declared.tightening.Ends.{Ends}
use Rattle.basis_values.specs.Calls.{RangeRefused}
use Rattle.lp_definitions.specs.LinearProgram.{LinearProgram}
use Rattle.lp_definitions.specs.Basis.{Basics}
use Rattle.lp_definitions.specs.declared.Evidence.{Evidence}
use Rattle.lp_definitions.specs.declared.Sense.{Sense}
use Rattle.lp_definitions.specs.declared.Sense.TheVariants.{Min, Max}
use Rattle.lp_definitions.specs.declared.Status.{Status}
use Rattle.lp_model.specs.declared.reports.Interval as code
use Rattle.lp_model.specs.declared.reports.RangeReport as report
use Rattle.simplex_definitions.specs.Ranges.{Interval, RangeReport}
use Rattle.ranging.specs.Intervals.{IsIn}

abbrev pub price_end : Bool → ℚ → ℕ → Option Endpoint
price_end there price k = if there then Some (record { value = price; by = k; which = 0 }) else None

abbrev pub own_ends_of : Sense → Bool → Bool → ℚ → ℕ → Ends
own_ends_of Min rises falls price k = record { low = price_end falls price k; high = price_end rises price k }
own_ends_of Max rises falls price k = record { low = price_end rises price k; high = price_end falls price k }

abbrev pub Item : Type 0
Item = ℕ × code.Interval

pub record ListsTo (numbers : List ℕ) (Claim : ℕ → ℚ → Type 0) (items : List Item) : Type 0 where
  pub whole : map (λ e. e.0) items ≡ numbers
  pub exact : All (λ e. (t : ℚ) → IsIn e.1 t ↔ Claim e.0 t) items

abbrev pub RefusedAnywhere : LinearProgram → List Status → Evidence → Type 0
RefusedAnywhere p s e = (before after : List Basics) → RangeRefused p before s after e

abbrev pub interval_of : Item → Interval
interval_of e = record { variable = e.0; low = e.1.low; high = e.1.high }

abbrev pub report_of : report.RangeReport → RangeReport
report_of r = record { limits = map interval_of r.limits; costs = map interval_of r.costs; rows = map interval_of r.rows }
