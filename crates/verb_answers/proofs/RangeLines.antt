-- The lines that RANGE prints of a basis are those that are asked of it.
use Rattle.std.proofs.Common.{◌≡◌, ℕ, ◌+◌, ◌-◌, Bool, true, false, List, [], ◌∷◌, ◌++◌, map, Option, None, Some, refl}
use Rattle.std.specs.Prelude.{filter, find, nat_eq, if◌then◌else◌}
use Rattle.exact_values.specs.Rational.{ℚ}
use Rattle.lp_definitions.specs.LinearProgram.{LinearProgram, value_at, cost, numbers_from}
use Rattle.lp_definitions.specs.Basis.{status_of, IsPointOf, Tableau, IsOptimalBasis}
use Rattle.lp_definitions.specs.declared.Status.{Status}
use Rattle.lp_model.specs.declared.reports.Interval as code
use Rattle.lp_model.specs.declared.reports.RangeReport.{RangeReport}
use Rattle.simplex_definitions.specs.Ranges.{Interval, IsRangeReport}
use Rattle.problem_definitions.specs.Problem.{Problem}
use Rattle.listing_definitions.specs.Report.{Value, Code, Number, Dash, limit_value}
use Rattle.listing_tables.specs.Lines as printed
use Rattle.listing_tables.specs.Intervals.{interval_at, low_value, high_value, ends_at}
use Rattle.question_definitions.specs.Answers.{Sheet}
use Rattle.answer_definitions.specs.Sections.{IsRanged, placed, ends_of, cost_and_ends, range_lines}
use Rattle.ranging.specs.Lists.{interval_of, report_of}
use Rattle.verb_answers.proofs.SolutionLines.{by_status}

-- the ends of an interval that is found, or dashes
abbrev found : Option Interval → List Value
found o = elim o [
  | None ↦ Dash ∷ Dash ∷ []
  | Some interval ↦ limit_value interval.low ∷ limit_value interval.high ∷ []
]

ends_same : (items : List (ℕ × code.Interval)) (k : ℕ) → ends_at items k ≡ ends_of (map interval_of items) k
ends_same [] k = refl
ends_same (item ∷ items) k = by (nat_eq item.0 k) (ends_same items k)
  where
    by : (b : Bool) → ends_at items k ≡ found (find (λ interval. nat_eq interval.variable k) (map interval_of items)) →
        low_value (if b then Some item.1 else interval_at items k) ∷ high_value (if b then Some item.1 else interval_at items k) ∷ [] ≡ found
        (if b then Some (interval_of item) else find (λ interval. nat_eq interval.variable k) (map interval_of items))
    by true e = refl
    by false e = e

module _ (problem : Problem ℕ) (p : LinearProgram) (s : List Status) (point : List ℚ) (report : RangeReport) (optimal : IsOptimalBasis p s)
    (is_point : IsPointOf p s (value_at point)) (is_report : IsRangeReport p s (report_of report)) where
  abbrev sheet : Sheet
  sheet = record { problem = problem; lp = p }

  -- the rates are those by which the basis is optimal
  abbrev tableau : Tableau
  tableau = record { point = value_at point; rate = optimal.tableau.rate }

  limit_row_same : (k : ℕ) → printed.limit_row_values p s point report k ≡ placed sheet s tableau k ++ ends_of (report_of report).limits k
  limit_row_same k =
      let at = by_status p s (value_at point) k (status_of s k) refl in
      let limit = ends_same report.limits k in
      λ i. Code (at i) ∷ Number (value_at point k) ∷ limit i

  limit_column_same : (k : ℕ) →
      printed.limit_column_values p s point report k ≡ placed sheet s tableau k ++
      (ends_of (report_of report).limits k ++ cost_and_ends sheet s tableau (report_of report) k)
  limit_column_same k =
      let at = by_status p s (value_at point) k (status_of s k) refl in
      let limit = ends_same report.limits k in
      let costs = ends_same report.costs k in
      λ i. Code (at i) ∷ Number (value_at point k) ∷ (limit i ++ Number (cost p (k - p.rows)) ∷ costs i)

  between_row_same : (k : ℕ) → printed.between_row_values p s point report k ≡ placed sheet s tableau k ++ ends_of (report_of report).rows k
  between_row_same k =
      let at = by_status p s (value_at point) k (status_of s k) refl in
      let multiple = ends_same report.rows k in
      λ i. Code (at i) ∷ Number (value_at point k) ∷ multiple i

  between_column_same : (k : ℕ) →
      printed.between_column_values p s point report k ≡ placed sheet s tableau k ++ cost_and_ends sheet s tableau (report_of report) k
  between_column_same k =
      let at = by_status p s (value_at point) k (status_of s k) refl in
      let costs = ends_same report.costs k in
      λ i. Code (at i) ∷ Number (value_at point k) ∷ Number (cost p (k - p.rows)) ∷ costs i

  lines_same : printed.range_lines p s point report problem ≡ range_lines sheet s tableau (report_of report)
  lines_same = λ i. record {
    rows_at_limit = printed.lines_of problem (λ k. limit_row_same k i) (filter (printed.stands_at_limit s) (numbers_from 1 p.rows));
    columns_at_limit = printed.lines_of problem (λ k. limit_column_same k i) (filter (printed.stands_at_limit s) (numbers_from (p.rows + 1) p.cols));
    rows_between = printed.lines_of problem (λ k. between_row_same k i) (filter (printed.stands_between p s) (numbers_from 1 p.rows));
    columns_between = printed.lines_of problem (λ k. between_column_same k i) (filter (printed.stands_between p s) (numbers_from (p.rows + 1) p.cols));
  }

  pub ranged : IsRanged (record { problem = problem; lp = p }) s (printed.range_lines p s point report problem)
  ranged = record {
    tableau = tableau;
    is_tableau = record { is_point = is_point; are_rates = optimal.is_tableau.are_rates };
    report = report_of report;
    is_report = is_report;
    are_lines = lines_same;
  }
