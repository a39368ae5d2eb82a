-- What the borrowed data of a verdict prints.
use Rattle.std.specs.Prelude.{◌≡◌, List, Option, Some, None, length}
use Rattle.exact_values.specs.Rational.{ℚ}
use Rattle.frac128.specs.declared.Refused.{Refused}
use Rattle.lp_definitions.specs.LinearProgram.{size, value_at}
use Rattle.lp_model.specs.declared.reports.Outcome.{Outcome}
use Rattle.lp_model.specs.declared.reports.Outcome.TheVariants.{Optimal, Crossed, Infeasible, Unbounded}
use Rattle.listing_definitions.specs.Report.{PathVerdict, OptimalAt, CrossedAt, InfeasibleBy, UnboundedBy, Check, Checked, Unchecked}
use Rattle.listing_tables.specs.declared.sheet.Sheet.{Sheet}
use Rattle.listing_tables.specs.Sheets.{IsSheet}
use Rattle.listing_tables.specs.Lines.{ray_lines, pair_lines}

-- a value for each variable of the sheet's program
abbrev pub IsFull : Sheet → List ℚ → Type 0
IsFull sheet values = length values ≡ size sheet.lp.now.matrix

-- the lists of an outcome have their lengths
abbrev pub AreFull : Sheet → Outcome → Type 0
AreFull sheet (Optimal steps point prices) = IsFull sheet point
AreFull sheet (Crossed k) = Unit {0}
AreFull sheet (Infeasible steps ray) = IsFull sheet ray
AreFull sheet (Unbounded steps point direction) = IsFull sheet point × IsFull sheet direction

pub record IsOutcome (sheet : Sheet) (outcome : Outcome) : Type 0 where
  pub is_sheet : IsSheet sheet
  pub full : AreFull sheet outcome

-- the objective is the activity of the objective row
abbrev pub verdict_view : Sheet → Outcome → PathVerdict
verdict_view sheet (Optimal steps point prices) = OptimalAt steps (value_at point sheet.lp.now.objective)
verdict_view sheet (Crossed k) = CrossedAt k
verdict_view sheet (Infeasible steps ray) = InfeasibleBy steps (ray_lines sheet.problem.now sheet.lp.now ray)
verdict_view sheet (Unbounded steps point direction) =
    UnboundedBy steps (value_at point sheet.lp.now.objective) (pair_lines sheet.problem.now sheet.lp.now point direction)

-- a check that was refused nothing is made
abbrev pub check_view : Option Refused → Check
check_view None = Checked
check_view (Some refused) = Unchecked refused
