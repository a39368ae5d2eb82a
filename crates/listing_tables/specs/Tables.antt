-- The lines of tables, one by one.
--     HasLine sheet table k        all that stands in the line of variable k is there
--     is_printed sheet table k     the table has a line for variable k
--     line_values sheet table k    the values on the line of variable k
--     line_view sheet table k      its text, empty where it has none
use Rattle.std.specs.Prelude.{◌≡◌, ◌<◌, ◌≤◌, ℕ, Bool, true, not, List, [], None, length, if◌then◌else◌}
use Rattle.exact_values.specs.Rational.{zero_ℚ}
use Rattle.exact_values.specs.Tests.{eq_ℚ}
use Rattle.lp_definitions.specs.LinearProgram.{IsVariable, size, value_at}
use Rattle.lp_model.specs.declared.reports.ParaPart.{ParaPart}
use Rattle.listing_definitions.specs.Report.{Value}
use Rattle.listing_definitions.specs.Text.{line_text}
use Rattle.listing_tables.specs.declared.sheet.Sheet.{Sheet}
use Rattle.listing_tables.specs.declared.table.Standing.{Standing}
use Rattle.listing_tables.specs.declared.table.Ranging.{Ranging}
use Rattle.listing_tables.specs.declared.table.Table.{Table}
use Rattle.listing_tables.specs.declared.table.Table.TheVariants.{Multipliers, Pairs, Rows, Columns, LimitRows, LimitColumns, BetweenRows, BetweenColumns}
use Rattle.listing_tables.specs.declared.table.Table.TheVariants.{Parts}
use Rattle.listing_tables.specs.Sheets.{IsSheet}
use Rattle.listing_tables.specs.Lines.{line_of, multiplier_values, pair_values, row_values, column_values, stands_at_limit, stands_between, limit_row_values}
use Rattle.listing_tables.specs.Lines.{limit_column_values, between_row_values, between_column_values, part_values}

-- a basis of the sheet's program with its lists; no row is added to the objective
pub record IsStanding (sheet : Sheet) (standing : Standing) : Type 0 where
  pub basis : length standing.basis.now ≡ size sheet.lp.now.matrix
  pub point : length standing.point.now ≡ size sheet.lp.now.matrix
  pub prices : length standing.prices.now ≡ size sheet.lp.now.matrix
  pub slack : length standing.slack.now ≡ sheet.lp.now.matrix.rows
  pub no_change : sheet.lp.now.change ≡ None

-- a basis of the sheet's program with its point; no row is added to the objective
pub record IsRanging (sheet : Sheet) (ranging : Ranging) : Type 0 where
  pub basis : length ranging.basis.now ≡ size sheet.lp.now.matrix
  pub point : length ranging.point.now ≡ size sheet.lp.now.matrix
  pub no_change : sheet.lp.now.change ≡ None

-- an interval of a parametric run: each of its lists has a place for each variable of the sheet's program
pub record IsPart (sheet : Sheet) (part : ParaPart) : Type 0 where
  pub statuses : length part.statuses ≡ size sheet.lp.now.matrix
  pub value : length part.value ≡ size sheet.lp.now.matrix
  pub value_rate : length part.value_rate ≡ size sheet.lp.now.matrix
  pub price : length part.price ≡ size sheet.lp.now.matrix
  pub price_rate : length part.price_rate ≡ size sheet.lp.now.matrix

-- the lists of a table have their lengths
abbrev pub AreListed : Sheet → Table → Type 0
AreListed sheet (Multipliers ray) = length ray.now ≡ size sheet.lp.now.matrix
AreListed sheet (Pairs first second) = (length first.now ≡ size sheet.lp.now.matrix) × (length second.now ≡ size sheet.lp.now.matrix)
AreListed sheet (Rows standing) = IsStanding sheet standing
AreListed sheet (Columns standing) = IsStanding sheet standing
AreListed sheet (LimitRows ranging) = IsRanging sheet ranging
AreListed sheet (LimitColumns ranging) = IsRanging sheet ranging
AreListed sheet (BetweenRows ranging) = IsRanging sheet ranging
AreListed sheet (BetweenColumns ranging) = IsRanging sheet ranging
AreListed sheet (Parts part) = IsPart sheet part.now

-- the tables of rows and of columns have lines for these alone
abbrev pub IsLined : Sheet → Table → ℕ → Type 0
IsLined sheet (Rows standing) k = k ≤ sheet.lp.now.matrix.rows
IsLined sheet (Columns standing) k = sheet.lp.now.matrix.rows < k
IsLined sheet (LimitRows ranging) k = k ≤ sheet.lp.now.matrix.rows
IsLined sheet (LimitColumns ranging) k = sheet.lp.now.matrix.rows < k
IsLined sheet (BetweenRows ranging) k = k ≤ sheet.lp.now.matrix.rows
IsLined sheet (BetweenColumns ranging) k = sheet.lp.now.matrix.rows < k
IsLined sheet _ k = Unit {0}

pub record HasLine (sheet : Sheet) (table : Table) (k : ℕ) : Type 0 where
  pub is_sheet : IsSheet sheet
  pub is_variable : IsVariable sheet.lp.now.matrix k
  pub listed : AreListed sheet table
  pub lined : IsLined sheet table k

-- a multiplier that is 0 has no line, and a variable has a line of intervals in the table that tells how it stands
abbrev pub is_printed : Sheet → Table → ℕ → Bool
is_printed sheet (Multipliers ray) k = not (eq_ℚ (value_at ray.now k) zero_ℚ)
is_printed sheet (LimitRows ranging) k = stands_at_limit ranging.basis.now k
is_printed sheet (LimitColumns ranging) k = stands_at_limit ranging.basis.now k
is_printed sheet (BetweenRows ranging) k = stands_between sheet.lp.now ranging.basis.now k
is_printed sheet (BetweenColumns ranging) k = stands_between sheet.lp.now ranging.basis.now k
is_printed sheet _ k = true

abbrev pub line_values : Sheet → Table → ℕ → List Value
line_values sheet (Multipliers ray) = multiplier_values ray.now
line_values sheet (Pairs first second) = pair_values first.now second.now
line_values sheet (Rows standing) = row_values sheet.lp.now standing.basis.now standing.point.now standing.slack.now standing.prices.now
line_values sheet (Columns standing) = column_values sheet.lp.now standing.basis.now standing.point.now standing.prices.now
line_values sheet (LimitRows ranging) = limit_row_values sheet.lp.now ranging.basis.now ranging.point.now ranging.report.now
line_values sheet (LimitColumns ranging) = limit_column_values sheet.lp.now ranging.basis.now ranging.point.now ranging.report.now
line_values sheet (BetweenRows ranging) = between_row_values sheet.lp.now ranging.basis.now ranging.point.now ranging.report.now
line_values sheet (BetweenColumns ranging) = between_column_values sheet.lp.now ranging.basis.now ranging.point.now ranging.report.now
line_values sheet (Parts part) = part_values sheet.lp.now part.now

abbrev pub line_view : Sheet → Table → ℕ → List ℕ
line_view sheet table k = if is_printed sheet table k then line_text (line_of sheet.problem.now (line_values sheet table) k) else []
