-- What a run reports, as plain data: just what is printed of it.
--     Value, Line           a printed value, and a table line
--     PathVerdict, Check    what a solving verb says, and whether its check could be made
--     Report                what a statement prints
use Rattle.std.specs.Prelude.{ℕ, List, Option, Some, None}
use Rattle.exact_values.specs.Rational.{ℚ}
use Rattle.frac128.specs.declared.Refused.{Refused}
use Rattle.lp_definitions.specs.declared.Sense.{Sense}
use Rattle.problem_definitions.specs.Names.{Name}
use Rattle.listing_definitions.specs.declared.Mark.{Mark}
use Rattle.listing_definitions.specs.declared.Solver.{Solver}
use Rattle.listing_definitions.specs.declared.At.{At}

-- One printed value of a table line: where a variable stands, a number, or one of two signs for what isn't there.
pub data Value : Type 0 where
  Code : At → Value
  Number : ℚ → Value
  Absent Dash : Value

-- a limit, or an end of an interval, which may be absent
abbrev pub limit_value : Option ℚ → Value
limit_value None = Absent
limit_value (Some value) = Number value

-- a table line: a variable's number, its name and its values
pub record Line : Type 0 where
  pub number : ℕ
  pub name : Name
  pub values : List Value

-- a problem that was filed, by its name and its size
pub record Filed : Type 0 where
  pub name : Name
  pub rows : ℕ
  pub columns : ℕ
  pub entries : ℕ

-- Where a path ended: optimal after so many steps, with this objective; with a crossed variable; infeasible after so many
-- steps, with the multipliers that aren't 0; or unbounded, with its objective and with each activity and direction.
pub data PathVerdict : Type 0 where
  OptimalAt : ℕ → ℚ → PathVerdict
  CrossedAt : ℕ → PathVerdict
  InfeasibleBy : ℕ → List Line → PathVerdict
  UnboundedBy : ℕ → ℚ → List Line → PathVerdict

-- whether all operations of a verdict's check fit, or else the first one that doesn't
pub data Check : Type 0 where
  Checked : Check
  Unchecked : Refused → Check

pub record SolutionLines : Type 0 where
  pub rows : List Line
  pub columns : List Line

pub record RangeLines : Type 0 where
  pub rows_at_limit : List Line
  pub columns_at_limit : List Line
  pub rows_between : List Line
  pub columns_between : List Line

-- an interval of a parametric run, with a line for each variable
pub record ParametricInterval : Type 0 where
  pub from : ℚ
  pub to : ℚ
  pub lines : List Line

-- A parametric run ends at its last value; or past a value all is unbounded, or infeasible.
pub data ChainEnd : Type 0 where
  EndsAt : ℚ → ChainEnd
  UnboundedPast InfeasiblePast : ℚ → List Line → ChainEnd

-- a parametric run: its first value, the row or set that changes, its intervals and its end
pub record Chain : Type 0 where
  pub from : ℚ
  pub change : Name
  pub intervals : List ParametricInterval
  pub end : ChainEnd

-- What a statement prints. Of a deck that is punched, by BCDOUT or by PUNCH, only its problem and the number of its cards are printed;
-- of a basis that INSERT takes, the deck's name and the number of the basic columns.
pub data Report : Type 0 where
  Titled : List ℕ → Report
  Converted Revised : Filed → Report
  SetUp : Name → Sense → Report
  BcdOut : Name → ℕ → Report
  BasisOut : Name → ℕ → Report
  Inserted : Name → ℕ → Report
  Solved : Solver → PathVerdict → Check → Report
  Solution : Mark → SolutionLines → Report
  Ranges : RangeLines → Report
  Parametric : Solver → Chain → Report
