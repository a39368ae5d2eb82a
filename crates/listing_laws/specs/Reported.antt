-- What the texts of values, lines, tables and reports determine.
use Rattle.std.specs.Prelude.{◌≡◌, ℕ, Bool, false, ◌||◌, List, [], ◌∷◌, ◌++◌, ◌==◌, All}
use Rattle.card_definitions.specs.Numbers.{is_digit}
use Rattle.problem_definitions.specs.Valid.{IsName}
use Rattle.listing_definitions.specs.Report.{Value, Line, ParametricInterval, ChainEnd, EndsAt, UnboundedPast, InfeasiblePast, Report, Titled, Converted}
use Rattle.listing_definitions.specs.Report.{Revised, SetUp, BcdOut, BasisOut, Inserted, Solved, Solution, Ranges, Parametric}
use Rattle.listing_definitions.specs.Text.{value_text, line_text, table_text, verdict_lines, report_text}

-- two values with equal texts are one
abbrev pub DeterminesValues : Type 0
DeterminesValues = (x y : Value) → value_text x ≡ value_text y → x ≡ y

-- two lines with equal texts are one, where their names are names
abbrev pub DeterminesLines : Type 0
DeterminesLines = (x y : Line) → IsName x.name → IsName y.name → line_text x ≡ line_text y → x ≡ y

-- whether a text begins as a line of a table does, with a blank or a digit
abbrev pub begins_line : List ℕ → Bool
begins_line [] = false
begins_line (byte ∷ bytes) = byte == 32 || is_digit byte

-- A table ends where no line begins: two tables with equal texts have the same lines, and the same text stands after them.
abbrev pub DeterminesTables : Type 0
DeterminesTables = (xs ys : List Line) (after other : List ℕ) → All (λ line. IsName line.name) xs → All (λ line. IsName line.name) ys
    → begins_line after ≡ false → begins_line other ≡ false → table_text xs ++ after ≡ table_text ys ++ other → (xs ≡ ys) × (after ≡ other)

-- ---- reports

abbrev pub AreNamed : List Line → Type 0
AreNamed lines = All (λ line. IsName line.name) lines

abbrev pub IsEndNamed : ChainEnd → Type 0
IsEndNamed (EndsAt value) = Unit {0}
IsEndNamed (UnboundedPast value lines) = AreNamed lines
IsEndNamed (InfeasiblePast value lines) = AreNamed lines

-- each name in a report is one; a title may be any text
abbrev pub IsNamed : Report → Type 0
IsNamed (Titled text) = Unit {0}
IsNamed (Converted filed) = IsName filed.name
IsNamed (Revised filed) = IsName filed.name
IsNamed (SetUp name sense) = IsName name
IsNamed (BcdOut name cards) = IsName name
IsNamed (BasisOut name cards) = IsName name
IsNamed (Inserted name basic) = IsName name
IsNamed (Solved solver verdict check) = AreNamed (verdict_lines verdict)
IsNamed (Solution mark lines) = AreNamed lines.rows × AreNamed lines.columns
IsNamed (Ranges lines) = AreNamed lines.rows_at_limit × AreNamed lines.columns_at_limit × AreNamed lines.rows_between × AreNamed lines.columns_between
IsNamed (Parametric solver chain) =
    IsName chain.change × All (λ (interval : ParametricInterval). AreNamed interval.lines) chain.intervals × IsEndNamed chain.end

-- Two reports with equal texts are of one kind, and all that they print is equal: the printed fields of a report are all its fields,
-- so that they are one report.
abbrev pub DeterminesReports : Type 0
DeterminesReports = (x y : Report) → IsNamed x → IsNamed y → report_text x ≡ report_text y → x ≡ y
