-- The text of reports. A text is written as its pieces, one after another; each line ends with a line feed.
use Rattle.std.specs.Prelude.{ℕ, ◌-◌, List, [], ◌∷◌, ◌++◌, codes, length, replicate}
use Rattle.std.specs.List.{concat, flat_map, enumerate_from}
use Rattle.frac128.specs.declared.Op.{Op}
use Rattle.frac128.specs.declared.Op.TheVariants.{Add, Sub, Mul, Div}
use Rattle.frac128.specs.declared.Refused.{Refused}
use Rattle.lp_definitions.specs.declared.Sense.{Sense}
use Rattle.lp_definitions.specs.declared.Sense.TheVariants.{Min, Max}
use Rattle.card_definitions.specs.Words.{padded}
use Rattle.problem_definitions.specs.Names.{Name}
use Rattle.listing_definitions.specs.declared.Mark.{Mark}
use Rattle.listing_definitions.specs.declared.Mark.TheVariants.{Optimal, Infeasible, Unbounded}
use Rattle.listing_definitions.specs.declared.Solver.{Solver}
use Rattle.listing_definitions.specs.declared.Solver.TheVariants.{Primal, Dual, Paraobj, Pararhs}
use Rattle.listing_definitions.specs.declared.At.{At}
use Rattle.listing_definitions.specs.declared.At.TheVariants.{Basic, Outside, Equal, Lower, Upper, Free}
use Rattle.listing_definitions.specs.Numbers.{digits, rational_text}
use Rattle.listing_definitions.specs.Report.{Value, Code, Number, Absent, Dash, Line, Filed, PathVerdict, OptimalAt, CrossedAt, InfeasibleBy, UnboundedBy}
use Rattle.listing_definitions.specs.Report.{Check, Checked, Unchecked, SolutionLines, RangeLines, ParametricInterval, ChainEnd, EndsAt, UnboundedPast}
use Rattle.listing_definitions.specs.Report.{InfeasiblePast, Chain, Report, Titled, Converted, Revised, SetUp, BcdOut, BasisOut, Inserted, Solved, Solution}
use Rattle.listing_definitions.specs.Report.{Ranges, Parametric}

-- ---- table lines

abbrev pub at_text : At → List ℕ
at_text Basic = codes "BS"
at_text Outside = codes "**"
at_text Equal = codes "EQ"
at_text Lower = codes "LL"
at_text Upper = codes "UL"
at_text Free = codes "FR"

-- a fraction is its numerator, and after a slash its denominator where that isn't 1
abbrev pub value_text : Value → List ℕ
value_text (Code at) = at_text at
value_text (Number value) = rational_text value
value_text Absent = codes "NONE"
value_text Dash = codes "-"

-- a number at the right of 5 places
abbrev pub number5 : ℕ → List ℕ
number5 number = replicate (5 - length (digits number)) 32 ++ digits number

-- a name at the left of 8 places
abbrev pub name8 : Name → List ℕ
name8 name = padded 8 name

-- a blank before each value
abbrev pub values_text : List Value → List ℕ
values_text values = flat_map (λ value. codes " " ++ value_text value) values

abbrev pub line_text : Line → List ℕ
line_text line = concat (number5 line.number ∷ codes " " ∷ name8 line.name ∷ values_text line.values ∷ codes "\n" ∷ [])

abbrev pub table_text : List Line → List ℕ
table_text lines = flat_map line_text lines

-- ---- verdicts

abbrev pub operation_text : Op → List ℕ
operation_text Add = codes "ADD"
operation_text Sub = codes "SUB"
operation_text Mul = codes "MUL"
operation_text Div = codes "DIV"

-- an operation with its two operands
abbrev pub refused_text : Refused → List ℕ
refused_text refused = concat (operation_text refused.op ∷ codes " " ∷ rational_text refused.left ∷ codes " " ∷ rational_text refused.right ∷ [])

abbrev pub check_text : Check → List ℕ
check_text Checked = codes "CHECKED"
check_text (Unchecked refused) = codes "UNCHECKED " ++ refused_text refused

abbrev pub solver_text : Solver → List ℕ
solver_text Primal = codes "PRIMAL"
solver_text Dual = codes "DUAL"
solver_text Paraobj = codes "PARAOBJ"
solver_text Pararhs = codes "PARARHS"

-- the first line of a verdict, without the check and the line feed
abbrev pub verdict_head : PathVerdict → List ℕ
verdict_head (OptimalAt steps objective) = concat (codes "OPTIMAL STEPS " ∷ digits steps ∷ codes " OBJECTIVE " ∷ rational_text objective ∷ [])
verdict_head (CrossedAt number) = codes "INFEASIBLE STEPS 0 CROSSED " ++ digits number
verdict_head (InfeasibleBy steps lines) = concat (codes "INFEASIBLE STEPS " ∷ digits steps ∷ codes " RAY" ∷ [])
verdict_head (UnboundedBy steps objective lines) = concat (codes "UNBOUNDED STEPS " ∷ digits steps ∷ codes " OBJECTIVE " ∷ rational_text objective ∷ [])

-- the table lines of a verdict
abbrev pub verdict_lines : PathVerdict → List Line
verdict_lines (OptimalAt steps objective) = []
verdict_lines (CrossedAt number) = []
verdict_lines (InfeasibleBy steps lines) = lines
verdict_lines (UnboundedBy steps objective lines) = lines

abbrev pub verdict_text : Solver → PathVerdict → Check → List ℕ
verdict_text solver verdict check =
    concat (solver_text solver ∷ codes " " ∷ verdict_head verdict ∷ codes " " ∷ check_text check ∷ codes "\n" ∷ table_text (verdict_lines verdict) ∷ [])

-- ---- the other reports

abbrev pub filed_text : List ℕ → Filed → List ℕ
filed_text verb filed =
    concat (verb ∷ codes " " ∷ name8 filed.name ∷ codes " ROWS " ∷ digits filed.rows ∷ codes " COLUMNS " ∷ digits filed.columns ∷ codes " ENTRIES "
    ∷ digits filed.entries ∷ codes "\n" ∷ [])

abbrev pub sense_text : Sense → List ℕ
sense_text Min = codes "MIN"
sense_text Max = codes "MAX"

abbrev pub mark_text : Mark → List ℕ
mark_text Optimal = codes "OPTIMAL"
mark_text Infeasible = codes "INFEASIBLE"
mark_text Unbounded = codes "UNBOUNDED"

abbrev pub solution_text : Mark → SolutionLines → List ℕ
solution_text mark lines =
    concat (codes "SOLUTION " ∷ mark_text mark ∷ codes "\n" ∷
    codes "SECTION 1 - ROWS\nNUMBER ROW AT ACTIVITY SLACK LOWER UPPER DUAL\n" ∷ table_text lines.rows ∷
    codes "SECTION 2 - COLUMNS\nNUMBER COLUMN AT ACTIVITY COST LOWER UPPER REDUCED\n" ∷ table_text lines.columns ∷ [])

abbrev pub ranges_text : RangeLines → List ℕ
ranges_text lines =
    concat (codes "RANGE\n" ∷
    codes "SECTION 1 - ROWS AT LIMIT LEVEL\n" ∷ table_text lines.rows_at_limit ∷
    codes "SECTION 2 - COLUMNS AT LIMIT LEVEL\n" ∷ table_text lines.columns_at_limit ∷
    codes "SECTION 3 - ROWS AT INTERMEDIATE LEVEL\n" ∷ table_text lines.rows_between ∷
    codes "SECTION 4 - COLUMNS AT INTERMEDIATE LEVEL\n" ∷ table_text lines.columns_between ∷ [])

-- intervals count from 1
abbrev pub interval_text : ℕ × ParametricInterval → List ℕ
interval_text entry =
    concat (codes "INTERVAL " ∷ digits entry.0 ∷ codes " FROM " ∷ rational_text entry.1.from ∷ codes " TO " ∷ rational_text entry.1.to ∷ codes "\n"
    ∷ table_text entry.1.lines ∷ [])

abbrev pub chain_end_text : Solver → ChainEnd → List ℕ
chain_end_text solver (EndsAt value) = concat (solver_text solver ∷ codes " ENDS AT " ∷ rational_text value ∷ codes "\n" ∷ [])
chain_end_text solver (UnboundedPast value lines) =
    concat (solver_text solver ∷ codes " UNBOUNDED PAST " ∷ rational_text value ∷ codes "\n" ∷ table_text lines ∷ [])
chain_end_text solver (InfeasiblePast value lines) =
    concat (solver_text solver ∷ codes " INFEASIBLE PAST " ∷ rational_text value ∷ codes "\n" ∷ table_text lines ∷ [])

abbrev pub chain_text : Solver → Chain → List ℕ
chain_text solver chain =
    concat (solver_text solver ∷ codes " FROM " ∷ rational_text chain.from ∷ codes " CHANGE " ∷ chain.change ∷ codes "\n" ∷
    flat_map interval_text (enumerate_from 1 chain.intervals) ∷ chain_end_text solver chain.end ∷ [])

abbrev pub report_text : Report → List ℕ
report_text (Titled text) = concat (codes "TITLE " ∷ text ∷ codes "\n" ∷ [])
report_text (Converted filed) = filed_text (codes "CONVERT") filed
report_text (Revised filed) = filed_text (codes "REVISE ") filed
report_text (SetUp name sense) = concat (codes "SETUP   " ∷ name8 name ∷ codes " " ∷ sense_text sense ∷ codes "\n" ∷ [])
report_text (BcdOut name cards) = concat (codes "BCDOUT  " ∷ name8 name ∷ codes " CARDS " ∷ digits cards ∷ codes "\n" ∷ [])
report_text (BasisOut name cards) = concat (codes "PUNCH   " ∷ name8 name ∷ codes " CARDS " ∷ digits cards ∷ codes "\n" ∷ [])
report_text (Inserted name basic) = concat (codes "INSERT  " ∷ name8 name ∷ codes " BASIC " ∷ digits basic ∷ codes "\n" ∷ [])
report_text (Solved solver verdict check) = verdict_text solver verdict check
report_text (Solution mark lines) = solution_text mark lines
report_text (Ranges lines) = ranges_text lines
report_text (Parametric solver chain) = chain_text solver chain
