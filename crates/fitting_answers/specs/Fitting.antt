-- That the fractions which the listing checker of 128 bits reads by their value have 128 bits: those of verdicts, of SOLUTION, of the ends
-- and the lines of intervals and of how a parametric run closes, and those of an overflow's evidence, whose printed counts have 32. An
-- interval begins at XPARAM, or where the one before it ended; counts of steps are bounded elsewhere.
--     LinesFit lines               the fractions of table lines
--     VerdictFits verdict          those of a verdict, and CheckFits check those of its check
--     ReportFits report            those of a report that the checker reads
--     GainFits gain                those of a report that is added to the print
--     EvidenceFits e               those of an evidence, with the counts that are printed of it
--     AnswerFits question answer   those of an answer to a question
use Rattle.std.specs.Prelude.{ℕ, ◌≤◌, List, [], ◌∷◌}
use Rattle.frac128.specs.Operations.{TermsFit}
use Rattle.lp_definitions.specs.declared.Evidence.{Evidence}
use Rattle.listing_definitions.specs.Report.{Value, Number, Line, PathVerdict, OptimalAt, CrossedAt, InfeasibleBy, UnboundedBy, Check, SolutionLines, Checked}
use Rattle.listing_definitions.specs.Report.{Unchecked, ParametricInterval, ChainEnd, EndsAt, UnboundedPast, InfeasiblePast, Report, Solved, Solution}
use Rattle.listing_definitions.specs.Report.{Parametric}
use Rattle.question_definitions.specs.Answers.{PathEnd, Reached, ParametricRunEnd, Opening, Chained, Question, OfPath, OfSolution, OfParametricRun, AnswerTo}
use Rattle.run_definitions.specs.Moves.{Gain, Nothing, Prints, Punches}

-- ---- reports

abbrev pub ValueFits : Value → Type 0
ValueFits (Number x) = TermsFit x
ValueFits value = Unit {0}

abbrev pub ValuesFit : List Value → Type 0
ValuesFit [] = Unit {0}
ValuesFit (value ∷ values) = ValueFits value × ValuesFit values

abbrev pub LinesFit : List Line → Type 0
LinesFit [] = Unit {0}
LinesFit (line ∷ lines) = ValuesFit line.values × LinesFit lines

abbrev pub CheckFits : Check → Type 0
CheckFits Checked = Unit {0}
CheckFits (Unchecked refused) = TermsFit refused.left × TermsFit refused.right

abbrev pub VerdictFits : PathVerdict → Type 0
VerdictFits (OptimalAt steps objective) = TermsFit objective
VerdictFits (CrossedAt k) = Unit {0}
VerdictFits (InfeasibleBy steps lines) = LinesFit lines
VerdictFits (UnboundedBy steps objective lines) = TermsFit objective × LinesFit lines

abbrev pub SolutionFits : SolutionLines → Type 0
SolutionFits lines = LinesFit lines.rows × LinesFit lines.columns

abbrev pub IntervalsFit : List ParametricInterval → Type 0
IntervalsFit [] = Unit {0}
IntervalsFit (interval ∷ intervals) = (TermsFit interval.to × LinesFit interval.lines) × IntervalsFit intervals

abbrev pub EndFits : ChainEnd → Type 0
EndFits (EndsAt value) = TermsFit value
EndFits (UnboundedPast value lines) = TermsFit value × LinesFit lines
EndFits (InfeasiblePast value lines) = TermsFit value × LinesFit lines

-- the other reports are written by the walk itself, or can't be attested
abbrev pub ReportFits : Report → Type 0
ReportFits (Solved solver verdict check) = VerdictFits verdict × CheckFits check
ReportFits (Solution mark lines) = SolutionFits lines
ReportFits (Parametric solver chain) = IntervalsFit chain.intervals × EndFits chain.end
ReportFits report = Unit {0}

abbrev pub ReportsFit : List Report → Type 0
ReportsFit [] = Unit {0}
ReportsFit (report ∷ reports) = ReportFits report × ReportsFit reports

abbrev pub GainFits : Gain → Type 0
GainFits Nothing = Unit {0}
GainFits (Prints report) = ReportFits report
GainFits (Punches report cards) = ReportFits report

-- ---- evidence

-- the greatest count of 32 bits
abbrev pub max_count : ℕ
max_count = 4294967295

pub record EvidenceFits (e : Evidence) : Type 0 where
  pub formula : e.formula ≤ max_count
  pub left : TermsFit e.refused.left
  pub right : TermsFit e.refused.right
  pub p : e.p ≤ max_count
  pub q : e.q ≤ max_count
  pub i : e.i ≤ max_count
  pub j : e.j ≤ max_count
  pub term : e.term ≤ max_count
  pub theta : TermsFit e.theta

-- ---- answers

abbrev pub PathEndFits : PathEnd → Type 0
PathEndFits (Reached bases verdict check) = VerdictFits verdict × CheckFits check
PathEndFits end = Unit {0}

abbrev pub ParametricRunEndFits : ParametricRunEnd → Type 0
ParametricRunEndFits (Opening bases verdict check) = VerdictFits verdict × CheckFits check
ParametricRunEndFits (Chained bases intervals end) = IntervalsFit intervals × EndFits end
ParametricRunEndFits end = Unit {0}

-- the checker reads no fraction of RANGE, PUNCH and INSERT
abbrev pub AnswerFits : (question : Question) → AnswerTo question → Type 0
AnswerFits (OfPath solver limit) end = PathEndFits end
AnswerFits (OfSolution mark) lines = SolutionFits lines
AnswerFits (OfParametricRun parametric_run) end = ParametricRunEndFits end
AnswerFits question answer = Unit {0}
