-- What PARAOBJ and PARARHS print: a chain of intervals, or the verdict of an opening that isn't optimal.
--     family_of sheet changing     the linear program at each value of the parameter
--     IsParametricRun sheet s parametric_run end    the parametric run from the basis s ends so
use Rattle.std.specs.Prelude.{◌≡◌, ℕ, ◌≤◌, List, [], ◌∷◌, map, length, unwrap_or}
use Rattle.std.specs.List.{enumerate_from}
use Rattle.exact_values.specs.Rational.{ℚ, zero_ℚ}
use Rattle.lp_definitions.specs.declared.Status.{Status}
use Rattle.lp_definitions.specs.LinearProgram.{LinearProgram, value_at, variables}
use Rattle.simplex_definitions.specs.Path.{PathEnding}
use Rattle.simplex_definitions.specs.Chain.{Part, ChainEnd as PastBreakpoint, AtMax, UnboundedPast as PastUnbounded, InfeasiblePast as PastInfeasible, FaceTurn}
use Rattle.simplex_definitions.specs.Chain.{IsRun, IsFailedOpening, RunGoesOnFor}
use Rattle.simplex_definitions.specs.ObjectiveRun.{objective_family, IsObjectiveFace}
use Rattle.simplex_definitions.specs.RhsRun.{rhs_family, IsRhsFace}
use Rattle.problem_definitions.specs.Names.{Name, number_in}
use Rattle.problem_definitions.specs.Problem.{Problem, row_names}
use Rattle.problem_definitions.specs.Groups.{items_of}
use Rattle.selection_definitions.specs.Limits.{value_on}
use Rattle.listing_definitions.specs.Report.{PathVerdict, Check, Value, Code, Number, ParametricInterval, ChainEnd, EndsAt, UnboundedPast, InfeasiblePast}
use Rattle.question_definitions.specs.Answers.{Basis, Sheet, Changing, Row, Set, ParametricRun, ParametricRunEnd, Opening, Chained, ParametricRunLimit}
use Rattle.answer_definitions.specs.Lines.{standing, lines_of, pair_lines, ray_lines}
use Rattle.answer_definitions.specs.Verdicts.{IsVerdict}

-- the number of the row that changes, and the shift of each row: its value in the set, or 0
abbrev pub row_of : Problem ℕ → Name → ℕ
row_of problem name = number_in (row_names problem) name

abbrev pub shifts_of : Problem ℕ → Name → List ℚ
shifts_of problem name = map (λ row. unwrap_or (value_on (items_of name problem.rhs) row.0) zero_ℚ) (enumerate_from 1 problem.rows)

-- the linear program at each value, and what is done at a breakpoint
abbrev pub family_of : Sheet → Changing → ℚ → LinearProgram
family_of sheet (Row name) = objective_family sheet.lp (row_of sheet.problem name)
family_of sheet (Set name) = rhs_family sheet.lp (shifts_of sheet.problem name)

abbrev pub IsFace : Sheet → Changing → ℚ → List Status → FaceTurn → Type 0
IsFace sheet (Row name) = IsObjectiveFace sheet.lp (row_of sheet.problem name)
IsFace sheet (Set name) = IsRhsFace sheet.lp (shifts_of sheet.problem name)

-- the sheet at a value
abbrev pub sheet_at : Sheet → Changing → ℚ → Sheet
sheet_at sheet changing theta = record { problem = sheet.problem; lp = family_of sheet changing theta }

-- where k stands in an interval; its value and price, each with its rate
abbrev pub part_values : LinearProgram → Part → ℕ → List Value
part_values p part k =
    Code (standing p part.statuses k) ∷ Number (value_at part.value k) ∷ Number (value_at part.value_rate k) ∷
    Number (value_at part.price k) ∷ Number (value_at part.price_rate k) ∷ []

abbrev pub interval_of : Sheet → Part → ParametricInterval
interval_of sheet part = record { from = part.from; to = part.to; lines = lines_of sheet (part_values sheet.lp part) (variables sheet.lp.matrix) }

-- the chain ends at the last value, or past a breakpoint
abbrev pub end_of : Sheet → ℚ → PastBreakpoint → ChainEnd
end_of sheet max AtMax = EndsAt max
end_of sheet max (PastUnbounded past point direction) = UnboundedPast past (pair_lines sheet point direction)
end_of sheet max (PastInfeasible past ray) = InfeasiblePast past (ray_lines sheet ray)

module _ (sheet : Sheet) (s : Basis) (parametric_run : ParametricRun) where
  -- the opening path runs in the linear program at the first value, and its verdict speaks of that one
  pub record FailsToOpen (bases : List Basis) (verdict : PathVerdict) (check : Check) : Type 0 where
    pub ending : PathEnding
    pub opens : IsFailedOpening (family_of sheet parametric_run.changing) (IsFace sheet parametric_run.changing) parametric_run.from s ending bases
    pub within_limit : length bases ≤ parametric_run.limit
    pub is_verdict : IsVerdict (sheet_at sheet parametric_run.changing parametric_run.from) (length bases) ending verdict check

  -- the steps of the opening path and of all breakpoints count together
  pub record IsChained (bases : List Basis) (intervals : List ParametricInterval) (end : ChainEnd) : Type 0 where
    pub parts : List Part
    pub past : PastBreakpoint
    pub is_run : IsRun (family_of sheet parametric_run.changing) (IsFace sheet parametric_run.changing) parametric_run.from parametric_run.to s parts past bases
    pub within_limit : length bases ≤ parametric_run.limit
    pub are_intervals : intervals ≡ map (interval_of (sheet_at sheet parametric_run.changing parametric_run.from)) parts
    pub is_end : end ≡ end_of sheet parametric_run.to past

  abbrev pub IsParametricRun : ParametricRunEnd → Type 0
  IsParametricRun (Opening bases verdict check) = FailsToOpen bases verdict check
  IsParametricRun (Chained bases intervals end) = IsChained bases intervals end
  IsParametricRun ParametricRunLimit =
      RunGoesOnFor (family_of sheet parametric_run.changing) (IsFace sheet parametric_run.changing) parametric_run.from parametric_run.to s parametric_run.limit
