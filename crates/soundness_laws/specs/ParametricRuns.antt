-- What is true of the intervals and verdicts that PARAOBJ and PARARHS print.
--     gone_over end                the bases that a parametric run has gone over
--     ChangesFreely                what is asked of a row that changes
--     IsTrueOpening                a verdict of the opening path is proved at the first value
--     IsTrueChain                  the intervals and the end are those of a run that is true
--     IsTrueParametricRun sheet parametric_run end    the one or the other; a run that has met its limit claims nothing
--     ParametricRunLaws            what is printed is one thing, and true, and leads to a basis
use Rattle.std.specs.Prelude.{◌≡◌, List, [], map, length}
use Rattle.lp_definitions.specs.LinearProgram.{IsRow, HasNoLimits, IsLinearProgram}
use Rattle.simplex_definitions.specs.Path.{PathEnding, last_of}
use Rattle.simplex_definitions.specs.Chain.{Part, ChainEnd as PastBreakpoint}
use Rattle.simplex_laws.specs.Laws.{IsNonsingularBasis}
use Rattle.listing_definitions.specs.Report.{PathVerdict, Check, ParametricInterval, ChainEnd}
use Rattle.question_definitions.specs.Answers.{Basis, Sheet, Changing, Row, Set, ParametricRun, ParametricRunEnd, Opening, Chained, ParametricRunLimit}
use Rattle.answer_definitions.specs.ParametricRuns.{row_of, family_of, sheet_at, interval_of, end_of, IsParametricRun}
use Rattle.answer_definitions.specs.Verdicts.{IsVerdict}
use Rattle.parametric_laws.specs.Truth.{IsTrueRun, IsTrueFailure}

-- a run that hasn't ended within its limit names no bases
abbrev pub gone_over : ParametricRunEnd → List Basis
gone_over (Opening bases verdict check) = bases
gone_over (Chained bases intervals end) = bases
gone_over ParametricRunLimit = []

-- what PARAOBJ changes is a row without limits
abbrev pub ChangesFreely : Sheet → Changing → Type 0
ChangesFreely sheet (Row name) =
    IsRow sheet.lp.matrix (row_of sheet.problem name) × HasNoLimits sheet.lp (row_of sheet.problem name)
ChangesFreely sheet (Set name) = Unit {0}

module _ (sheet : Sheet) (parametric_run : ParametricRun) where
  abbrev first_sheet : Sheet
  first_sheet = sheet_at sheet parametric_run.changing parametric_run.from

  pub record IsTrueOpening (bases : List Basis) (verdict : PathVerdict) (check : Check) : Type 0 where
    pub ending : PathEnding
    pub is_true : IsTrueFailure (family_of sheet parametric_run.changing parametric_run.from) ending
    pub is_verdict : IsVerdict first_sheet (length bases) ending verdict check

  pub record IsTrueChain (intervals : List ParametricInterval) (end : ChainEnd) : Type 0 where
    pub parts : List Part
    pub past : PastBreakpoint
    pub is_true : IsTrueRun (family_of sheet parametric_run.changing) parametric_run.from parametric_run.to parts past
    pub are_intervals : intervals ≡ map (interval_of first_sheet) parts
    pub is_end : end ≡ end_of sheet parametric_run.to past

  abbrev pub IsTrueParametricRun : ParametricRunEnd → Type 0
  IsTrueParametricRun (Opening bases verdict check) = IsTrueOpening bases verdict check
  IsTrueParametricRun (Chained bases intervals end) = IsTrueChain intervals end
  IsTrueParametricRun ParametricRunLimit = Unit {0}

-- of what PARAOBJ or PARARHS prints of a nonsingular basis
pub record ParametricRunLaws : Type 0 where
  -- it leads to a nonsingular basis
  pub leads : (sheet : Sheet) (s : Basis) (parametric_run : ParametricRun) (end : ParametricRunEnd) → IsParametricRun sheet s parametric_run end →
      IsNonsingularBasis sheet.lp s → IsNonsingularBasis sheet.lp (last_of s (gone_over end))
  -- it is one thing
  pub one_end : (sheet : Sheet) (s : Basis) (parametric_run : ParametricRun) (end other : ParametricRunEnd) →
      IsLinearProgram sheet.lp → ChangesFreely sheet parametric_run.changing → IsNonsingularBasis sheet.lp s →
      IsParametricRun sheet s parametric_run end → IsParametricRun sheet s parametric_run other → end ≡ other
  -- it is true
  pub is_true : (sheet : Sheet) (s : Basis) (parametric_run : ParametricRun) (end : ParametricRunEnd) →
      IsLinearProgram sheet.lp → ChangesFreely sheet parametric_run.changing → IsNonsingularBasis sheet.lp s →
      IsParametricRun sheet s parametric_run end → IsTrueParametricRun sheet parametric_run end
