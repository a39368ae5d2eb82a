-- What PARARHS answers at the present basis.
--     parametric_run_of name run    the run of the right-hand side, where the set has this name
--     IsRhsAnswered                 what is answered, whatever set has these shifts
--     RhsRunStops                   what holds after a call that has stopped
use Rattle.std.specs.Prelude.{◌≡◌, ◌⊎◌, List}
use Rattle.lp_definitions.specs.Basis.{Basics}
use Rattle.problem_definitions.specs.Names.{Name}
use Rattle.bounded_primal.specs.declared.moves.PrimalStop.{PrimalStop}
use Rattle.question_definitions.specs.Answers.{Basis, Set, ParametricRun}
use Rattle.answer_definitions.specs.ParametricRuns.{shifts_of}
use Rattle.listing_tables.specs.declared.sheet.Sheet.{Sheet}
use Rattle.para_rhs.specs.declared.parts.ParaRhs.{ParaRhs}
use Rattle.verb_answers.specs.declared.report.RunReport.{RunReport}
use Rattle.verb_answers.specs.RunReports.{IsAnswered, RunOverflowsThere, LimitOverflows, ParametricRunStops}

abbrev pub parametric_run_of : Name → ParaRhs → ParametricRun
parametric_run_of name run = record { changing = Set name; from = run.from; to = run.to; limit = run.limit }

module _ (sheet : Sheet) (run : ParaRhs) (s now : Basis) (before after : List Basics) where
  abbrev pub IsRhsAnswered : RunReport → Type 0
  IsRhsAnswered answer =
      (name : Name) → shifts_of sheet.problem.now name ≡ run.shift.items → IsAnswered sheet (parametric_run_of name run) s now before after answer

  abbrev pub RhsRunStops : PrimalStop → Type 0
  RhsRunStops stop =
      (name : Name) → shifts_of sheet.problem.now name ≡ run.shift.items →
      ParametricRunStops sheet (parametric_run_of name run) s now before after
      (λ e. RunOverflowsThere sheet (parametric_run_of name run) s now before after e ⊎ LimitOverflows sheet
      (parametric_run_of name run) s now before after e) stop
