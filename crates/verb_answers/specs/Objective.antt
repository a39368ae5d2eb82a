-- What PARAOBJ answers at the present basis.
--     parametric_run_of name run          the run of the objective, where the change row has this name
--     IsObjectiveAnswered        what is answered, whatever name the row has
--     ObjectiveRunStops          what holds after a call that has stopped
use Rattle.std.specs.Prelude.{◌≡◌, List}
use Rattle.lp_definitions.specs.Basis.{Basics}
use Rattle.problem_definitions.specs.Names.{Name}
use Rattle.bounded_primal.specs.declared.moves.PrimalStop.{PrimalStop}
use Rattle.question_definitions.specs.Answers.{Basis, Row, ParametricRun}
use Rattle.answer_definitions.specs.ParametricRuns.{row_of}
use Rattle.listing_tables.specs.declared.sheet.Sheet.{Sheet}
use Rattle.para_objective.specs.declared.parts.ParaObj.{ParaObj}
use Rattle.verb_answers.specs.declared.report.RunReport.{RunReport}
use Rattle.verb_answers.specs.RunReports.{IsAnswered, RunOverflowsThere, ParametricRunStops}

abbrev pub parametric_run_of : Name → ParaObj → ParametricRun
parametric_run_of name run = record { changing = Row name; from = run.from; to = run.to; limit = run.limit }

module _ (sheet : Sheet) (run : ParaObj) (s now : Basis) (before after : List Basics) where
  abbrev pub IsObjectiveAnswered : RunReport → Type 0
  IsObjectiveAnswered answer =
      (name : Name) → row_of sheet.problem.now name ≡ run.row → IsAnswered sheet (parametric_run_of name run) s now before after answer

  abbrev pub ObjectiveRunStops : PrimalStop → Type 0
  ObjectiveRunStops stop =
      (name : Name) → row_of sheet.problem.now name ≡ run.row →
      ParametricRunStops sheet (parametric_run_of name run) s now before after (RunOverflowsThere sheet (parametric_run_of name run) s now before after) stop
