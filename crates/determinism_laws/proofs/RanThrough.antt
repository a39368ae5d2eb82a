-- A parametric run that a statement asks for has one end at most.
use Rattle.std.proofs.Common.{◌≡◌}
use Rattle.question_definitions.specs.Answers.{Basis, Sheet, ParametricRun, ParametricRunEnd, OfParametricRun}
use Rattle.answer_definitions.specs.ParametricRuns.{IsParametricRun}
use Rattle.soundness_laws.proofs.OneEnd.{one_parametric_run_end}
use Rattle.soundness_laws.proofs.ChangeRow.{changes_freely}
use Rattle.selection_laws.proofs.Selected.{selected_is_lawful}
use Rattle.determinism_laws.specs.Laws.{IsAsked}

pub run_through_once : (parametric_run : ParametricRun) (sheet : Sheet) (s : Basis) (a b : ParametricRunEnd) →
    IsAsked (OfParametricRun parametric_run) sheet s → IsParametricRun sheet s parametric_run a → IsParametricRun sheet s parametric_run b → a ≡ b
run_through_once parametric_run sheet s a b asked first second =
    one_parametric_run_end sheet s parametric_run (selected_is_lawful sheet.problem asked.choice sheet.lp asked.is_problem asked.is_selected)
    (changes_freely sheet asked.choice parametric_run.changing asked.is_problem asked.is_selected asked.suits.0) asked.is_basis a b first second
