-- What PARAOBJ or PARARHS prints of a nonsingular basis leads to one, and is true.
use Rattle.lp_definitions.specs.LinearProgram.{IsLinearProgram}
use Rattle.simplex_definitions.specs.Path.{last_of}
use Rattle.simplex_definitions.specs.Chain.{FailedOpening, Chain}
use Rattle.simplex_laws.specs.Laws.{IsNonsingularBasis}
use Rattle.question_definitions.specs.Answers.{Basis, Sheet, Changing, Row, Set, ParametricRun, ParametricRunEnd, Opening, Chained, ParametricRunLimit}
use Rattle.answer_definitions.specs.ParametricRuns.{row_of, shifts_of, family_of, IsFace, IsParametricRun}
use Rattle.parametric_laws.specs.Laws.{LeadsToBases, HasTrueRuns}
use Rattle.parametric_laws.proofs.Runs.{objective_runs, rhs_runs}
use Rattle.parametric_laws.proofs.TrueRuns.{objective_runs as objective_true, rhs_runs as rhs_true}
use Rattle.soundness_laws.specs.ParametricRuns.{gone_over, ChangesFreely, IsTrueParametricRun}

runs_of : (sheet : Sheet) (changing : Changing) → LeadsToBases sheet.lp (family_of sheet changing) (IsFace sheet changing)
runs_of sheet (Row name) = objective_runs sheet.lp (row_of sheet.problem name)
runs_of sheet (Set name) = rhs_runs sheet.lp (shifts_of sheet.problem name)

pub run_through_leads : (sheet : Sheet) (s : Basis) (parametric_run : ParametricRun) (end : ParametricRunEnd) → IsParametricRun sheet s parametric_run end →
    IsNonsingularBasis sheet.lp s → IsNonsingularBasis sheet.lp (last_of s (gone_over end))
run_through_leads sheet s parametric_run (Opening bases verdict check) fails at =
    (runs_of sheet parametric_run.changing).last parametric_run.from parametric_run.to s (FailedOpening fails.ending) bases at fails.opens
run_through_leads sheet s parametric_run (Chained bases intervals end) chained at =
    (runs_of sheet parametric_run.changing).last parametric_run.from parametric_run.to s (Chain chained.parts chained.past) bases at chained.is_run
run_through_leads sheet s parametric_run ParametricRunLimit on at = at

true_of : (sheet : Sheet) (changing : Changing) → IsLinearProgram sheet.lp → ChangesFreely sheet changing →
    HasTrueRuns sheet.lp (family_of sheet changing) (IsFace sheet changing)
true_of sheet (Row name) lawful free = objective_true sheet.lp (row_of sheet.problem name) lawful free.0 free.1
true_of sheet (Set name) lawful free = rhs_true sheet.lp (shifts_of sheet.problem name) lawful

pub run_through_true : (sheet : Sheet) (s : Basis) (parametric_run : ParametricRun) (end : ParametricRunEnd) → IsLinearProgram sheet.lp →
    ChangesFreely sheet parametric_run.changing → IsNonsingularBasis sheet.lp s →
    IsParametricRun sheet s parametric_run end → IsTrueParametricRun sheet parametric_run end
run_through_true sheet s parametric_run (Opening bases verdict check) lawful free at fails = record {
  ending = fails.ending;
  is_true = true_of sheet parametric_run.changing lawful free parametric_run.from parametric_run.to s (FailedOpening fails.ending) bases at fails.opens;
  is_verdict = fails.is_verdict;
}
run_through_true sheet s parametric_run (Chained bases intervals end) lawful free at chained = record {
  parts = chained.parts;
  past = chained.past;
  is_true =
      true_of sheet parametric_run.changing lawful free parametric_run.from parametric_run.to s (Chain chained.parts chained.past) bases at chained.is_run;
  are_intervals = chained.are_intervals;
  is_end = chained.is_end;
}
run_through_true sheet s parametric_run ParametricRunLimit lawful free at on = tt
