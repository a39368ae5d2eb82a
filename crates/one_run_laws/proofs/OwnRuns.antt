-- Each question of linear programming has an answer where a run asks it, and so each job has its own run.
use Rattle.answer_definitions.specs.Real.{linear_programming}
use Rattle.soundness_laws.proofs.Runs.{knows_linear_programming}
use Rattle.determinism_laws.proofs.Runs.{answers_once}
use Rattle.one_run_laws.specs.Answers.{AnswersAlways}
use Rattle.one_run_laws.proofs.Running.{has_own_run}
use Rattle.one_run_laws.proofs.Answering.{paths, dual_paths, solutions, ranges, punches, installs}
use Rattle.one_run_laws.proofs.Parametric.{parametric_runs}
use Rattle.one_run_laws.specs.Laws.{HasOwnRun}

pub answered : AnswersAlways linear_programming
answered = record {
  paths = paths;
  dual_paths = dual_paths;
  solutions = solutions;
  ranges = ranges;
  parametric_runs = parametric_runs;
  punches = punches;
  installs = installs;
}

pub own_runs : HasOwnRun linear_programming
own_runs = has_own_run linear_programming knows_linear_programming answers_once answered
