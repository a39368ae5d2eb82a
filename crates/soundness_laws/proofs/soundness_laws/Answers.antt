use Rattle.soundness_laws.proofs.ParametricRuns.{run_through_leads, run_through_true}
use Rattle.soundness_laws.proofs.OneEnd.{one_parametric_run_end}
use Rattle.soundness_laws.proofs.Runs.{knows_linear_programming, tells_truth}
use Rattle.soundness_laws.proofs.Filed.{files_problems}
use Rattle.soundness_laws.proofs.Unlimited.{ends_unlimited}
use Rattle.soundness_laws.proofs.soundness_laws.Goals as goal

pub returns : goal.returns
returns c = record {
  parametric_runs =
      record {
        leads = run_through_leads;
        one_end = λ sheet s parametric_run end other lawful free at. one_parametric_run_end sheet s parametric_run lawful
            free at end other;
        is_true = run_through_true;
      };
  truth = tells_truth _ knows_linear_programming;
  problems = files_problems _;
  unlimited = ends_unlimited;
}
