use Rattle.answer_definitions.specs.Real.{linear_programming}
use Rattle.soundness_laws.proofs.Runs.{knows_linear_programming}
use Rattle.determinism_laws.proofs.OneAnswer.{path_once, dual_path_once, reported_once}
use Rattle.determinism_laws.proofs.OneRange.{ranged_once}
use Rattle.determinism_laws.proofs.Outcomes.{outcomes}
use Rattle.determinism_laws.proofs.Runs.{is_function, answers_once}
use Rattle.determinism_laws.proofs.determinism_laws.Goals as goal

pub returns : goal.returns
returns c = record {
  answers =
      record {
        path = λ sheet s limit a b lawful at. path_once sheet s lawful at limit a b;
        dual_path = λ sheet s limit a b lawful at. dual_path_once sheet s
            lawful at limit a b;
        solution = reported_once;
        ranges = ranged_once;
      };
  moves = outcomes linear_programming;
  answered = answers_once;
  runs = is_function linear_programming knows_linear_programming answers_once;
}
