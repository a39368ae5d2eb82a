use Rattle.sensitivity_laws.proofs.Rows.{row, objective}
use Rattle.sensitivity_laws.proofs.Costs.{cost_changes}
use Rattle.sensitivity_laws.proofs.Limits.{limit}
use Rattle.sensitivity_laws.proofs.RightHandSides.{right_hand_sides, dual_feasible}
use Rattle.sensitivity_laws.proofs.changed_laws.Goals as goal

pub returns : goal.returns
returns c = record {
  row = row;
  objective = objective;
  cost = cost_changes;
  limit = λ p s t present k is stands x. limit p s t present k is stands x;
  limits = λ p s t h shift v slope x. right_hand_sides p s t h shift v slope x;
  dual_feasible = λ p s t basis one rows tab shift x optimal. dual_feasible p shift x s rows t basis one tab optimal;
}
