-- All that is judged right is true.
use Rattle.interval_laws.specs.Laws.{BetweenLaws, PastLaws}
use Rattle.walk_laws.specs.Judged.{JudgedLaws}
use Rattle.walk_laws.proofs.Solution.{solution_is_true}
use Rattle.walk_laws.proofs.Verdicts.{verdict_is_true, dual_is_not_unbounded}
use Rattle.walk_laws.proofs.Openings.{opening_is_true}
use Rattle.walk_laws.proofs.Chains.{chain_is_true}
use Rattle.walk_definitions.specs.Checkers.{Checker}

pub judged_is_true : (C : Checker) → BetweenLaws → PastLaws → JudgedLaws C
judged_is_true C between past = record {
  solution = solution_is_true C;
  verdict = verdict_is_true C;
  dual = dual_is_not_unbounded C;
  opening =
      λ parametric_run sheet rest after bases verdict check lawful may e. opening_is_true C sheet parametric_run rest after bases verdict check lawful may e;
  chain =
      λ parametric_run sheet rest after bases intervals end lawful may e. chain_is_true C between past sheet parametric_run lawful may rest after bases
      intervals end e;
}
