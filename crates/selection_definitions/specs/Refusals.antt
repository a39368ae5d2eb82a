-- What of a selection may be refused: the sum that a range makes, or a product or a sum of a combination.
use Rattle.std.specs.Prelude.{◌⊎◌, ℕ}
use Rattle.lp_definitions.specs.declared.Evidence.{Evidence}
use Rattle.problem_definitions.specs.Problem.{Problem}
use Rattle.selection_definitions.specs.Choice.{Choice}
use Rattle.selection_definitions.specs.RangeSums.{IsRangeRefusal}
use Rattle.selection_definitions.specs.CombinationSums.{IsCombinationRefusal}

abbrev pub IsSelectionRefusal : Problem ℕ → Choice → Evidence → Type 0
IsSelectionRefusal problem choice e = IsRangeRefusal problem choice e ⊎ IsCombinationRefusal problem e
