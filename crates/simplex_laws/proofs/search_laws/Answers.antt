use Rattle.simplex_laws.proofs.Searches.{least_is, least_none, none_passes, found_passes, blocking_variable_is, blocking_variable_nothing}
use Rattle.simplex_laws.proofs.BlockingVariables.{blocking_variable_none, blocking_variable_some}
use Rattle.simplex_laws.proofs.search_laws.Goals as goal

pub returns : goal.returns
returns c = record {
  least_is = least_is;
  least_none = least_none;
  none_passes = none_passes;
  found_passes = found_passes;
  blocking_variable_is = blocking_variable_is;
  blocking_variable_nothing = blocking_variable_nothing;
  blocking_variable_none = blocking_variable_none;
  blocking_variable_some = blocking_variable_some;
}
