use Rattle.lp_laws.proofs.Functionals.{functional_by_columns, same_columns, same_functionals}
use Rattle.lp_laws.proofs.Entries.{sum_of_entries}
use Rattle.lp_laws.proofs.functional_laws.Goals as goal

pub returns : goal.returns
returns c = record {
  by_columns = functional_by_columns;
  same = λ a y w. (same_functionals a y w, same_columns a y w);
  of_entries = sum_of_entries;
}
