use Rattle.lp_laws.proofs.Uniqueness.{one_table}
use Rattle.lp_laws.proofs.Exchange.{IsNonsingular-exchanged, AreRates-exchanged}
use Rattle.lp_laws.proofs.Combination.{by_nonbasics, KeepsEquations-from_nonbasics, multiplier_on_column}
use Rattle.lp_laws.proofs.Opening.{IsNonsingular-row_basics, AreRates-opening}
use Rattle.lp_laws.proofs.Ordered.{combination_in_order, carried_back}
use Rattle.lp_laws.proofs.rates_laws.Goals as goal

pub returns : goal.returns
returns c = record {
  rows_nonsingular = IsNonsingular-row_basics;
  rows_rates = AreRates-opening;
  one_table = one_table;
  exchanged_nonsingular = IsNonsingular-exchanged;
  exchanged_rates = λ a b one rate are p q. AreRates-exchanged a b one.counted rate are p q;
  by_nonbasics = by_nonbasics;
  from_nonbasics = KeepsEquations-from_nonbasics;
  row_vanishes = multiplier_on_column;
  in_order = combination_in_order;
  carried_back = carried_back;
}
