use Rattle.long_solutions.proofs.intervals.last_end.Goals as goal

pub returns : goal.returns
returns c = λ x columns is over. record {
  point = c.in_ok-point.ensures x columns.value.items columns.value_rate.items is over.value over.value_rate;
  prices = c.in_ok-prices.ensures x columns.price.items columns.price_rate.items is over.price over.price_rate;
}
