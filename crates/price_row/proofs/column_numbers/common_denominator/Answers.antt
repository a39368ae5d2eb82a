use Rattle.std.proofs.Common.{◌∙◌, sym}
use Rattle.exact_values.proofs.Inverse.{one_apart}
use Rattle.price_row.proofs.column_numbers.common_denominator.Goals as goal

pub loop-entry-init : goal.loop-entry-init
loop-entry-init c = λ none. one_apart (sym c.whole-denominator.ensures ∙ none)
