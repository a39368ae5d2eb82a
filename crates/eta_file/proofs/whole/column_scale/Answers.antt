use Rattle.std.proofs.Common.{sym, ◌∙◌}
use Rattle.exact_values.proofs.Inverse.{one_apart}
use Rattle.eta_file.proofs.whole.column_scale.Goals as goal

pub loop-entry-init : goal.loop-entry-init
loop-entry-init c none = one_apart (sym c.whole-scale.ensures ∙ none)
