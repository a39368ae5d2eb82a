use Rattle.std.proofs.Common.{sym, ◌∙◌}
use Rattle.exact_values.proofs.Inverse.{one_apart}
use Rattle.eta_file.proofs.WholeSteps.{minus_one_apart}
use Rattle.eta_file.proofs.whole.sign_of_pivot.Goals as goal

pub returns-then-sign-lt0 : goal.returns-then-sign-lt0
returns-then-sign-lt0 c none = minus_one_apart (sym c.whole.ensures ∙ none)

pub returns-else-sign-lt0 : goal.returns-else-sign-lt0
returns-else-sign-lt0 c none = one_apart (sym c.whole-else-sign-lt0.ensures ∙ none)
