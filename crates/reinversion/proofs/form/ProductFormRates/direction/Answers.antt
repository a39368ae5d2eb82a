use Rattle.std.proofs.Common.{sym, subst}
use Rattle.lp_model.specs.RatesState.{KeepsBasics}
use Rattle.eta_file.specs.Inverse.{file_state}
use Rattle.eta_file.proofs.ColumnLaws.{keeps_itself}
use Rattle.reinversion.proofs.form.ProductFormRates.direction.Goals as goal

pub returns-clause-kept : goal.returns-clause-kept
returns-clause-kept c =
    rw (← c.self.view_is)
    (subst (λ f. KeepsBasics (file_state c.self.inside.file) (file_state f)) (sym c.tested_direction.ensures.same) (keeps_itself c.self.inside.file))
