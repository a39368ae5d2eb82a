use Rattle.reinversion.proofs.form.ProductFormRates.row.Goals as goal
use Rattle.eta_file.proofs.ColumnLaws.{keeps_itself}

pub returns-clause-kept : goal.returns-clause-kept
returns-clause-kept c = rw (← c.self.view_is) (keeps_itself c.self.inside.file)
