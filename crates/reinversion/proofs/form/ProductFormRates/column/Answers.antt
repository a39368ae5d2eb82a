use Rattle.reinversion.proofs.form.ProductFormRates.column.Goals as goal
use Rattle.eta_file.proofs.ColumnLaws.{keeps_itself}

pub returns-in_err-carry-clause-kept : goal.returns-in_err-carry-clause-kept
returns-in_err-carry-clause-kept c = rw (← c.self.view_is) (keeps_itself c.self.inside.file)

pub returns-clause-kept : goal.returns-clause-kept
returns-clause-kept c = rw (← c.self.view_is) (keeps_itself c.self.inside.file)
