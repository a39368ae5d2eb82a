use Rattle.std.proofs.Common.{inl, arith}
use Rattle.reinversion.specs.Form.{form_of}
use Rattle.reinversion.proofs.Turns.{due_early, due_by_pivot}
use Rattle.reinversion.proofs.form.ProductForm.is_due.Goals as goal

pub returns-then-exchanges-ge-EXCHANGES-clause-due : goal.returns-then-exchanges-ge-EXCHANGES-clause-due
returns-then-exchanges-ge-EXCHANGES-clause-due c =
    rw (← c.self.view_is) (inl (omega (arith, c.if-exchanges-ge-EXCHANGES.true, c.self.invariant.short.few)))

pub returns-then-exchanges-lt-EXCHANGES_OF_LONG_NUMBERS-clause-due : goal.returns-then-exchanges-lt-EXCHANGES_OF_LONG_NUMBERS-clause-due
returns-then-exchanges-lt-EXCHANGES_OF_LONG_NUMBERS-clause-due c =
    rw (← c.self.view_is) (due_early (form_of c.self.inside) (omega (arith, c.if-exchanges-lt-EXCHANGES_OF_LONG_NUMBERS.true)))

pub returns-clause-due : goal.returns-clause-due
returns-clause-due c =
    rw (← c.self.view_is)
    (due_by_pivot c.has_long_pivot.result (form_of c.self.inside) (omega (arith, c.if-exchanges-ge-EXCHANGES.false))
    (omega (arith, c.if-exchanges-lt-EXCHANGES_OF_LONG_NUMBERS.false)) c.has_long_pivot.ensures)
