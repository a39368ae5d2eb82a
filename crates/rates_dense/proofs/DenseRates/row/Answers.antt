use Rattle.std.proofs.Common.{◌≡◌, ◌∙◌, Contains}
use Rattle.rates_dense.specs.Table.{inverse_of}
use Rattle.rates_dense.proofs.Tables.{row_filled}
use Rattle.rates_dense.proofs.DenseRates.row.Goals as goal

pub returns-clause-rates : goal.returns-clause-rates
returns-clause-rates c =
    let inverse = inverse_of c.self.inside in
    let one : Contains c.self.inside.lines.items c.line_of.result.now = rw c.deref-2.ensures.value at c.line_of.ensures.one in
    let copied : c.copy_from_slice.new.self ≡ c.line_of.result.now.rates.items = c.copy_from_slice.ensures.after ∙ c.deref-3.ensures.value in
    rw (← c.self.view_is, copied)
    (row_filled inverse.matrix inverse.basics c.self.inside.slots.items c.self.inside.lines.items c.self.inside.quotients.items c.self.invariant.0
    c.line_of.result.now c.args.i one c.line_of.ensures.own)
