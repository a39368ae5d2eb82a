use Rattle.std.proofs.Common.{rules, ◌≡◌, ◌-◌, get_or}
use Rattle.eta_file.proofs.ColumnLaws.{rate_read}
use Rattle.eta_file.proofs.by_columns.rate_by_column.Goals as goal

pub returns-clause-value : goal.returns-clause-value
returns-clause-value c =
    let read : c.index.result.now ≡ get_or c.column_to.new.workspace.direction.items (c.args.i - 1) c.index.result.now = search rules in
    rate_read c.args.file.now c.args.i c.args.k c.index.result.now c.column_to.new.workspace.direction.items c.size-size.ensures.nonsingular c.requires.low
    c.requires.high c.is_basic.result c.is_basic.ensures c.if-is_basic.false
    c.column_to.ensures.places.direction c.in_ok-column_to.ensures.direction read
