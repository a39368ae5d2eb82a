use Rattle.std.proofs.Common.{rules}
use Rattle.bcd_out.specs.Lines.{column_lines}
use Rattle.bcd_out.proofs.sections.put_columns.Goals as goal

pub returns : goal.returns
returns g c = c.put_under.ensures (column_lines c.args.rows.now) (λ before x result after met. search rules)
