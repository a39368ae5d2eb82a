use Rattle.std.proofs.Common.{map, rules}
use Rattle.bcd_out.specs.Lines.{row_lines}
use Rattle.bcd_out.proofs.sections.put_rows.Goals as goal

pub returns : goal.returns
returns g c = c.put_under.ensures (row_lines (map (λ row. row.name) c.args.rows.now)) (λ before x result after met. search rules)
