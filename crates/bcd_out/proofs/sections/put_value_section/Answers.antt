use Rattle.std.proofs.Common.{map, rules}
use Rattle.bcd_out.specs.Lines.{entry_lines}
use Rattle.bcd_out.proofs.sections.put_value_section.Goals as goal

pub returns : goal.returns
returns g c = c.put_section.ensures (entry_lines (map (λ row. row.name) c.args.rows.now)) (λ before x result after met. search rules)
