use Rattle.std.proofs.Common.{map, rules}
use Rattle.bcd_out.specs.Lines.{item_line}
use Rattle.bcd_out.proofs.sections.put_items.Goals as goal

pub returns : goal.returns
returns g c =
    c.put_in_turn.ensures (item_line (map (λ row. row.name) c.args.rows.now) c.args.word.now c.args.name) (λ before x result after met. search rules)
