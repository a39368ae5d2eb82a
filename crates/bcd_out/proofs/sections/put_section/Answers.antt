use Rattle.std.proofs.Common.{rules}
use Rattle.bcd_out.proofs.sections.put_section.Goals as goal

pub returns-then-is_empty : goal.returns-then-is_empty
returns-then-is_empty g c = λ lines writes. search rules

pub returns : goal.returns
returns g c = λ lines writes. let all = c.put_under.ensures lines writes in search rules
