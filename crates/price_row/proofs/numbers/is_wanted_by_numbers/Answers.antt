use Rattle.std.proofs.Common.{◌∙◌, sym}
use Rattle.price_row.proofs.WantedSigns.{nothing_there, basic_there, number_there}
use Rattle.price_row.proofs.numbers.is_wanted_by_numbers.Goals as goal
use Rattle.price_row.proofs.numbers.is_wanted_by_numbers.Goals.{then-is_nothing_wanted-via-then-is_nothing_wanted}
use Rattle.price_row.proofs.numbers.is_wanted_by_numbers.Goals.{then-is_nothing_wanted-via-else-is_nothing_wanted+then-is_basic}

pub returns-then-is_nothing_wanted : goal.returns-then-is_nothing_wanted
returns-then-is_nothing_wanted g c = λ denominator known is_up rates row. elim c.then-is_nothing_wanted.branch [
  | then-is_nothing_wanted-via-then-is_nothing_wanted w ↦
      nothing_there c.args.file.now c.args.sought.now.row c.args.place c.args.sought.now.wanted.now c.args.sought.now.up c.requires.within rates
      (c.is_nothing_wanted.ensures w.if-is_nothing_wanted.true)
  | then-is_nothing_wanted-via-else-is_nothing_wanted+then-is_basic w ↦
      basic_there c.args.file.now c.args.sought.now.row c.args.place c.args.sought.now.wanted.now c.args.sought.now.up c.requires.within rates
      (sym w.is_basic.ensures ∙ w.if-is_basic.true) row
]

pub returns : goal.returns
returns g c = λ denominator known is_up rates row.
    number_there c.args.file.now c.args.sought.now.row c.args.place c.args.sought.now.wanted.now c.args.sought.now.up c.requires.within rates
    (g.N.Numbers.fraction c.in_ok-number.number) c.as_fraction.result denominator c.args.up c.is_wanted_at.result known.apart
    (c.in_ok-number.ensures.value.over c.args.sought.now.row denominator c.requires.basic (sym c.is_basic.ensures ∙ c.if-is_basic.false) known)
    is_up c.as_fraction.ensures c.is_wanted_at.ensures row
