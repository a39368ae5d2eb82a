use Rattle.std.proofs.Common.{◌∙◌, ap}
use Rattle.exact_values.specs.Rational.{whole}
use Rattle.frac128.proofs.Parts.{read_fitting}
use Rattle.price_row.proofs.WantedSigns.{number_there, rate_there}
use Rattle.price_row.proofs.is_wanted_by_multipliers.Goals as goal

pub returns-in-Some-clause-met : goal.returns-in-Some-clause-met
returns-in-Some-clause-met c = λ rates row.
    number_there c.args.file.now c.args.sought.now.row c.args.place c.args.sought.now.wanted.now c.args.sought.now.up c.requires.within rates
    (whole c.in-Some.number) c.whole.result c.column_number.new.denominator c.is_up_over-up.result c.is_wanted_at.result c.column_number.ensures.over.apart
    c.in-Some.ensures.rate c.is_up_over-up.ensures
    (c.whole.ensures ∙ ap whole (read_fitting c.in-Some.number c.in-Some.ensures.fits)) c.is_wanted_at.ensures row

pub returns-clause-met : goal.returns-clause-met
returns-clause-met c = λ rates row.
    rate_there c.args.file.now c.args.sought.now.row c.args.place c.args.sought.now.wanted.now c.args.sought.now.up c.requires.within rates
    c.in_ok-rate.rate c.is_wanted_at-2.result c.in_ok-rate.ensures.rate c.is_wanted_at-2.ensures row
