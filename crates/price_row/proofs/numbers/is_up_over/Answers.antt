use Rattle.std.proofs.Common.{rules, ◌∙◌}
use Rattle.std.specs.Int.{w8}
use Rattle.std.proofs.lemmas.Int.{to_z-of_z}
use Rattle.price_row.proofs.WantedSigns.{up_over_is}
use Rattle.price_row.proofs.numbers.is_up_over.Goals as goal

pub returns : goal.returns
returns c = up_over_is c.args.up c.args.denominator _ (to_z-of_z w8 c.sign.result (search rules) ∙ c.sign.ensures.value)
