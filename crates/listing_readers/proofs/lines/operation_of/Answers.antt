use Rattle.std.proofs.Common.{◌∷◌, [], sym, ◌∙◌}
use Rattle.listing_definitions.specs.Text.{operation_text}
use Rattle.frac128.specs.declared.Op.TheVariants.{Add, Sub, Mul, Div}
use Rattle.listing_readers.proofs.Named.{named_is}
use Rattle.listing_readers.proofs.lines.operation_of.Goals as goal

pub returns : goal.returns
returns c = c.copied.ensures ∙ c.operation_among.ensures ∙ sym (named_is operation_text (Add ∷ Sub ∷ Mul ∷ Div ∷ []) c.args.word.now)
