use Rattle.std.proofs.Common.{◌∷◌, [], sym, ◌∙◌}
use Rattle.listing_definitions.specs.Text.{at_text}
use Rattle.listing_definitions.specs.declared.At.TheVariants.{Basic, Outside, Equal, Lower, Upper, Free}
use Rattle.listing_readers.proofs.Named.{named_is}
use Rattle.listing_readers.proofs.lines.code_of.Goals as goal

pub returns : goal.returns
returns c = c.copied.ensures ∙ c.code_among.ensures ∙ sym (named_is at_text (Basic ∷ Outside ∷ Equal ∷ Lower ∷ Upper ∷ Free ∷ []) c.args.word.now)
