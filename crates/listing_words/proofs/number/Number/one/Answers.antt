use Rattle.exact_values.specs.Rational.{whole}
use Rattle.std.proofs.Common.{[], ◌∷◌, pos}
use Rattle.listing_words.proofs.Sameness.{one_text, one_spelled, text_again}
use Rattle.listing_words.proofs.number.Number.one.Goals as goal

pub invariant_of-result : goal.invariant_of-result
invariant_of-result c = text_again (49 ∷ []) (whole (pos 1)) one_text one_spelled

pub returns : goal.returns
returns c = one_spelled
