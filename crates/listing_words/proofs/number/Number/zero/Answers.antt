use Rattle.exact_values.specs.Rational.{zero_ℚ}
use Rattle.std.proofs.Common.{[], ◌∷◌}
use Rattle.listing_words.proofs.Sameness.{zero_text, zero_spelled, text_again}
use Rattle.listing_words.proofs.number.Number.zero.Goals as goal

pub invariant_of-result : goal.invariant_of-result
invariant_of-result c = text_again (48 ∷ []) zero_ℚ zero_text zero_spelled

pub returns : goal.returns
returns c = zero_spelled
