use Rattle.std.proofs.Common.{◌∙◌, ap₂}
use Rattle.exact_values.specs.Tests.{eq_ℚ}
use Rattle.listing_words.proofs.Sameness.{same_words}
use Rattle.listing_words.proofs.number.Number.is_equal.Goals as goal

pub returns : goal.returns
returns c =
    c.eq.ensures ∙ same_words c.self.inside.word.now c.other.inside.word.now c.self.invariant c.other.invariant
    ∙ ap₂ eq_ℚ c.self.view_is c.other.view_is
