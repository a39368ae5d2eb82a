use Rattle.std.proofs.Common.{sym, ap, ◌∙◌}
use Rattle.listing_definitions.specs.Numbers.{rational_text}
use Rattle.walk_definitions.specs.Words.{spelled}
use Rattle.walk_definitions.proofs.Numbers.{fraction_spells}
use Rattle.listing_walk.proofs.asked_runs.first_value.Goals as goal

pub new-requires : goal.new-requires
new-requires c = let is = c.requires.1 in ap rational_text (ap spelled is ∙ fraction_spells c.requires.0) ∙ sym is

pub returns-in-Some : goal.returns-in-Some
returns-in-Some c = λ value is. rw c.in-Some.is c.again.ensures

pub returns-in-None : goal.returns-in-None
returns-in-None c = λ value is. rw c.in-None.is (c.new.ensures ∙ ap spelled is ∙ fraction_spells value)
