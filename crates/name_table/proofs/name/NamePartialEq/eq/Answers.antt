use Rattle.std.proofs.Common.{◌∙◌}
use Rattle.card_definitions.proofs.Places.{same_in_places}
use Rattle.name_table.proofs.name.NamePartialEq.eq.Goals as goal

pub returns : goal.returns
returns c = rw (← c.self.view_is, ← c.other.view_is) (c.eq.ensures ∙ same_in_places 8 _ _ c.self.told c.other.told)
