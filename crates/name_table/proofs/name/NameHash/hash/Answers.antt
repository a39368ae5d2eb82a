use Rattle.card_definitions.proofs.Places.{padded-text_in}
use Rattle.name_table.proofs.name.NameHash.hash.Goals as goal

pub returns : goal.returns
returns g c = rw (← c.self.view_is, padded-text_in 8 c.self.inside.places c.self.told) c.hash.ensures
