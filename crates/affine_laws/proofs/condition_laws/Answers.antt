use Rattle.affine_laws.proofs.Lists.{stays, greatest, both_sides, strictly, reach}
use Rattle.affine_laws.proofs.condition_laws.Goals as goal

pub returns : goal.returns
returns c = record { stays = stays; greatest = greatest; both_sides = both_sides; ahead = greatest; strictly = strictly; reach = reach }
