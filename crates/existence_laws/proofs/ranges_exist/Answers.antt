use Rattle.existence_laws.proofs.Ranges.{ranges_exist}
use Rattle.existence_laws.proofs.ranges_exist.Goals as goal

pub returns : goal.returns
returns c = ranges_exist
