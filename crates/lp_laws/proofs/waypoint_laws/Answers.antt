use Rattle.lp_laws.proofs.WaypointLaws.{keeps_then}
use Rattle.lp_laws.proofs.waypoint_laws.Goals as goal

pub returns : goal.returns
returns c = record { two_calls = keeps_then }
