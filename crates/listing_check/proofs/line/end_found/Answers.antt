use Rattle.listing_check.specs.Devices.{cut_off}
use Rattle.listing_check.proofs.line.end_found.Goals as goal

pub returns-in-Err : goal.returns-in-Err
returns-in-Err g c = cut_off c.in-Err.stop c.status_of_cut.ensures c.in-Err.ensures
