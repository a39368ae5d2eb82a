use Rattle.control_run.specs.Finishing.{cut_off}
use Rattle.control_run.proofs.finish.finish_punch_fault.Goals as goal

pub returns-in-Err-clause-finishes : goal.returns-in-Err-clause-finishes
returns-in-Err-clause-finishes g c = cut_off c.in-Err.stop c.status_of_cut.ensures.cut c.in-Err.ensures
