use Rattle.control_run.proofs.finish.finish_punch_cut.Goals as goal

pub returns-in-Failed-clause-finishes : goal.returns-in-Failed-clause-finishes
returns-in-Failed-clause-finishes g c = rw c.in-Failed.is c.finish_punch_fault.ensures.finishes

pub returns-in-NoMemory-clause-finishes : goal.returns-in-NoMemory-clause-finishes
returns-in-NoMemory-clause-finishes g c = rw c.in-NoMemory.is c.finish.ensures.finishes
