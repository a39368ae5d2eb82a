use Rattle.control_run.proofs.finish.finish_halted.Goals as goal

pub returns-in-NoMemory-clause-finishes : goal.returns-in-NoMemory-clause-finishes
returns-in-NoMemory-clause-finishes g c = rw c.in-NoMemory.is c.finish.ensures.finishes
