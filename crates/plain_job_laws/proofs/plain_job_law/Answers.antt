use Rattle.answer_definitions.specs.Real.{linear_programming}
use Rattle.plain_job_laws.proofs.Plain.{plain_meets_none}
use Rattle.plain_job_laws.proofs.plain_job_law.Goals as goal

pub returns : goal.returns
returns c = plain_meets_none linear_programming
