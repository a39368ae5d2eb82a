use Rattle.one_run_laws.proofs.OwnRuns.{answered, own_runs}
use Rattle.one_run_laws.proofs.one_run_laws.Goals as goal

pub returns : goal.returns
returns c = record { answered = answered; runs = own_runs }
