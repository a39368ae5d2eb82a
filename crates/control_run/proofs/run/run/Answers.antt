-- A machine at the start of the run.
use Rattle.control_run.proofs.run.run.Goals as goal

pub run_statements-requires-clause-start : goal.run_statements-requires-clause-start
run_statements-requires-clause-start g c = rw c.decks_from-decks_from.ensures at c.new-machine.ensures.start

pub run_statements-requires-clause-sound : goal.run_statements-requires-clause-sound
run_statements-requires-clause-sound g c = c.new-machine.ensures.sound
