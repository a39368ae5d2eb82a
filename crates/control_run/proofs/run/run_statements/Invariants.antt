-- The run is underway.
use Rattle.std.proofs.Common.{◌-◌}
use Rattle.fitting_answers.specs.Real.{linear_programming_of_128_bits}
use Rattle.control_run.proofs.Underway.{IsUnderway}
use Rattle.control_run.proofs.run.run_statements.Given as goal

abbrev pub invariant-loop-position : goal.invariant-loop-position
invariant-loop-position g l =
    IsUnderway linear_programming_of_128_bits l.input.program.now l.input.cards.now (g.P.Sink.taken l.fn.print) (g.P.Sink.taken l.print)
    (g.U.Sink.taken l.fn.punch) (g.U.Sink.taken l.punch) l.machine l.position l.executed

abbrev pub decreases-loop-position : goal.decreases-loop-position
decreases-loop-position g l = 100000 - l.executed
