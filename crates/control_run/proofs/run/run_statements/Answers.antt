-- The run goes on statement by statement, and ends.
use Rattle.std.proofs.Common.{arith}
use Rattle.fitting_answers.specs.Real.{linear_programming_of_128_bits}
use Rattle.control_run.proofs.Underway.{underway_first, underway_goes, underway_ends, underway_over, underway_at_limit, underway_halted}
use Rattle.control_run.proofs.run.run_statements.Goals as goal

pub loop-position-init : goal.loop-position-init
loop-position-init g c =
    underway_first linear_programming_of_128_bits c.args.input.program.now c.args.input.cards.now (g.P.Sink.taken c.args.print.now)
    (g.U.Sink.taken c.args.punch.now) c.args.machine.now c.requires.sound c.requires.start

pub returns-then-executed-ge-MAX_EXECUTED : goal.returns-then-executed-ge-MAX_EXECUTED
returns-then-executed-ge-MAX_EXECUTED g c =
    underway_at_limit linear_programming_of_128_bits c.args.input.program.now c.args.input.cards.now c.loop-position.invariant
    (omega (arith, c.count.ensures.count, c.loop-position-test.true)) (omega arith)

pub loop-position-preserved : goal.loop-position-preserved
loop-position-preserved g c =
    underway_goes linear_programming_of_128_bits c.args.input.program.now c.args.input.cards.now c.in-Ok-Goes.field-0 c.in-Ok-Goes.field-0-is
    c.loop-position.invariant (omega arith) c.step.ensures.sound c.in-Ok-Goes.ensures.steps

pub returns-in-Ok-Ends : goal.returns-in-Ok-Ends
returns-in-Ok-Ends g c =
    underway_ends linear_programming_of_128_bits c.args.input.program.now c.args.input.cards.now c.step.new.machine c.in-Ok-Ends.field-0 c.in-Ok-Ends.end
    c.in-Ok-Ends.field-0-is c.loop-position.invariant (omega arith) c.in-Ok-Ends.ensures.steps

pub returns-in-Err : goal.returns-in-Err
returns-in-Err g c =
    underway_halted linear_programming_of_128_bits c.args.input.program.now c.args.input.cards.now (g.P.Sink.taken c.step.new.print)
    (g.U.Sink.taken c.step.new.punch) c.step.new.machine c.in-Err.halt c.loop-position.invariant (omega arith) c.in-Err.ensures.steps

pub returns : goal.returns
returns g c =
    underway_over linear_programming_of_128_bits c.args.input.program.now c.args.input.cards.now c.loop-position.invariant
    (omega (arith, c.count.ensures.count, c.loop-position-test.false))
