use Rattle.fitting_answers.specs.Real.{linear_programming_of_128_bits}
use Rattle.control_run.proofs.Answering.{ended_by_end, ended_by_halt}
use Rattle.control_run.proofs.run.run_on.Goals as goal

pub returns-in-Ok : goal.returns-in-Ok
returns-in-Ok g c =
    ended_by_end linear_programming_of_128_bits c.args.program.now c.args.cards.now c.in-Ok.end c.in-Ok.ensures c.finish.ensures.finishes c.finish.ensures.own

pub returns-in-Err : goal.returns-in-Err
returns-in-Err g c =
    ended_by_halt linear_programming_of_128_bits c.args.program.now c.args.cards.now _ c.in-Err.halt c.in-Err.ensures c.finish_halted.ensures.finishes
    c.finish_halted.ensures.own
