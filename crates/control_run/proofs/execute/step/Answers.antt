-- The statement at a position is executed.
use Rattle.std.proofs.Common.{◌-◌, arith}
use Rattle.std.proofs.lemmas.Result.{err_from_is_err_and}
use Rattle.control_verbs.specs.Views.{statement_view}
use Rattle.fitting_answers.specs.Real.{linear_programming_of_128_bits}
use Rattle.control_run.proofs.Sound.{sound_statement}
use Rattle.control_run.proofs.Stepping.{steps_to, steps_err}
use Rattle.control_run.proofs.execute.step.Goals as goal

pub execute-requires-clause-verb : goal.execute-requires-clause-verb
execute-requires-clause-verb g c =
    sound_statement c.args.input.program.now (c.args.position - 1) (statement_view c.statement-next.result.now) c.requires.valid c.statement-next.ensures

pub turn-requires : goal.turn-requires
turn-requires g c = omega (arith, c.requires.within, c.requires.valid.few)

pub returns-in_err-act-clause-steps : goal.returns-in_err-act-clause-steps
returns-in_err-act-clause-steps g c =
    let p = err_from_is_err_and c.from_residual.result c.from_residual.ensures.1 in
    rw (p.1, p.2)
    (steps_err linear_programming_of_128_bits c.args.input.program.now c.args.input.cards.now c.args.position
    (statement_view c.statement-next.result.now) c.statement-next.ensures c.args.machine.now c.execute.new.machine (g.P.Sink.taken c.args.print.now)
    (g.P.Sink.taken c.execute.new.print) (g.U.Sink.taken c.args.punch.now) (g.U.Sink.taken c.execute.new.punch) _ c.in_err-act.ensures.acts)

pub returns-clause-steps : goal.returns-clause-steps
returns-clause-steps g c =
    steps_to linear_programming_of_128_bits c.args.input.program.now c.args.input.cards.now c.args.position
    (statement_view c.statement-next.result.now) c.statement-next.ensures c.args.machine.now _ _ c.turn.result c.turn.ensures c.in_ok-act.ensures.acts
