-- What each statement comes to.
use Rattle.control_definitions.specs.Program as program
use Rattle.fitting_answers.specs.Real.{linear_programming_of_128_bits}
use Rattle.run_definitions.specs.Moves.{Gives}
use Rattle.run_machine.proofs.Punching.{punches_nothing}
use Rattle.setup_verbs.specs.Standing.{IsPresent}
use Rattle.setup_verbs.proofs.Settling as settled
use Rattle.control_run.proofs.execute.execute.Goals as goal

pub returns-in-Initialz-clause-acts : goal.returns-in-Initialz-clause-acts
returns-in-Initialz-clause-acts g c =
    rw c.in-Initialz.is
    (settled.decides IsPresent linear_programming_of_128_bits program.Initialz c.args.statement.now.card (g.P.Sink.taken c.args.print.now)
    (g.U.Sink.taken c.args.punch.now) c.args.cards.now c.args.machine.now _ c.initialize.result (c.initialize.ensures.acts c.args.statement.now.card))

pub returns-in-MoveName-clause-acts : goal.returns-in-MoveName-clause-acts
returns-in-MoveName-clause-acts g c =
    rw c.in-MoveName.is
    (settled.decides IsPresent linear_programming_of_128_bits (program.MoveName c.in-MoveName.cell c.in-MoveName.name) c.args.statement.now.card
    (g.P.Sink.taken c.args.print.now) (g.U.Sink.taken c.args.punch.now) c.args.cards.now c.args.machine.now _ c.move_name.result
    (c.move_name.ensures.acts c.args.statement.now.card))

pub returns-in-MoveNumber-clause-acts : goal.returns-in-MoveNumber-clause-acts
returns-in-MoveNumber-clause-acts g c =
    rw c.in-MoveNumber.is
    (settled.decides IsPresent linear_programming_of_128_bits (program.MoveNumber c.in-MoveNumber.cell c.in-MoveNumber.value) c.args.statement.now.card
    (g.P.Sink.taken c.args.print.now) (g.U.Sink.taken c.args.punch.now) c.args.cards.now c.args.machine.now _ c.move_number.result
    (c.move_number.ensures.acts c.args.statement.now.card))

pub returns-in-MoveLimit-clause-acts : goal.returns-in-MoveLimit-clause-acts
returns-in-MoveLimit-clause-acts g c =
    rw c.in-MoveLimit.is
    (settled.decides IsPresent linear_programming_of_128_bits (program.MoveLimit c.in-MoveLimit.limit) c.args.statement.now.card
    (g.P.Sink.taken c.args.print.now) (g.U.Sink.taken c.args.punch.now) c.args.cards.now c.args.machine.now _ c.move_limit.result
    (c.move_limit.ensures.acts c.args.statement.now.card))

pub returns-in-Mvadr-clause-acts : goal.returns-in-Mvadr-clause-acts
returns-in-Mvadr-clause-acts g c =
    rw c.in-Mvadr.is
    (settled.decides IsPresent linear_programming_of_128_bits (program.Mvadr c.in-Mvadr.demand c.in-Mvadr.position) c.args.statement.now.card
    (g.P.Sink.taken c.args.print.now) (g.U.Sink.taken c.args.punch.now) c.args.cards.now c.args.machine.now _ c.set_demand.result
    (c.set_demand.ensures.acts c.args.statement.now.card))

pub returns-in-Goto-clause-acts : goal.returns-in-Goto-clause-acts
returns-in-Goto-clause-acts g c =
    rw c.in-Goto.is
    (settled.decides IsPresent linear_programming_of_128_bits (program.Goto c.in-Goto.position) c.args.statement.now.card (g.P.Sink.taken c.args.print.now)
    (g.U.Sink.taken c.args.punch.now) c.args.cards.now c.args.machine.now _ c.jump.result (c.jump.ensures c.args.statement.now.card))

pub returns-in-Exit-clause-acts : goal.returns-in-Exit-clause-acts
returns-in-Exit-clause-acts g c =
    rw c.in-Exit.is
    (settled.decides IsPresent linear_programming_of_128_bits program.Exit c.args.statement.now.card (g.P.Sink.taken c.args.print.now)
    (g.U.Sink.taken c.args.punch.now) c.args.cards.now c.args.machine.now _ c.exit.result (c.exit.ensures c.args.statement.now.card))

pub returns-in-Title-clause-acts : goal.returns-in-Title-clause-acts
returns-in-Title-clause-acts g c =
    rw c.in-Title.is
    (punches_nothing (g.U.Sink.taken c.args.punch.now) IsPresent (Gives linear_programming_of_128_bits) _ c.args.statement.now.card
    (g.P.Sink.taken c.args.print.now) (g.P.Sink.taken c.print_title.new.print) c.args.cards.now c.args.machine.now c.args.machine.now c.print_title.result
    (settled.executes IsPresent linear_programming_of_128_bits _ c.args.statement.now.card (g.P.Sink.taken c.args.print.now)
    (g.P.Sink.taken c.print_title.new.print) c.args.cards.now c.args.machine.now c.args.machine.now c.print_title.result
    (c.print_title.ensures c.args.statement.now.card c.args.cards.now)))

pub returns-in-Convert-clause-acts : goal.returns-in-Convert-clause-acts
returns-in-Convert-clause-acts g c =
    rw c.in-Convert.is
    (punches_nothing (g.U.Sink.taken c.args.punch.now) IsPresent (Gives linear_programming_of_128_bits) program.Convert c.args.statement.now.card
    (g.P.Sink.taken c.args.print.now) (g.P.Sink.taken c.make_problem.new.print) c.args.cards.now c.args.machine.now c.make_problem.new.self
    c.make_problem.result
    (settled.executes IsPresent linear_programming_of_128_bits program.Convert c.args.statement.now.card (g.P.Sink.taken c.args.print.now)
    (g.P.Sink.taken c.make_problem.new.print) c.args.cards.now c.args.machine.now c.make_problem.new.self c.make_problem.result (c.make_problem.ensures.acts)))

pub returns-in-Revise-clause-acts : goal.returns-in-Revise-clause-acts
returns-in-Revise-clause-acts g c =
    rw c.in-Revise.is
    (punches_nothing (g.U.Sink.taken c.args.punch.now) IsPresent (Gives linear_programming_of_128_bits) program.Revise c.args.statement.now.card
    (g.P.Sink.taken c.args.print.now) (g.P.Sink.taken c.make_problem-in-Revise.new.print) c.args.cards.now c.args.machine.now
    c.make_problem-in-Revise.new.self c.make_problem-in-Revise.result
    (settled.executes IsPresent linear_programming_of_128_bits program.Revise c.args.statement.now.card (g.P.Sink.taken c.args.print.now)
    (g.P.Sink.taken c.make_problem-in-Revise.new.print) c.args.cards.now c.args.machine.now c.make_problem-in-Revise.new.self c.make_problem-in-Revise.result
    (c.make_problem-in-Revise.ensures.acts)))

pub returns-in-Setup-clause-acts : goal.returns-in-Setup-clause-acts
returns-in-Setup-clause-acts g c =
    rw c.in-Setup.is
    (punches_nothing (g.U.Sink.taken c.args.punch.now) IsPresent (Gives linear_programming_of_128_bits) _ c.args.statement.now.card
    (g.P.Sink.taken c.args.print.now) (g.P.Sink.taken c.set_up.new.print) c.args.cards.now c.args.machine.now c.set_up.new.machine c.set_up.result
    (c.set_up.ensures.acts c.args.cards.now))

pub returns-in-Primal-clause-acts : goal.returns-in-Primal-clause-acts
returns-in-Primal-clause-acts g c =
    rw c.in-Primal.is
    (punches_nothing (g.U.Sink.taken c.args.punch.now) IsPresent (Gives linear_programming_of_128_bits) program.Primal c.args.statement.now.card
    (g.P.Sink.taken c.args.print.now) (g.P.Sink.taken c.solve.new.print) c.args.cards.now c.args.machine.now c.solve.new.machine c.solve.result
    (c.solve.ensures.acts c.args.cards.now))

pub returns-in-Dual-clause-acts : goal.returns-in-Dual-clause-acts
returns-in-Dual-clause-acts g c =
    rw c.in-Dual.is
    (punches_nothing (g.U.Sink.taken c.args.punch.now) IsPresent (Gives linear_programming_of_128_bits) program.Dual c.args.statement.now.card
    (g.P.Sink.taken c.args.print.now)
    (g.P.Sink.taken c.solve-in-Dual.new.print) c.args.cards.now c.args.machine.now c.solve-in-Dual.new.machine c.solve-in-Dual.result
    (c.solve-in-Dual.ensures.acts c.args.cards.now))

pub returns-in-Solution-clause-acts : goal.returns-in-Solution-clause-acts
returns-in-Solution-clause-acts g c =
    rw c.in-Solution.is
    (punches_nothing (g.U.Sink.taken c.args.punch.now) IsPresent (Gives linear_programming_of_128_bits) program.Solution c.args.statement.now.card
    (g.P.Sink.taken c.args.print.now)
    (g.P.Sink.taken c.show_present.new.print) c.args.cards.now c.args.machine.now c.show_present.new.machine c.show_present.result
    (c.show_present.ensures.acts c.args.cards.now))

pub returns-in-Ranging-clause-acts : goal.returns-in-Ranging-clause-acts
returns-in-Ranging-clause-acts g c =
    rw c.in-Ranging.is
    (punches_nothing (g.U.Sink.taken c.args.punch.now) IsPresent (Gives linear_programming_of_128_bits) program.Ranging c.args.statement.now.card
    (g.P.Sink.taken c.args.print.now)
    (g.P.Sink.taken c.show_present-in-Ranging.new.print) c.args.cards.now c.args.machine.now c.show_present-in-Ranging.new.machine
    c.show_present-in-Ranging.result
    (c.show_present-in-Ranging.ensures.acts c.args.cards.now))

pub returns-in-Paraobj-clause-acts : goal.returns-in-Paraobj-clause-acts
returns-in-Paraobj-clause-acts g c =
    rw c.in-Paraobj.is
    (punches_nothing (g.U.Sink.taken c.args.punch.now) IsPresent (Gives linear_programming_of_128_bits) program.Paraobj c.args.statement.now.card
    (g.P.Sink.taken c.args.print.now)
    (g.P.Sink.taken c.show_parametric_run.new.print) c.args.cards.now c.args.machine.now c.show_parametric_run.new.machine c.show_parametric_run.result
    (c.show_parametric_run.ensures.acts c.args.cards.now))

pub returns-in-Pararhs-clause-acts : goal.returns-in-Pararhs-clause-acts
returns-in-Pararhs-clause-acts g c =
    rw c.in-Pararhs.is
    (punches_nothing (g.U.Sink.taken c.args.punch.now) IsPresent (Gives linear_programming_of_128_bits) program.Pararhs c.args.statement.now.card
    (g.P.Sink.taken c.args.print.now)
    (g.P.Sink.taken c.show_parametric_run-in-Pararhs.new.print) c.args.cards.now c.args.machine.now c.show_parametric_run-in-Pararhs.new.machine
    c.show_parametric_run-in-Pararhs.result
    (c.show_parametric_run-in-Pararhs.ensures.acts c.args.cards.now))

pub returns-in-Bcdout-clause-acts : goal.returns-in-Bcdout-clause-acts
returns-in-Bcdout-clause-acts g c =
    rw c.in-Bcdout.is
    (settled.performs IsPresent linear_programming_of_128_bits program.Bcdout c.args.statement.now.card (g.P.Sink.taken c.args.print.now)
    (g.P.Sink.taken c.punch_problem.new.print) (g.U.Sink.taken c.args.punch.now)
    (g.U.Sink.taken c.punch_problem.new.punch) c.args.cards.now c.args.machine.now c.args.machine.now c.punch_problem.result
    (c.punch_problem.ensures c.args.cards.now))

pub returns-in-Punch-clause-acts : goal.returns-in-Punch-clause-acts
returns-in-Punch-clause-acts g c = rw c.in-Punch.is (c.punch_present.ensures c.args.cards.now)

pub returns-in-Insert-clause-acts : goal.returns-in-Insert-clause-acts
returns-in-Insert-clause-acts g c =
    rw c.in-Insert.is
    (punches_nothing (g.U.Sink.taken c.args.punch.now) IsPresent (Gives linear_programming_of_128_bits) program.Insert c.args.statement.now.card
    (g.P.Sink.taken c.args.print.now)
    (g.P.Sink.taken c.insert_basis.new.print) c.args.cards.now c.args.machine.now c.insert_basis.new.machine c.insert_basis.result
    (c.insert_basis.ensures.acts))
