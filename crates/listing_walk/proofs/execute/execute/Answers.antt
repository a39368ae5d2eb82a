-- What each statement comes to.
use Rattle.control_definitions.specs.Program as program
use Rattle.listing_walk.proofs.Stating.{plain_initialz, plain_name, plain_number, plain_limit, plain_demand, plain_goto, plain_exit, walks_quietly}
use Rattle.listing_walk.proofs.execute.execute.Goals as goal

pub returns-in-Initialz-clause-walks : goal.returns-in-Initialz-clause-walks
returns-in-Initialz-clause-walks g c =
    rw c.in-Initialz.is
    (walks_quietly g.T.Checks.checker program.Initialz c.args.statement.now.card c.args.cards.now c.args.machine.now c.initialize.new.self
    c.args.place.now c.quietly.new.place c.initialize.result (plain_initialz c.args.statement.now.card) (c.initialize.ensures.acts
    c.args.statement.now.card) c.quietly.result c.quietly.ensures.passes)

pub returns-in-MoveName-clause-walks : goal.returns-in-MoveName-clause-walks
returns-in-MoveName-clause-walks g c =
    rw c.in-MoveName.is
    (walks_quietly g.T.Checks.checker
    (program.MoveName c.in-MoveName.cell c.in-MoveName.name) c.args.statement.now.card c.args.cards.now c.args.machine.now c.move_name.new.self
    c.args.place.now c.quietly-in-MoveName.new.place c.move_name.result (plain_name c.in-MoveName.cell c.in-MoveName.name c.args.statement.now.card)
    (c.move_name.ensures.acts c.args.statement.now.card) c.quietly-in-MoveName.result c.quietly-in-MoveName.ensures.passes)

pub returns-in-MoveNumber-clause-walks : goal.returns-in-MoveNumber-clause-walks
returns-in-MoveNumber-clause-walks g c =
    rw c.in-MoveNumber.is
    (walks_quietly g.T.Checks.checker
    (program.MoveNumber c.in-MoveNumber.cell c.in-MoveNumber.value) c.args.statement.now.card c.args.cards.now c.args.machine.now c.move_number.new.self
    c.args.place.now c.quietly-in-MoveNumber.new.place c.move_number.result (plain_number c.in-MoveNumber.cell c.in-MoveNumber.value
    c.args.statement.now.card) (c.move_number.ensures.acts c.args.statement.now.card) c.quietly-in-MoveNumber.result
    c.quietly-in-MoveNumber.ensures.passes)

pub returns-in-MoveLimit-clause-walks : goal.returns-in-MoveLimit-clause-walks
returns-in-MoveLimit-clause-walks g c =
    rw c.in-MoveLimit.is
    (walks_quietly g.T.Checks.checker
    (program.MoveLimit c.in-MoveLimit.limit) c.args.statement.now.card c.args.cards.now c.args.machine.now c.move_limit.new.self c.args.place.now
    c.quietly-in-MoveLimit.new.place c.move_limit.result (plain_limit c.in-MoveLimit.limit c.args.statement.now.card) (c.move_limit.ensures.acts
    c.args.statement.now.card) c.quietly-in-MoveLimit.result c.quietly-in-MoveLimit.ensures.passes)

pub returns-in-Mvadr-clause-walks : goal.returns-in-Mvadr-clause-walks
returns-in-Mvadr-clause-walks g c =
    rw c.in-Mvadr.is
    (walks_quietly g.T.Checks.checker
    (program.Mvadr c.in-Mvadr.demand c.in-Mvadr.position) c.args.statement.now.card c.args.cards.now c.args.machine.now c.set_demand-act.new.self
    c.args.place.now c.quietly-in-Mvadr.new.place c.set_demand-act.result (plain_demand c.in-Mvadr.demand c.in-Mvadr.position c.args.statement.now.card)
    (c.set_demand-act.ensures.acts c.args.statement.now.card) c.quietly-in-Mvadr.result c.quietly-in-Mvadr.ensures.passes)

pub returns-in-Goto-clause-walks : goal.returns-in-Goto-clause-walks
returns-in-Goto-clause-walks g c =
    rw c.in-Goto.is
    (walks_quietly g.T.Checks.checker
    (program.Goto c.in-Goto.position) c.args.statement.now.card c.args.cards.now c.args.machine.now c.args.machine.now c.args.place.now
    c.quietly-in-Goto.new.place c.jump.result (plain_goto c.in-Goto.position c.args.statement.now.card) (c.jump.ensures c.args.statement.now.card)
    c.quietly-in-Goto.result c.quietly-in-Goto.ensures.passes)

pub returns-in-Exit-clause-walks : goal.returns-in-Exit-clause-walks
returns-in-Exit-clause-walks g c =
    rw c.in-Exit.is
    (walks_quietly g.T.Checks.checker program.Exit c.args.statement.now.card c.args.cards.now c.args.machine.now c.args.machine.now c.args.place.now
    c.quietly-in-Exit.new.place c.exit.result (plain_exit c.args.statement.now.card) (c.exit.ensures c.args.statement.now.card)
    c.quietly-in-Exit.result c.quietly-in-Exit.ensures.passes)
