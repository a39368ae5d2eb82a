-- The statement at a position is followed.
use Rattle.std.proofs.Common.{◌-◌, refl}
use Rattle.control_verbs.specs.Views.{statement_view}
use Rattle.listing_walk.specs.Standing.{holding}
use Rattle.listing_walk.proofs.Sound.{sound_statement}
use Rattle.listing_walk.proofs.Stepping.{steps_next, steps_leaves, steps_jump, steps_found}
use Rattle.listing_walk.proofs.execute.step.Goals as goal

pub execute_with-requires-clause-verb : goal.execute_with-requires-clause-verb
execute_with-requires-clause-verb g c =
    sound_statement c.args.input.program.now (c.args.position - 1) (statement_view c.statement-next.result.now) c.requires.valid c.statement-next.ensures

pub returns-in-Ok-Next-clause-steps : goal.returns-in-Ok-Next-clause-steps
returns-in-Ok-Next-clause-steps g c =
    steps_next g.T.Checks.checker c.args.input.program.now c.args.input.cards.now c.args.position
    (statement_view c.statement-next.result.now) c.statement-next.ensures c.requires.within (holding c.args.last.now c.args.machine.now)
    (holding c.execute_with.new.last c.execute_with.new.machine) c.args.place.now c.execute_with.new.place
    (rw c.in-Ok-Next.field-0-is at c.in-Ok-Next.ensures.walks)

pub returns-in-Ok-Leaves-clause-steps : goal.returns-in-Ok-Leaves-clause-steps
returns-in-Ok-Leaves-clause-steps g c =
    steps_leaves g.T.Checks.checker c.args.input.program.now c.args.input.cards.now c.args.position
    (statement_view c.statement-next.result.now) c.statement-next.ensures c.requires.within (holding c.args.last.now c.args.machine.now)
    (holding c.execute_with.new.last c.execute_with.new.machine) c.args.place.now c.execute_with.new.place
    c.execute_with.new.last c.execute_with.new.machine refl c.in-Ok-Leaves.value (rw c.in-Ok-Leaves.field-0-is at c.in-Ok-Leaves.ensures.walks)

pub returns-in-Ok-Jump-clause-steps : goal.returns-in-Ok-Jump-clause-steps
returns-in-Ok-Jump-clause-steps g c =
    steps_jump g.T.Checks.checker c.args.input.program.now c.args.input.cards.now c.args.position
    (statement_view c.statement-next.result.now) c.statement-next.ensures c.requires.within (holding c.args.last.now c.args.machine.now)
    (holding c.execute_with.new.last c.execute_with.new.machine) c.args.place.now c.execute_with.new.place
    c.in-Ok-Jump.to (rw c.in-Ok-Jump.field-0-is at c.in-Ok-Jump.ensures.walks)

pub returns-in-Ok-Finds-clause-steps : goal.returns-in-Ok-Finds-clause-steps
returns-in-Ok-Finds-clause-steps g c =
    steps_found g.T.Checks.checker c.args.input.program.now c.args.input.cards.now c.args.position
    (statement_view c.statement-next.result.now) c.statement-next.ensures c.requires.within (holding c.args.last.now c.args.machine.now)
    (holding c.execute_with.new.last c.execute_with.new.machine) c.args.place.now c.execute_with.new.place
    c.in-Ok-Finds.found (rw c.in-Ok-Finds.field-0-is at c.in-Ok-Finds.ensures.walks)
