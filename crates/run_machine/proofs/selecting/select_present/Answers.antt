use Rattle.run_definitions.specs.State.{choice_of}
use Rattle.run_machine.proofs.Unselected.{unselected_by}
use Rattle.run_machine.proofs.selecting.select_present.Goals as goal

pub returns-in-Err-clause-refused : goal.returns-in-Err-clause-refused
returns-in-Err-clause-refused c =
    unselected_by c.args.problem.now c.present_choice-choice.result
    (choice_of c.args.cells.now c.args.options) c.in-Err.stop c.refusal_of.result c.present_choice-choice.ensures c.refusal_of.ensures
    c.in-Err.ensures.fault c.in-Err.ensures.overflow
