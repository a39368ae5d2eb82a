-- What is taken decides what follows.
use Rattle.std.proofs.Common.{sym}
use Rattle.run_definitions.specs.State.{choice_of}
use Rattle.listing_walk.proofs.Selected.{as_many_rows, as_many_columns, no_change}
use Rattle.listing_walk.proofs.ViewsWalks.{solution_no_setup, solution_not_solved, solution_view, solution_stopped, selected_now}
use Rattle.listing_walk.proofs.SolvingWalks.{stays_on_file}
use Rattle.listing_walk.proofs.solution.show_solution.Goals as goal

pub problem_on_file-problem-requires : goal.problem_on_file-problem-requires
problem_on_file-problem-requires g c =
    stays_on_file c.args.machine.now.file c.args.machine.now.setup c.in-Some.chosen c.in-Some.is c.requires.ready

pub returns-in_default-clause-walks : goal.returns-in_default-clause-walks
returns-in_default-clause-walks g c =
    λ cards. solution_no_setup g.T.Checks.checker c.args.card cards c.args.machine.now c.args.place.now c.fault.new.place c.in_default.is c.fault.result
    c.fault.ensures.passes

pub returns-in_default-mark-clause-walks : goal.returns-in_default-mark-clause-walks
returns-in_default-mark-clause-walks g c = λ cards.
    solution_not_solved g.T.Checks.checker c.args.card cards c.args.machine.now c.args.place.now c.fault-in_default-mark.new.place c.in-Some.chosen
    c.in-Some.is c.in_default-mark.is c.fault-in_default-mark.result c.fault-in_default-mark.ensures.passes

pub answer_solution-requires-clause-sheet : goal.answer_solution-requires-clause-sheet
answer_solution-requires-clause-sheet g c =
    let ok =
    selected_now c.args.machine.now c.in-Some.chosen c.in-Some.is c.in-Some-mark.mark c.in-Some-mark.is c.problem_on_file-problem.result.now
    c.problem_on_file-problem.ensures c.requires.solved in
    record {
      rows = as_many_rows c.problem_on_file-problem.result.now (choice_of c.args.machine.now.cells c.in-Some.chosen.options) c.in-Some.chosen.lp ok;
      columns = as_many_columns c.problem_on_file-problem.result.now (choice_of c.args.machine.now.cells c.in-Some.chosen.options) c.in-Some.chosen.lp ok;
    }

pub answer_solution-requires-clause-no_change : goal.answer_solution-requires-clause-no_change
answer_solution-requires-clause-no_change g c =
    no_change c.problem_on_file-problem.result.now (choice_of c.args.machine.now.cells c.in-Some.chosen.options) c.in-Some.chosen.lp
    (selected_now c.args.machine.now c.in-Some.chosen c.in-Some.is c.in-Some-mark.mark c.in-Some-mark.is c.problem_on_file-problem.result.now
    c.problem_on_file-problem.ensures c.requires.solved)

pub returns-in-Ok-clause-walks : goal.returns-in-Ok-clause-walks
returns-in-Ok-clause-walks g c = λ cards.
    solution_view g.T.Checks.checker c.args.card cards c.args.machine.now c.args.place.now c.answer_solution.new.place c.in-Some.chosen c.in-Some.is
    c.in-Some-mark.mark c.in-Some-mark.is c.problem_on_file-problem.result.now c.problem_on_file-problem.ensures c.requires.solved
    c.in-Ok.ensures.answered

pub returns-in-Err-clause-walks : goal.returns-in-Err-clause-walks
returns-in-Err-clause-walks g c = λ cards.
    solution_stopped g.T.Checks.checker c.args.card cards c.args.machine.now c.args.place.now c.answer_solution.new.place c.in-Some.chosen c.in-Some.is
    c.in-Some-mark.mark c.in-Some-mark.is c.problem_on_file-problem.result.now c.problem_on_file-problem.ensures c.requires.solved
    c.in-Err.stopped c.in-Err.ensures.answered c.stop_walk.result c.stop_walk.ensures
