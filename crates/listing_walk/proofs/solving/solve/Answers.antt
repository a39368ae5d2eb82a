-- What is selected, and what is taken, decides what follows.
use Rattle.std.proofs.Common.{sym, ap, ◌∙◌}
use Rattle.run_definitions.specs.State.{choice_of}
use Rattle.run_machine.specs.declared.finding.Finding.TheVariants.{Ended}
use Rattle.run_machine.specs.declared.machine.Machine.{Machine}
use Rattle.run_machine.specs.Findings.{act_of}
use Rattle.listing_walk.specs.declared.chosen.Chosen.{Chosen}
use Rattle.listing_walk.proofs.Selected.{as_many_rows, as_many_columns, no_change}
use Rattle.listing_walk.proofs.VerdictWalks.{solving_no_setup, solving_refused, solving_stopped_by, solving_ended, solving_sound}
use Rattle.listing_walk.proofs.SolvingWalks.{stays_on_file}
use Rattle.listing_walk.proofs.solving.solve.Goals as goal

pub problem_on_file-problem-requires : goal.problem_on_file-problem-requires
problem_on_file-problem-requires g c =
    stays_on_file c.args.machine.now.file c.args.machine.now.setup c.in-Some.chosen c.in-Some.is c.requires.ready

pub returns-in_default-clause-walks : goal.returns-in_default-clause-walks
returns-in_default-clause-walks g c =
    λ cards. solving_no_setup g.T.Checks.checker c.args.verb c.args.card cards c.args.machine.now c.args.place.now c.fault.new.place c.in_default.is
    c.fault.result c.fault.ensures.passes

pub returns-in-Err-clause-walks : goal.returns-in-Err-clause-walks
returns-in-Err-clause-walks g c = λ cards.
    solving_refused g.T.Checks.checker c.args.verb c.args.card cards c.args.machine.now c.args.place.now c.refuse.new.place c.in-Some.chosen c.in-Some.is
    c.problem_on_file-problem.result.now c.problem_on_file-problem.ensures c.unchecked-found.result c.unchecked-found.ensures c.in-Err.refusal
    c.in-Err.ensures.refused c.refuse.result c.refuse.ensures.refuses

pub answer_path-requires-clause-sheet : goal.answer_path-requires-clause-sheet
answer_path-requires-clause-sheet g c = record {
  rows = as_many_rows c.problem_on_file-problem.result.now (choice_of c.args.machine.now.cells c.in-Some.chosen.options) c.in-Ok.lp
      c.in-Ok.ensures.made.is_selected;
  columns = as_many_columns c.problem_on_file-problem.result.now (choice_of c.args.machine.now.cells c.in-Some.chosen.options) c.in-Ok.lp
      c.in-Ok.ensures.made.is_selected;
}

pub answer_path-requires-clause-no_change : goal.answer_path-requires-clause-no_change
answer_path-requires-clause-no_change g c =
    no_change c.problem_on_file-problem.result.now (choice_of c.args.machine.now.cells c.in-Some.chosen.options) c.in-Ok.lp c.in-Ok.ensures.made.is_selected

pub returns-in-Err-answer_path-clause-walks : goal.returns-in-Err-answer_path-clause-walks
returns-in-Err-answer_path-clause-walks g c = λ cards.
    solving_stopped_by g.T.Checks.checker c.args.verb c.args.card cards c.args.machine.now c.args.place.now c.answer_path.new.place c.in-Some.chosen
    c.in-Some.is c.problem_on_file-problem.result.now c.problem_on_file-problem.ensures c.in-Ok.lp c.in-Ok.ensures.made
    c.solver_of.result c.solver_of.ensures c.args.machine.now c.in-Err-answer_path.stopped c.in-Err-answer_path.ensures.answered c.stop_walk.result
    c.stop_walk.ensures

pub returns-clause-walks : goal.returns-clause-walks
returns-clause-walks g c = λ cards.
    solving_ended g.T.Checks.checker c.args.verb c.args.card cards c.args.machine.now c.args.place.now c.finish.new.place c.in-Some.chosen c.in-Some.is
    c.problem_on_file-problem.result.now c.problem_on_file-problem.ensures c.in-Ok.lp c.in-Ok.ensures.made
    c.requires.demands c.in-Ok-answer_path.mark c.answer_path.new.place
    (λ limit. rw c.solver_of.ensures at (c.in-Ok-answer_path.ensures.answered limit)) c.act_of-act.result
    (c.act_of-act.ensures
    ∙ ap (λ (m : Machine Chosen). act_of m.cells c.args.card (Ended c.in-Ok-answer_path.mark)) (c.keep.ensures c.in-Some.chosen c.in-Some.is))
    c.keep.new.machine (c.keep.ensures c.in-Some.chosen c.in-Some.is) c.finish.result c.finish.ensures.finishes

pub returns-clause-sound : goal.returns-clause-sound
returns-clause-sound g c = λ cards sound.
    solving_sound g.T.Checks.checker c.args.verb c.args.card cards c.args.machine.now c.args.place.now c.finish.new.place c.in-Some.chosen c.in-Some.is
    c.problem_on_file-problem.result.now c.problem_on_file-problem.ensures c.in-Ok.lp c.in-Ok.ensures.made
    c.in-Ok-answer_path.mark c.keep.new.machine (c.keep.ensures c.in-Some.chosen c.in-Some.is) sound
