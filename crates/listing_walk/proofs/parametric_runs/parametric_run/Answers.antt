-- What is selected, asked for and taken decides what follows.
use Rattle.std.proofs.Common.{sym, ap, ◌∙◌}
use Rattle.run_definitions.specs.State.{choice_of}
use Rattle.run_machine.specs.declared.finding.Finding.{Finding}
use Rattle.run_machine.specs.Findings.{act_of}
use Rattle.listing_definitions.specs.Numbers.{rational_text}
use Rattle.listing_walk.specs.ParametricVerbs.{left_by}
use Rattle.listing_walk.specs.Standing.{holding}
use Rattle.listing_walk.proofs.Selected.{as_many_rows, as_many_columns, no_change}
use Rattle.listing_walk.proofs.ParametricWalks.{serves_change, left_so, parametric_long_sound, parametric_sound}
use Rattle.listing_walk.proofs.ParametricHeld.{held_no_setup, held_refused, held_unasked, held_stopped, held_ended, held_long}
use Rattle.listing_walk.proofs.SolvingWalks.{stays_on_file}
use Rattle.listing_walk.proofs.parametric_runs.parametric_run.Goals as goal

pub problem_on_file-problem-requires : goal.problem_on_file-problem-requires
problem_on_file-problem-requires g c =
    stays_on_file c.args.machine.now.file c.args.machine.now.setup c.in-Some.chosen c.in-Some.is c.requires.ready

pub returns-in_default-clause-walks : goal.returns-in_default-clause-walks
returns-in_default-clause-walks g c = λ cards.
    held_no_setup g.T.Checks.checker c.args.verb c.args.card cards c.args.machine.now c.args.place.now c.fault.new.place c.args.last.now c.in_default.is
    c.fault.result (c.fault.ensures.held c.args.last.now)

pub returns-in-Err-clause-walks : goal.returns-in-Err-clause-walks
returns-in-Err-clause-walks g c = λ cards.
    held_refused g.T.Checks.checker c.args.verb c.args.card cards c.args.machine.now c.args.place.now c.refuse.new.place c.in-Some.chosen c.in-Some.is
    c.problem_on_file-problem.result.now c.problem_on_file-problem.ensures c.args.last.now c.unchecked-found.result
    c.unchecked-found.ensures c.in-Err.refusal c.in-Err.ensures.refused c.refuse.result (c.refuse.ensures.held c.args.last.now)

pub first_value-from-requires : goal.first_value-from-requires
first_value-from-requires g c = (c.param.result, c.as_bytes.ensures.value ∙ c.as_str.ensures.value ∙ c.fraction-text.ensures)

pub returns-in-Err-asked_run-clause-walks : goal.returns-in-Err-asked_run-clause-walks
returns-in-Err-asked_run-clause-walks g c = λ cards.
    let is = c.as_bytes.ensures.value ∙ c.as_str.ensures.value ∙ c.fraction-text.ensures ∙ ap rational_text c.param.ensures in
    let begins = c.first_value-from.ensures c.args.machine.now.cells.xparam is in
    held_unasked g.T.Checks.checker c.args.verb c.args.card cards c.args.machine.now c.args.place.now c.unasked.new.place c.in-Some.chosen c.in-Some.is
    c.problem_on_file-problem.result.now c.problem_on_file-problem.ensures c.in-Ok.lp c.in-Ok.ensures.made
    c.first_value-from.result c.args.last.now begins c.in-Err-asked_run.stop c.in-Err-asked_run.ensures.refused c.unasked.result
    (c.unasked.ensures.unasked c.args.last.now)

pub answer_parametric_run-requires-clause-sheet : goal.answer_parametric_run-requires-clause-sheet
answer_parametric_run-requires-clause-sheet g c = record {
  rows = as_many_rows c.problem_on_file-problem.result.now (choice_of c.args.machine.now.cells c.in-Some.chosen.options) c.in-Ok.lp
      c.in-Ok.ensures.made.is_selected;
  columns = as_many_columns c.problem_on_file-problem.result.now (choice_of c.args.machine.now.cells c.in-Some.chosen.options) c.in-Ok.lp
      c.in-Ok.ensures.made.is_selected;
}

pub answer_parametric_run-requires-clause-no_change : goal.answer_parametric_run-requires-clause-no_change
answer_parametric_run-requires-clause-no_change g c =
    no_change c.problem_on_file-problem.result.now (choice_of c.args.machine.now.cells c.in-Some.chosen.options) c.in-Ok.lp c.in-Ok.ensures.made.is_selected

pub answer_parametric_run-requires-clause-serves : goal.answer_parametric_run-requires-clause-serves
answer_parametric_run-requires-clause-serves g c =
    serves_change c.problem_on_file-problem.result.now
    (choice_of c.args.machine.now.cells c.in-Some.chosen.options) c.in-Ok.lp c.in-Ok.ensures.made.is_selected c.in-Ok-asked_run.request.name
    c.in-Ok-asked_run.request.change c.in-Ok-asked_run.ensures.of

pub returns-in-Err-answer_parametric_run-clause-walks : goal.returns-in-Err-answer_parametric_run-clause-walks
returns-in-Err-answer_parametric_run-clause-walks g c = λ cards.
    let is = c.as_bytes.ensures.value ∙ c.as_str.ensures.value ∙ c.fraction-text.ensures ∙ ap rational_text c.param.ensures in
    let begins = c.first_value-from.ensures c.args.machine.now.cells.xparam is in
    held_stopped g.T.Checks.checker c.args.verb c.args.card cards c.args.machine.now c.args.place.now c.answer_parametric_run.new.place c.in-Some.chosen
    c.in-Some.is c.problem_on_file-problem.result.now c.problem_on_file-problem.ensures c.in-Ok.lp c.in-Ok.ensures.made
    c.first_value-from.result c.in-Ok-asked_run.request c.args.last.now begins c.in-Ok-asked_run.ensures.asked c.in-Err-answer_parametric_run.stopped
    c.in-Err-answer_parametric_run.ensures.answered c.stop_walk.result c.stop_walk.ensures

pub returns-clause-walks : goal.returns-clause-walks
returns-clause-walks g c = λ cards.
    let is = c.as_bytes.ensures.value ∙ c.as_str.ensures.value ∙ c.fraction-text.ensures ∙ ap rational_text c.param.ensures in
    let begins = c.first_value-from.ensures c.args.machine.now.cells.xparam is in
    held_ended g.T.Checks.checker c.args.verb c.args.card cards c.args.machine.now c.args.place.now c.finish.new.place c.in-Some.chosen c.in-Some.is
    c.problem_on_file-problem.result.now c.problem_on_file-problem.ensures c.in-Ok.lp c.in-Ok.ensures.made
    c.first_value-from.result c.in-Ok-asked_run.request c.requires.demands c.args.last.now begins c.in-Ok-asked_run.ensures.asked
    c.answer_parametric_run.new.place c.in-Ok-answer_parametric_run.answer
    c.in-Ok-answer_parametric_run.ensures.answered c.leave.new.last c.leave.new.machine
    (c.leave.ensures.held
    ∙ ap (λ (f : Finding). left_by f (holding c.args.last.now c.args.machine.now)) c.in-Ok-finding_of.ensures.found) c.act_of-act.result
    (c.act_of-act.ensures
    ∙ ap (λ (f : Finding). act_of c.leave.new.machine.cells c.args.card f) c.in-Ok-finding_of.ensures.found) c.finish.result c.finish.ensures.finishes

pub returns-clause-sound : goal.returns-clause-sound
returns-clause-sound g c = λ cards sound.
    parametric_sound cards c.args.machine.now c.in-Ok-answer_parametric_run.answer c.leave.new.machine
    (left_so c.args.machine.now _ _ c.in-Ok-finding_of.ensures.found c.leave.new.machine c.leave.ensures.machine) sound

pub returns-in-Err-finding_of-clause-walks : goal.returns-in-Err-finding_of-clause-walks
returns-in-Err-finding_of-clause-walks g c = λ cards.
    let is = c.as_bytes.ensures.value ∙ c.as_str.ensures.value ∙ c.fraction-text.ensures ∙ ap rational_text c.param.ensures in
    let begins = c.first_value-from.ensures c.args.machine.now.cells.xparam is in
    held_long g.T.Checks.checker c.args.verb c.args.card cards c.args.machine.now c.args.place.now c.answer_parametric_run.new.place c.in-Some.chosen
    c.in-Some.is c.problem_on_file-problem.result.now c.problem_on_file-problem.ensures c.in-Ok.lp c.in-Ok.ensures.made
    c.first_value-from.result c.in-Ok-asked_run.request c.requires.demands c.args.last.now begins c.in-Ok-asked_run.ensures.asked
    c.in-Ok-answer_parametric_run.answer
    c.in-Err-finding_of.value c.in-Err-finding_of.ensures.long c.in-Ok-answer_parametric_run.ensures.answered

pub returns-in-Err-finding_of-clause-sound : goal.returns-in-Err-finding_of-clause-sound
returns-in-Err-finding_of-clause-sound g c = λ cards sound. parametric_long_sound cards c.args.machine.now sound
