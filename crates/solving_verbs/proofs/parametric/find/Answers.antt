-- The setup, its selection and what is asked for.
use Rattle.std.proofs.Common.{refl, sym, ap, ◌∙◌}
use Rattle.problem_file.specs.Filed.{filed_under}
use Rattle.run_definitions.specs.State.{choice_of}
use Rattle.setup_verbs.specs.Kept.{Setup}
use Rattle.setup_verbs.proofs.Selected.{no_change}
use Rattle.setup_verbs.proofs.Present.{as_many_columns, as_many_rows, ready_solved}
use Rattle.solving_verbs.specs.ParametricVerbs.{parametric_run_view}
use Rattle.solving_verbs.proofs.SelectedAgain.{name_kept, now_is, rates_again}
use Rattle.solving_verbs.proofs.ParametricSteps.{unselected_reported, unasked_reported, again_reported, serves, asked_of}
use Rattle.solving_verbs.proofs.parametric.find.Goals as goal

pub returns-in-Err-clause-tells : goal.returns-in-Err-clause-tells
returns-in-Err-clause-tells g c =
    rw c.refused.ensures
    (unselected_reported c.args.verb c.args.cells.now c.args.file.now refl c.select_again.new.setup c.problem_on_file-problem.result.now
    (ap (λ (s : Setup). filed_under s.name c.args.file.now) (sym c.setup.view_is) ∙ c.problem_on_file-problem.ensures)
    (g.P.Sink.taken c.args.print.now) c.in-Err.refusal c.in-Err.ensures.refused)

pub returns-in-Err-request_of-clause-tells : goal.returns-in-Err-request_of-clause-tells
returns-in-Err-request_of-clause-tells g c =
    rw (c.refused-in-Err-request_of.ensures, c.refusal_of.ensures)
    (unasked_reported c.args.verb c.args.cells.now c.args.file.now refl c.select_again.new.setup c.problem_on_file-problem.result.now
    (ap (λ (s : Setup). filed_under s.name c.args.file.now) (sym c.setup.view_is)
    ∙ c.problem_on_file-problem.ensures) c.select_again.new.setup.lp c.in_default.ensures.selected
    (g.P.Sink.taken c.args.print.now) c.in-Err-request_of.stop c.in-Err-request_of.ensures.refused)

pub returns-in-Err-request_of-clause-ready : goal.returns-in-Err-request_of-clause-ready
returns-in-Err-request_of-clause-ready g c =
    let on_file = ap (λ (s : Setup). filed_under s.name c.args.file.now) (sym c.setup.view_is) ∙ c.problem_on_file-problem.ensures in
    let others = c.select_again.ensures.others in
    let selected = c.in_default.ensures.selected in
    ready_solved c.args.file.now c.args.setup.now c.requires c.problem_on_file-problem.result.now on_file c.args.cells.now c.select_again.new.setup.lp
    selected c.select_again.new.setup
    (name_kept c.args.setup.now {mid = c.select_again.new.setup} refl others) c.in_default.ensures.chosen refl
    (rates_again c.args.setup.now {mid = c.select_again.new.setup} refl others c.args.file.now c.problem_on_file-problem.result.now c.args.cells.now selected
    c.requires on_file)

pub follow-requires : goal.follow-requires
follow-requires g c =
    let is =
    now_is c.args.setup.now c.setup-2.view_is c.select_again.ensures.others c.args.file.now c.problem_on_file-problem.result.now c.args.cells.now
    c.in_default.ensures.selected in
    record {
      sheet = record {
        rows = as_many_rows c.problem_on_file-problem.result.now (choice_of c.args.cells.now c.args.setup.now.options) _ is;
        columns = as_many_columns c.problem_on_file-problem.result.now (choice_of c.args.cells.now c.args.setup.now.options) _ is;
      };
      no_change = no_change c.problem_on_file-problem.result.now (choice_of c.args.cells.now c.args.setup.now.options) _ is;
      rates =
          rates_again c.args.setup.now c.setup-2.view_is c.select_again.ensures.others c.args.file.now c.problem_on_file-problem.result.now c.args.cells.now
          c.in_default.ensures.selected c.requires
          (ap (λ (s : Setup). filed_under s.name c.args.file.now) (sym c.setup.view_is) ∙ c.problem_on_file-problem.ensures);
      serves =
          c.run_of-parametric_run.ensures.serves c.problem_on_file-problem.result.now c.setup-2.inside.lp
          (serves c.problem_on_file-problem.result.now (choice_of c.args.cells.now c.args.setup.now.options) c.setup-2.inside.lp is
          c.in-Ok.request c.in-Ok.ensures.of);
    }

pub returns-clause-tells : goal.returns-clause-tells
returns-clause-tells g c =
    again_reported c.args.verb c.args.cells.now c.args.file.now c.args.setup.now c.setup-2.view_is c.select_again.ensures.others
    c.problem_on_file-problem.result.now
    (ap (λ (s : Setup). filed_under s.name c.args.file.now) (sym c.setup.view_is) ∙ c.problem_on_file-problem.ensures) c.in_default.ensures.selected _ refl refl
    (parametric_run_view c.run_of-parametric_run.result)
    (asked_of c.args.verb c.problem_on_file-problem.result.now c.args.cells.now c.in-Ok.request c.run_of-parametric_run.result c.steps_allowed.result
    c.steps_allowed.ensures.steps c.run_of-parametric_run.ensures.viewed c.in-Ok.ensures.asked)
    (g.P.Sink.taken c.args.print.now) (g.P.Sink.taken c.follow.new.print) c.follow.result c.follow.ensures.tells
