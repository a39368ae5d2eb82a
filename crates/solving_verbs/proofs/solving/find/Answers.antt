-- The setup and its selection.
use Rattle.std.proofs.Common.{refl, sym, ap, ◌∙◌}
use Rattle.problem_file.specs.Filed.{filed_under}
use Rattle.run_definitions.specs.State.{choice_of}
use Rattle.setup_verbs.specs.Kept.{Setup}
use Rattle.setup_verbs.proofs.Selected.{no_change}
use Rattle.setup_verbs.proofs.Present.{as_many_columns, as_many_rows}
use Rattle.solving_verbs.proofs.SelectedAgain.{now_is, rates_again}
use Rattle.solving_verbs.proofs.SolvingSteps.{refusal_reported, again_reported, again_solved}
use Rattle.solving_verbs.proofs.solving.find.Goals as goal

pub returns-in-Err-clause-tells : goal.returns-in-Err-clause-tells
returns-in-Err-clause-tells g c =
    rw c.refused.ensures
    (refusal_reported c.args.verb c.args.cells.now c.args.file.now refl c.select_again.new.setup c.problem_on_file-problem.result.now
    (ap (λ (s : Setup). filed_under s.name c.args.file.now) (sym c.setup.view_is) ∙ c.problem_on_file-problem.ensures)
    (g.P.Sink.taken c.args.print.now) c.in-Err.refusal c.in-Err.ensures.refused)

pub follow-requires : goal.follow-requires
follow-requires g c =
    let is =
    now_is c.args.setup.now c.setup-2.view_is c.select_again.ensures.others c.args.file.now c.problem_on_file-problem.result.now c.args.cells.now
    c.in_default.ensures.selected in
    record {
      sheet = record {
        rows = as_many_rows c.problem_on_file-problem.result.now (choice_of c.args.cells.now c.args.setup.now.options) _ is;
        columns = as_many_columns c.problem_on_file-problem.result.now (choice_of c.args.cells.now c.args.setup.now.options) _ is;
      };
      lawful = c.number_of_variables-size.ensures.lawful;
      no_change = no_change c.problem_on_file-problem.result.now (choice_of c.args.cells.now c.args.setup.now.options) _ is;
      rates =
          rates_again c.args.setup.now c.setup-2.view_is c.select_again.ensures.others c.args.file.now c.problem_on_file-problem.result.now c.args.cells.now
          c.in_default.ensures.selected c.requires
          (ap (λ (s : Setup). filed_under s.name c.args.file.now) (sym c.setup.view_is) ∙ c.problem_on_file-problem.ensures);
    }

pub returns-clause-tells : goal.returns-clause-tells
returns-clause-tells g c =
    again_reported c.args.verb c.args.cells.now c.args.file.now c.args.setup.now c.setup-2.view_is c.select_again.ensures.others
    c.problem_on_file-problem.result.now
    (ap (λ (s : Setup). filed_under s.name c.args.file.now) (sym c.setup.view_is) ∙ c.problem_on_file-problem.ensures) c.in_default.ensures.selected _ refl refl
    (g.P.Sink.taken c.args.print.now) (g.P.Sink.taken c.follow.new.print) c.follow.result c.follow.ensures.tells

pub returns-clause-solved : goal.returns-clause-solved
returns-clause-solved g c =
    again_solved c.args.verb c.args.cells.now c.args.file.now c.args.setup.now c.setup-2.view_is c.select_again.ensures.others
    c.problem_on_file-problem.result.now
    (ap (λ (s : Setup). filed_under s.name c.args.file.now) (sym c.setup.view_is) ∙ c.problem_on_file-problem.ensures) c.in_default.ensures.selected _ refl refl
    (g.P.Sink.taken c.args.print.now) (g.P.Sink.taken c.follow.new.print) c.follow.result c.follow.ensures.tells
    c.requires refl c.number_of_variables-size.ensures.lawful c.follow.ensures.rates
