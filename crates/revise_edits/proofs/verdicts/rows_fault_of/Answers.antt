use Rattle.std.proofs.Common.{sym, ap, ◌∙◌}
use Rattle.problem_definitions.specs.Names.{Name}
use Rattle.problem_definitions.specs.Problem.{Problem}
use Rattle.deck_definitions.specs.declared.Section.TheVariants.{Rows}
use Rattle.deck_definitions.specs.Tests.{rows_fault}
use Rattle.deck_fields.specs.Views.{viewed}
use Rattle.named_problem.specs.Views.{rows_alone}
use Rattle.revise_definitions.specs.declared.Action.TheVariants.{Before, After}
use Rattle.revise_edits.specs.Summary.{goes_on_row_from}
use Rattle.revise_edits.specs.EditTests.{earlier_among, edit_test}
use Rattle.revise_edits.proofs.verdicts.rows_fault_of.Goals as goal

pub returns-in-Before : goal.returns-in-Before
returns-in-Before c =
    let rows = c.seen.inside.rows in
    let under = c.args.at.now.under.now in
    let card = viewed c.args.at.now.card.now in
    c.added_row_fault.ensures
    ∙ ap (λ action. rows_fault (rows_alone rows) (goes_on_row_from under card) (earlier_among action under card rows) card) c.in-Before.is
    ∙ ap (λ (p : Problem Name). edit_test p Rows Before under card) c.seen.view_is
    ∙ ap (λ action. edit_test c.args.seen.now Rows action under card) (sym c.in-Before.is)

pub returns-in-After : goal.returns-in-After
returns-in-After c =
    let rows = c.seen.inside.rows in
    let under = c.args.at.now.under.now in
    let card = viewed c.args.at.now.card.now in
    c.added_row_fault-in-After.ensures
    ∙ ap (λ action. rows_fault (rows_alone rows) (goes_on_row_from under card) (earlier_among action under card rows) card) c.in-After.is
    ∙ ap (λ (p : Problem Name). edit_test p Rows After under card) c.seen.view_is
    ∙ ap (λ action. edit_test c.args.seen.now Rows action under card) (sym c.in-After.is)
