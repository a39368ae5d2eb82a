-- INSERT with the setup of a machine.
use Rattle.std.proofs.Common.{◌-◌, Some, Ok, drop, sym, ap, subst, ◌∙◌}
use Rattle.card_definitions.specs.Cards.{numbered_cards}
use Rattle.setup_verbs.proofs.Present.{as_many_rows, as_many_columns, ready_of, stays_on_file}
use Rattle.run_definitions.specs.State.{choice_of}
use Rattle.setup_verbs.specs.Kept.{Setup}
use Rattle.setup_verbs.specs.Inserting.{IsGiven, IsInstalledFor}
use Rattle.setup_verbs.proofs.Inserted.{no_setup, not_selected, deck_ends, basis_found}
use Rattle.setup_verbs.proofs.insert.find_basis.Goals as goal

pub returns-in_default : goal.returns-in_default
returns-in_default g c = rw c.ended.ensures (no_setup c.args.card c.args.cards.now c.args.machine.now c.in_default.is)

pub problem_on_file-problem-requires : goal.problem_on_file-problem-requires
problem_on_file-problem-requires g c =
    stays_on_file c.args.machine.now.file _
    (ready_of c.args.machine.now.file c.args.machine.now.setup _ (c.in-Some.is ∙ ap Some (sym c.setup.view_is)) c.requires.ready)

pub returns-in-Err : goal.returns-in-Err
returns-in-Err g c =
    rw c.ended-in-Err.ensures
    (not_selected c.args.card c.args.cards.now c.args.machine.now _
    (c.in-Some.is
    ∙ ap Some (sym c.setup.view_is)) c.problem_on_file-problem.result.now c.problem_on_file-problem.ensures c.in-Err.refusal c.in-Err.ensures.refused)

pub take_basis-requires-clause-names : goal.take_basis-requires-clause-names
take_basis-requires-clause-names g c = record {
  rows = as_many_rows c.problem_on_file-problem.result.now (choice_of c.args.machine.now.cells c.setup.inside.options) c.in-Ok.lp c.in-Ok.ensures.selected;
  columns =
      as_many_columns c.problem_on_file-problem.result.now (choice_of c.args.machine.now.cells c.setup.inside.options) c.in-Ok.lp c.in-Ok.ensures.selected;
}

pub returns-in-Basis : goal.returns-in-Basis
returns-in-Basis g c =
    basis_found c.args.card c.args.cards.now c.args.machine.now _
    (c.in-Some.is ∙ ap Some (sym c.setup.view_is)) c.problem_on_file-problem.result.now c.problem_on_file-problem.ensures
    c.in-Ok.lp c.in-Ok.ensures.selected c.name-name.result c.name-name.ensures
    (ready_of c.args.machine.now.file c.args.machine.now.setup _
    (c.in-Some.is ∙ ap Some (sym c.setup.view_is)) c.requires.ready) c.in-Basis.basis.basis c.in-Basis.basis.deck.first c.in-Basis.basis.deck.last
    (subst (IsGiven c.args.card c.problem_on_file-problem.result.now c.in-Ok.lp c.name-name.result
    (drop (c.args.machine.now.decks_from - 1) (numbered_cards c.args.cards.now)) c.args.cards.now)
    (ap Ok c.in-Basis.is) c.in_ok-given.ensures) c.present_choice-choice.result c.present_choice-choice.ensures c.installed.result
    (subst (λ (s : Setup). IsInstalledFor c.args.card s c.present_choice-choice.result c.in-Ok.lp c.in-Basis.basis.basis c.in-Basis.basis.deck.first
    c.in-Basis.basis.deck.last c.args.cards.now c.installed.result) (sym c.setup.view_is) c.installed.ensures)

pub returns-in-Ends : goal.returns-in-Ends
returns-in-Ends g c =
    deck_ends c.args.card c.args.cards.now c.args.machine.now _
    (c.in-Some.is ∙ ap Some (sym c.setup.view_is)) c.problem_on_file-problem.result.now c.problem_on_file-problem.ensures
    c.in-Ok.lp c.in-Ok.ensures.selected c.name-name.result c.name-name.ensures c.in-Ends.end
    (subst (IsGiven c.args.card c.problem_on_file-problem.result.now c.in-Ok.lp c.name-name.result
    (drop (c.args.machine.now.decks_from - 1) (numbered_cards c.args.cards.now)) c.args.cards.now) (ap Ok c.in-Ends.is) c.in_ok-given.ensures)
