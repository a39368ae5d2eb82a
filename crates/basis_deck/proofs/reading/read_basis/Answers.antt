use Rattle.std.proofs.Common.{Ok, sym, ap, ◌∙◌}
use Rattle.std.proofs.lemmas.Result.{err_from_is_err_and}
use Rattle.card_definitions.specs.Cards.{cards_between}
use Rattle.basis_deck_laws.proofs.Lawful.{lawful}
use Rattle.basis_deck.specs.DraftView.{state_view}
use Rattle.basis_deck.proofs.Begun.{faulty, gives}
use Rattle.basis_deck.proofs.reading.read_basis.Goals as goal

pub returns-in_err-read_cards-clause-stop : goal.returns-in_err-read_cards-clause-stop
returns-in_err-read_cards-clause-stop c =
    let p = err_from_is_err_and c.from_residual.result c.from_residual.ensures.1 in
    rw (p.1, p.2)
    (faulty c.args.problem.now c.args.lp.now (cards_between c.args.first c.args.last c.args.cards.now)
    (state_view c.in-Ok.begun) c.in-Ok.ensures _ c.in_err-read_cards.ensures.stop)

pub returns-clause-basis : goal.returns-clause-basis
returns-clause-basis c =
    gives c.args.problem.now c.args.lp.now (cards_between c.args.first c.args.last c.args.cards.now) (state_view c.in-Ok.begun) c.in-Ok.ensures
    (state_view c.read_cards.new.draft)
    c.in_ok-read_cards.ensures.no_fault c.in_ok-read_cards.ensures.made
    ∙ ap (λ s. Ok s) (sym c.into_basis.ensures)

pub returns-clause-lawful : goal.returns-clause-lawful
returns-clause-lawful c =
    lawful c.args.problem.now c.args.lp.now (cards_between c.args.first c.args.last c.args.cards.now) c.into_basis.result c.requires.names
    (returns-clause-basis c)
