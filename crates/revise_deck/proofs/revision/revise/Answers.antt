use Rattle.std.proofs.Common.{◌≡◌, Ok, refl, ap, sym, subst, ◌∙◌, unwrap_or}
use Rattle.std.proofs.lemmas.Result.{IfOk-weaker, IfErr-weaker, err_from_is_err_and}
use Rattle.card_definitions.specs.Cards.{live, cards_between}
use Rattle.problem_definitions.specs.Numbering.{numbered, by_names}
use Rattle.deck_definitions.specs.Conversion.{fault_by, deck_name}
use Rattle.card_reader.specs.declared.stop.CardStop.TheVariants.{NoMemory}
use Rattle.deck_fields.specs.Stops.{Stops}
use Rattle.revise_definitions.specs.Revision.{revise_card_fault, revision}
use Rattle.revise_deck.specs.State.{State, state_of}
use Rattle.revise_deck.specs.DraftView.{problem_named, state_view}
use Rattle.revise_deck.specs.Revision.{Refuses}
use Rattle.revise_deck.proofs.Ends.{faulty, nothing_read, is_problem, gives}
use Rattle.revise_deck.proofs.revision.revise.Goals as goal

pub read_cards-requires-clause-start : goal.read_cards-requires-clause-start
read_cards-requires-clause-start c = nothing_read (state_view c.new-draft.result) c.in-Ok.problem c.new-draft.ensures

pub returns-in_err-read_cards-clause-stop : goal.returns-in_err-read_cards-clause-stop
returns-in_err-read_cards-clause-stop c =
    let deck = cards_between c.args.first c.args.last c.args.cards.now in
    let begins : c.new-draft.result.problem ≡ by_names c.args.old.now = ap (λ (s : State). s.problem) c.new-draft.ensures ∙ c.in-Ok.ensures in
    let p = err_from_is_err_and c.from_residual.result c.from_residual.ensures.1 in
    rw (p.1, p.2)
    (faulty c.args.old.now deck c.args.name _
    (subst (λ problem. Stops (revise_card_fault problem) deck c.in_err-read_cards.field-0.0) begins c.in_err-read_cards.ensures.stop))

pub problem_of-requires-clause-lawful : goal.problem_of-requires-clause-lawful
problem_of-requires-clause-lawful c = λ own named.
    let deck = cards_between c.args.first c.args.last c.args.cards.now in
    let begins : c.new-draft.result.problem ≡ by_names c.args.old.now = ap (λ (s : State). s.problem) c.new-draft.ensures ∙ c.in-Ok.ensures in
    is_problem c.args.old.now deck own c.read_cards.new.draft.problem c.name.ensures.is_problem named c.in_ok-read_cards.ensures.printable
    (ap (λ problem. fault_by (revise_card_fault problem) deck) (sym begins) ∙ c.in_ok-read_cards.ensures.no_fault)
    (ap (λ (s : State). s.problem) (c.in_ok-read_cards.ensures.made ∙ ap (λ problem. state_of problem (live deck)) begins))

pub returns-clause-problem : goal.returns-clause-problem
returns-clause-problem c =
    let deck = cards_between c.args.first c.args.last c.args.cards.now in
    let own = unwrap_or c.args.name (deck_name (live deck)) in
    let begins : c.new-draft.result.problem ≡ by_names c.args.old.now = ap (λ (s : State). s.problem) c.new-draft.ensures ∙ c.in-Ok.ensures in
    IfOk-weaker c.problem_of.result (λ problem. problem ≡ numbered (problem_named own c.read_cards.new.draft))
    (λ problem. revision c.args.old.now deck c.args.name ≡ Ok problem)
    (λ problem is. gives c.args.old.now deck c.args.name own c.read_cards.new.draft.problem problem
    (ap (λ problem. fault_by (revise_card_fault problem) deck) (sym begins) ∙ c.in_ok-read_cards.ensures.no_fault)
    (ap (λ (s : State). s.problem) (c.in_ok-read_cards.ensures.made ∙ ap (λ problem. state_of problem (live deck)) begins)) refl is)
    c.problem_of.ensures.problem

pub returns-clause-stop : goal.returns-clause-stop
returns-clause-stop c =
    let Goal = Refuses c.args.old.now (cards_between c.args.first c.args.last c.args.cards.now) c.args.name in
    IfErr-weaker c.problem_of.result (λ stop. stop ≡ NoMemory) Goal (λ stop is. subst Goal (sym is) tt) c.problem_of.ensures.stop
