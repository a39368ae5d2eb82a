use Rattle.std.proofs.Common.{◌≡◌, Ok, refl, ap, sym, subst, unwrap_or}
use Rattle.std.proofs.lemmas.Result.{IfOk-weaker, IfErr-weaker, err_from_is_err_and}
use Rattle.card_reader.specs.declared.stop.CardStop.TheVariants.{NoMemory}
use Rattle.card_definitions.specs.Cards.{live, cards_between}
use Rattle.problem_definitions.specs.Numbering.{numbered}
use Rattle.deck_definitions.specs.Conversion.{deck_name, conversion}
use Rattle.mps_convert.specs.Conversion.{Refuses}
use Rattle.mps_convert.specs.State.{State}
use Rattle.mps_convert.specs.DraftView.{problem_named, problem_view, state_view}
use Rattle.mps_convert.proofs.Whole.{faulty, nothing_read, is_problem, converts}
use Rattle.mps_convert.proofs.conversion.convert.Goals as goal

pub read_cards-requires-clause-start : goal.read_cards-requires-clause-start
read_cards-requires-clause-start c =
    nothing_read (state_view c.new-draft.result) c.new-draft.ensures.section c.new-draft.ensures.style c.new-draft.ensures.problem

pub returns-in_err-read_cards-clause-stop : goal.returns-in_err-read_cards-clause-stop
returns-in_err-read_cards-clause-stop c =
    let p = err_from_is_err_and c.from_residual.result c.from_residual.ensures.1 in
    rw (p.1, p.2) (faulty (cards_between c.args.first c.args.last c.args.cards.now) c.args.name _ c.in_err-read_cards.ensures.stop)

pub problem_of-requires-clause-lawful : goal.problem_of-requires-clause-lawful
problem_of-requires-clause-lawful c = λ own named.
    is_problem (cards_between c.args.first c.args.last c.args.cards.now) own
    (problem_view c.read_cards.new.draft) named c.in_ok-read_cards.ensures.printable c.in_ok-read_cards.ensures.no_fault
    (ap (λ (s : State). s.problem) c.in_ok-read_cards.ensures.made)

pub returns-clause-problem : goal.returns-clause-problem
returns-clause-problem c =
    let deck = cards_between c.args.first c.args.last c.args.cards.now in
    let own = unwrap_or c.args.name (deck_name (live deck)) in
    IfOk-weaker c.problem_of.result (λ problem. problem ≡ numbered (problem_named own c.read_cards.new.draft))
    (λ problem. conversion deck c.args.name ≡ Ok problem)
    (λ problem is. converts deck c.args.name own (problem_view c.read_cards.new.draft) problem c.in_ok-read_cards.ensures.no_fault
    (ap (λ (s : State). s.problem) c.in_ok-read_cards.ensures.made) refl is)
    c.problem_of.ensures.problem

pub returns-clause-stop : goal.returns-clause-stop
returns-clause-stop c =
    let Goal = Refuses (cards_between c.args.first c.args.last c.args.cards.now) c.args.name in
    IfErr-weaker c.problem_of.result (λ stop. stop ≡ NoMemory) Goal (λ stop is. subst Goal (sym is) tt) c.problem_of.ensures.stop
