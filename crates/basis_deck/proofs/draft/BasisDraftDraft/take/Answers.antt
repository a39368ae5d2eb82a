use Rattle.deck_fields.proofs.States.{no_fault, made, stop}
use Rattle.basis_deck_definitions.specs.Reading.{basis_card_fault}
use Rattle.basis_deck.specs.Reading.{state_of, fault_at, state_with}
use Rattle.basis_deck.specs.DraftView.{state_view}
use Rattle.basis_deck.proofs.CardStep.{fault-state, state-step}
use Rattle.basis_deck.proofs.draft.BasisDraftDraft.take.Goals as goal

pub returns-clause-no_fault : goal.returns-clause-no_fault
returns-clause-no_fault c start seen is =
    no_fault (basis_card_fault start.problem.now start.lp.now) (state_of start.problem.now start.lp.now) fault_at state_with
    (fault-state start.problem.now start.lp.now start.names) (state-step start.problem.now start.lp.now start.names)
    c.take_card.result (state_view c.args.self.now) seen c.args.card.bytes.now is c.take_card.ensures.no_fault

pub returns-clause-made : goal.returns-clause-made
returns-clause-made c start seen number is =
    made (basis_card_fault start.problem.now start.lp.now) (state_of start.problem.now start.lp.now) fault_at state_with
    (fault-state start.problem.now start.lp.now start.names) (state-step start.problem.now start.lp.now start.names)
    c.take_card.result (state_view c.args.self.now) (state_view c.take_card.new.self) seen (record { number = number; bytes = c.args.card.bytes.now }) is
    c.take_card.ensures.no_fault c.take_card.ensures.step

pub returns-clause-stop : goal.returns-clause-stop
returns-clause-stop c start seen is =
    stop (basis_card_fault start.problem.now start.lp.now) (state_of start.problem.now start.lp.now) fault_at state_with
    (fault-state start.problem.now start.lp.now start.names) (state-step start.problem.now start.lp.now start.names)
    c.take_card.result (state_view c.args.self.now) seen c.args.card.bytes.now is c.take_card.ensures.stop
