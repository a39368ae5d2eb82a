use Rattle.revise_definitions.specs.Revision.{revise_card_fault}
use Rattle.deck_fields.proofs.States.{no_fault, made, stop}
use Rattle.revise_deck.specs.State.{state_of, fault_at, state_with}
use Rattle.revise_deck.specs.DraftView.{state_view}
use Rattle.revise_deck.proofs.CardStep.{fault-state, state-step}
use Rattle.revise_deck.proofs.draft.ReviseDraftDraft.take.Goals as goal

pub returns-clause-no_fault : goal.returns-clause-no_fault
returns-clause-no_fault c start seen is =
    no_fault (revise_card_fault start.problem) (state_of start.problem) fault_at state_with (fault-state start.problem) (state-step start.problem)
    c.take_card.result (state_view c.args.self.now) seen c.args.card.bytes.now is c.take_card.ensures.no_fault

pub returns-clause-made : goal.returns-clause-made
returns-clause-made c start seen number is =
    made (revise_card_fault start.problem) (state_of start.problem) fault_at state_with (fault-state start.problem) (state-step start.problem)
    c.take_card.result (state_view c.args.self.now) (state_view c.take_card.new.self) seen (record { number = number; bytes = c.args.card.bytes.now }) is
    c.take_card.ensures.no_fault c.take_card.ensures.step

pub returns-clause-stop : goal.returns-clause-stop
returns-clause-stop c start seen is =
    stop (revise_card_fault start.problem) (state_of start.problem) fault_at state_with (fault-state start.problem) (state-step start.problem)
    c.take_card.result (state_view c.args.self.now) seen c.args.card.bytes.now is c.take_card.ensures.stop
