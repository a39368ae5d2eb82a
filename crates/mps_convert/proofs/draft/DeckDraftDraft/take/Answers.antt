use Rattle.deck_definitions.specs.Conversion.{card_fault}
use Rattle.deck_fields.proofs.States.{no_fault, made, stop}
use Rattle.mps_convert.specs.State.{state_of, fault_at, state_with}
use Rattle.mps_convert.specs.DraftView.{state_view}
use Rattle.mps_convert.proofs.CardStep.{fault-state, state-step}
use Rattle.mps_convert.proofs.draft.DeckDraftDraft.take.Goals as goal

pub returns-clause-no_fault : goal.returns-clause-no_fault
returns-clause-no_fault c start seen is =
    no_fault card_fault state_of fault_at state_with fault-state state-step c.take_card.result
    (state_view c.args.self.now) seen c.args.card.bytes.now is c.take_card.ensures.no_fault

pub returns-clause-made : goal.returns-clause-made
returns-clause-made c start seen number is =
    made card_fault state_of fault_at state_with fault-state state-step c.take_card.result (state_view c.args.self.now) (state_view c.take_card.new.self) seen
    (record { number = number; bytes = c.args.card.bytes.now }) is c.take_card.ensures.no_fault c.take_card.ensures.step

pub returns-clause-stop : goal.returns-clause-stop
returns-clause-stop c start seen is =
    stop card_fault state_of fault_at state_with fault-state state-step c.take_card.result
    (state_view c.args.self.now) seen c.args.card.bytes.now is c.take_card.ensures.stop
