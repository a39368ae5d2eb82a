use Rattle.std.proofs.Common.{rules, ap, sym, ◌∙◌}
use Rattle.deck_definitions.specs.Conversion.{section_card_fault}
use Rattle.revise_definitions.specs.Revision.{may_come_after}
use Rattle.revise_deck.proofs.draft.ReviseDraft.take_section.Goals as goal

pub returns : goal.returns
returns c = record {
  no_fault = ap (section_card_fault may_come_after c.args.self.now.section) (sym c.bytes.ensures.bytes) ∙ c.in_ok-section.ensures.no_fault;
  step = search rules;
  stop = search rules;
}
