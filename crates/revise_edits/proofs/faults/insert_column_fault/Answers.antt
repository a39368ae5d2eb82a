use Rattle.std.proofs.Common.{ap₂, ◌∙◌}
use Rattle.deck_definitions.specs.declared.Section.TheVariants.{Columns}
use Rattle.deck_definitions.specs.DataCards.{pairs_of}
use Rattle.deck_definitions.specs.Tests.{pairs_fault}
use Rattle.deck_fields.specs.Views.{viewed}
use Rattle.revise_edits.proofs.FaultParts.{one_more}
use Rattle.revise_edits.proofs.faults.insert_column_fault.Goals as goal

pub returns : goal.returns
returns c =
    one_more c.first_of.result c.new_column_fault.result c.pairs_fault_of.result _ _ _ c.first_of.ensures c.new_column_fault.ensures
    (c.pairs_fault_of.ensures
    ∙ ap₂ (λ items count. pairs_fault c.args.seen.now Columns items count (pairs_of (viewed c.args.card.now))) c.items.ensures c.item_count-count.ensures.count)
