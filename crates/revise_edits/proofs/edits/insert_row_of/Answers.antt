use Rattle.std.proofs.Common.{sym, ◌∙◌}
use Rattle.deck_definitions.specs.DataCards.{part_pairs_of}
use Rattle.deck_fields.specs.Views.{viewed}
use Rattle.revise_edits.proofs.Absent.{first_parts}
use Rattle.revise_edits.proofs.edits.insert_row_of.Goals as goal

pub insert_row_at-requires-clause-parts : goal.insert_row_at-requires-clause-parts
insert_row_at-requires-clause-parts c =
    first_parts c.args.at.now.card.now.name1 c.args.rows.now (part_pairs_of (viewed c.args.at.now.card.now))
    (c.requires.0 (sym c.goes_on_row.ensures ∙ c.if-goes_on_row.false)) c.requires.1
