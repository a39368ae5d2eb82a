use Rattle.std.proofs.Common.{sym, ◌∙◌}
use Rattle.deck_definitions.specs.DataCards.{pairs_of}
use Rattle.deck_fields.specs.Views.{viewed}
use Rattle.revise_edits.proofs.Absent.{first_items}
use Rattle.revise_edits.proofs.edits.insert_column_of.Goals as goal

pub insert_new_column-requires-clause-entries : goal.insert_new_column-requires-clause-entries
insert_new_column-requires-clause-entries c =
    first_items c.args.at.now.card.now.name1 c.args.columns.now (pairs_of (viewed c.args.at.now.card.now))
    (c.requires.0 (sym c.goes_on.ensures ∙ c.if-goes_on.false)) c.requires.1
