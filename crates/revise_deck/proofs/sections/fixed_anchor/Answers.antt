use Rattle.std.proofs.Common.{sym, subst, lit≤}
use Rattle.problem_definitions.specs.Valid.{IsName}
use Rattle.deck_definitions.proofs.CardTexts.{columns-name}
use Rattle.revise_deck.proofs.sections.fixed_anchor.Goals as goal

pub name_in-requires : goal.name_in-requires
name_in-requires c = subst IsName (sym c.field.ensures) (columns-name 15 22 c.args.card.bytes.now (lit≤ tt) c.args.card.printable)
