use Rattle.std.proofs.Common.{sym, subst, lit≤, ◌∙◌}
use Rattle.problem_definitions.specs.Valid.{IsName}
use Rattle.deck_definitions.proofs.CardTexts.{columns-name}
use Rattle.mps_convert.proofs.conversion.own_name.Goals as goal

pub name_in-requires : goal.name_in-requires
name_in-requires c = subst IsName (sym c.field.ensures) (columns-name 15 22 c.in-Some.card.bytes.now (lit≤ tt) c.in-Some.card.printable)

pub returns-in-Some-clause-is_name : goal.returns-in-Some-clause-is_name
returns-in-Some-clause-is_name c =
    subst IsName (sym (c.name_in.ensures ∙ c.field.ensures)) (columns-name 15 22 c.in-Some.card.bytes.now (lit≤ tt) c.in-Some.card.printable)
