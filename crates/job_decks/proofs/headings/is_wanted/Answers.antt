use Rattle.std.proofs.Common.{◌∷◌, ap, sym, ◌∙◌}
use Rattle.deck_definitions.specs.Decks.{is_wanted}
use Rattle.job_decks.proofs.Places.{named_first, unnamed_first}
use Rattle.job_decks.proofs.headings.is_wanted.Goals as goal

pub returns-then-is_header : goal.returns-then-is_header
returns-then-is_header c = λ number cards.
    named_first number c.args.first.bytes.now cards c.in-Some.name c.is_named.result (sym (c.is_header.ensures number) ∙ c.if-is_header.true) c.is_named.ensures
    ∙ ap (λ wanted. is_wanted wanted (record { number = number; bytes = c.args.first.bytes.now } ∷ cards)) (sym c.in-Some.is)

pub returns-else-is_header : goal.returns-else-is_header
returns-else-is_header c = λ number cards.
    unnamed_first number c.args.first.bytes.now cards c.in-Some.name c.is_header.result
    (sym (c.is_header.ensures number) ∙ c.if-is_header.false) c.if-is_header.false
    ∙ ap (λ wanted. is_wanted wanted (record { number = number; bytes = c.args.first.bytes.now } ∷ cards)) (sym c.in-Some.is)
