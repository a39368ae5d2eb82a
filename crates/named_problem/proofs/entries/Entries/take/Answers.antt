use Rattle.std.proofs.Common.{[], ◌∷◌, map, sym, ap, ◌∙◌}
use Rattle.std.proofs.lemmas.List.{map-append}
use Rattle.card_definitions.specs.Words.{◌⟹◌}
use Rattle.deck_definitions.specs.declared.DeckFaultKind.TheVariants.{DuplicateEntry}
use Rattle.named_problem.specs.Views.{entry_at}
use Rattle.named_problem.proofs.Keyed.{entry_is_there, was_there, was_new}
use Rattle.named_problem.proofs.entries.Entries.take.Goals as goal

pub returns-then-not-is_new-clause-stop : goal.returns-then-not-is_new-clause-stop
returns-then-not-is_new-clause-stop c =
    rw (← c.self.view_is)
    (ap (λ b. b ⟹ DuplicateEntry)
    (sym (entry_is_there c.args.row c.self.inside.values.entries) ∙ was_there _ _ c.in_ok-is_new.ensures.is_new c.if-not-is_new.true))

pub returns-clause-is_new : goal.returns-clause-is_new
returns-clause-is_new c =
    rw (← c.self.view_is) (sym (entry_is_there c.args.row c.self.inside.values.entries) ∙ was_new _ _ c.in_ok-is_new.ensures.is_new c.if-not-is_new.false)

pub returns-clause-added : goal.returns-clause-added
returns-clause-added c =
    rw (← c.self.view_is)
    (ap (map entry_at) (c.in_ok-is_new.ensures.added c.if-not-is_new.false)
    ∙ map-append entry_at c.self.inside.values.entries ((c.args.row, c.args.number) ∷ []))
