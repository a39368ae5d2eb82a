use Rattle.std.proofs.Common.{◌&&◌, Some, sym, ap, ◌∙◌}
use Rattle.deck_definitions.specs.DataCards.{is_card_of}
use Rattle.deck_fields.specs.Views.{viewed}
use Rattle.named_problem.proofs.LastRow.{goes_on-at}
use Rattle.named_problem.proofs.rows.Rows.goes_on.Goals as goal

pub returns-then-is_some : goal.returns-then-is_some
returns-then-is_some c =
    rw (← c.self.view_is)
    (c.is_card_of.ensures
    ∙ sym (goes_on-at c.self.inside.rows.entries (viewed c.args.card.now) (Some (c.in-Some.name.now, c.in-Some.body.now)) (sym c.in-Some.ensures.entry)
    ∙ ap (λ b. b && is_card_of c.in-Some.body.now.kind c.in-Some.name.now (viewed c.args.card.now)) (sym c.is_some.ensures ∙ c.if-is_some.true)))

pub returns-else-is_some : goal.returns-else-is_some
returns-else-is_some c =
    rw (← c.self.view_is)
    (c.if-is_some.false
    ∙ sym (goes_on-at c.self.inside.rows.entries (viewed c.args.card.now) (Some (c.in-Some.name.now, c.in-Some.body.now)) (sym c.in-Some.ensures.entry)
    ∙ ap (λ b. b && is_card_of c.in-Some.body.now.kind c.in-Some.name.now (viewed c.args.card.now)) (sym c.is_some.ensures ∙ c.if-is_some.false)))
