-- A card is skipped, or the draft takes it.
use Rattle.std.proofs.Common.{ℕ, ◌-◌, Some, ap, sym, ◌∙◌}
use Rattle.std.specs.Prelude.{slice_get}
use Rattle.card_definitions.specs.Cards.{is_skipped}
use Rattle.control_compiler.proofs.Passing.{passed_over, passed}
use Rattle.control_compiler.proofs.reading.pass.Goals as goal
use Rattle.control_compiler.proofs.Live.{same_place}

pub returns-then-is_skipped : goal.returns-then-is_skipped
returns-then-is_skipped c = passed_over c.args.cards.now c.args.number c.card-card.result.bytes.now c.args.draft.now
    (ap (λ (n : ℕ). slice_get c.args.cards.now n) (same_place c.args.number) ∙ c.card-card.ensures)
    (sym c.is_skipped.ensures ∙ c.if-is_skipped.true) c.requires.underway

pub returns : goal.returns
returns c = passed c.args.cards.now c.args.number c.bytes.result.now c.args.draft.now c.take.new.self
    (ap (λ (n : ℕ). slice_get c.args.cards.now n) (same_place c.args.number) ∙ c.card-card.ensures ∙ ap Some (sym c.bytes.ensures.bytes))
    (ap is_skipped c.bytes.ensures.bytes ∙ sym c.is_skipped.ensures ∙ c.if-is_skipped.false) c.requires.underway c.take.result
    (c.take.ensures c.requires.underway.before c.requires.underway.after c.requires.underway.count)
