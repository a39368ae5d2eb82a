use Rattle.std.proofs.Common.{◌≤◌, ◌∙◌, sym, arith}
use Rattle.deck_definitions.specs.Sections.{begins}
use Rattle.deck_definitions.specs.declared.Section.TheVariants.{Endata}
use Rattle.job_decks.proofs.Places.{one_further, just_here}
use Rattle.job_decks.proofs.cutting.deck_end.Goals as goal

pub returns-then-ends_deck-clause-end : goal.returns-then-ends_deck-clause-end
returns-then-ends_deck-clause-end c =
    let number = c.loop-number.number in
    let from_one : 1 ≤ number = omega arith in
    let here =
    just_here (begins Endata) number c.args.cards.now c.card.result.bytes.now from_one c.card.ensures
    (sym (c.ends_deck.ensures number) ∙ c.if-ends_deck.true) in
    omega (arith, here)

pub loop-number-preserved : goal.loop-number-preserved
loop-number-preserved c =
    let number = c.loop-number.number in
    let from_one : 1 ≤ number = omega arith in
    let further =
    one_further (begins Endata) number c.args.cards.now c.card.result.bytes.now from_one c.card.ensures
    (sym (c.ends_deck.ensures number) ∙ c.if-ends_deck.false) in
    omega (arith, further)
