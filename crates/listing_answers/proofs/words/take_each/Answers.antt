use Rattle.std.proofs.Common.{ap, ◌∙◌}
use Rattle.std.specs.Prelude.{option_and_then}
use Rattle.std.specs.List.{flat_map}
use Rattle.std.proofs.lemmas.List.{drop_all}
use Rattle.walk_definitions.specs.Words.{left_after}
use Rattle.listing_words.specs.Read.{taken}
use Rattle.listing_answers.proofs.Texts.{next_text}
use Rattle.listing_answers.proofs.words.take_each.Goals as goal

pub loop-text-preserved : goal.loop-text-preserved
loop-text-preserved c =
    next_text (λ text. text.now) c.args.texts.now c.loop-text.text-index _ c.args.cursor.now c.loop-text.cursor c.loop-text-test.true c.loop-text.invariant
    ∙ ap (option_and_then (left_after _)) (c.take.ensures.taken ∙ ap (λ b. taken b c.take.new.self) c.if-not-take.false)

pub returns-then-not-take : goal.returns-then-not-take
returns-then-not-take c =
    next_text (λ text. text.now) c.args.texts.now c.loop-text.text-index _ c.args.cursor.now c.loop-text.cursor c.loop-text-test.true c.loop-text.invariant
    ∙ ap (option_and_then (left_after _)) (c.take.ensures.taken ∙ ap (λ b. taken b c.take.new.self) c.if-not-take.true)

pub returns : goal.returns
returns c =
    c.loop-text.invariant
    ∙ ap (λ texts. left_after (flat_map (λ text. text.now) texts) c.loop-text.cursor) (drop_all c.loop-text.text-index c.args.texts.now c.loop-text-test.false)
