use Rattle.std.proofs.Common.{ap, ◌∙◌}
use Rattle.std.proofs.lemmas.List.{drop_all}
use Rattle.walk_definitions.specs.Forms.{left_by}
use Rattle.listing_words.specs.Read.{taken}
use Rattle.std.specs.List.{flat_map}
use Rattle.listing_readers.specs.Pieces.{labelled}
use Rattle.listing_readers.proofs.Pieces.{one_more, no_more}
use Rattle.listing_readers.proofs.stops.take_words.Goals as goal

pub loop-word-preserved : goal.loop-word-preserved
loop-word-preserved c =
    one_more c.args.words.now c.loop-word.word-index _ c.args.cursor.now c.loop-word.cursor c.loop-word-test.true c.loop-word.invariant
    c.take_labelled.new.cursor (c.take_labelled.ensures ∙ ap (λ b. taken b c.take_labelled.new.cursor) c.if-not-take_labelled.false)

pub returns-then-not-take_labelled : goal.returns-then-not-take_labelled
returns-then-not-take_labelled c =
    no_more c.args.words.now c.loop-word.word-index _ c.args.cursor.now c.loop-word.cursor c.loop-word-test.true c.loop-word.invariant
    (c.take_labelled.ensures ∙ ap (λ b. taken b c.take_labelled.new.cursor) c.if-not-take_labelled.true)

pub returns : goal.returns
returns c =
    c.loop-word.invariant
    ∙ ap (λ words. left_by (flat_map labelled words) c.loop-word.cursor) (drop_all c.loop-word.word-index c.args.words.now c.loop-word-test.false)
