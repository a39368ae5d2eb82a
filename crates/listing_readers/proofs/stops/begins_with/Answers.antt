use Rattle.std.proofs.Common.{ap, sym, ◌∙◌}
use Rattle.std.specs.List.{flat_map}
use Rattle.walk_definitions.specs.Forms.{left_by}
use Rattle.listing_words.specs.Read.{taken}
use Rattle.listing_readers.specs.Pieces.{labelled}
use Rattle.listing_readers.proofs.Pieces.{form_taken, form_missing}
use Rattle.listing_readers.proofs.stops.begins_with.Goals as goal

pub returns-then-take_words : goal.returns-then-take_words
returns-then-take_words c =
    let left = c.take_words.new.cursor in
    form_taken c.args.form.now.words.now c.args.form.now.end.now c.args.bytes.now left
    (ap (left_by (flat_map labelled c.args.form.now.words.now)) (sym c.new-cursor.ensures) ∙ c.take_words.ensures
    ∙ ap (λ b. taken b left) c.if-take_words.true) c.take.result c.take.new.self c.take.ensures.taken

pub returns-else-take_words : goal.returns-else-take_words
returns-else-take_words c =
    c.if-take_words.false ∙ form_missing c.args.form.now.words.now c.args.form.now.end.now c.args.bytes.now
    (ap (left_by (flat_map labelled c.args.form.now.words.now)) (sym c.new-cursor.ensures) ∙ c.take_words.ensures
    ∙ ap (λ b. taken b c.take_words.new.cursor) c.if-take_words.false)
