use Rattle.std.proofs.Common.{◌≡◌, Some, ap, ◌∙◌}
use Rattle.walk_definitions.specs.Words.{left_after}
use Rattle.walk_definitions.specs.Tables.{line_head}
use Rattle.listing_words.specs.Read.{taken, sheet_view}
use Rattle.listing_claims.specs.Numbers.{number_in}
use Rattle.listing_readers.proofs.Reading.{line_read}
use Rattle.listing_readers.proofs.tables.line.Goals as goal

pub returns : goal.returns
returns g c =
    let head : left_after (line_head (sheet_view c.args.sheet) c.args.k) c.args.cursor.now ≡ Some c.take_head.new.cursor =
    c.take_head.ensures ∙ ap (λ b. taken b c.take_head.new.cursor) c.if-not-take_head.false in
    line_read (number_in g.T.Checks.checker c.args.by)
    (sheet_view c.args.sheet) c.args.shape c.args.k c.args.cursor.now c.take_head.new.cursor c.values.new.cursor c.take.new.self c.in_ok-numbers.numbers head
    c.in_ok-numbers.ensures
    (c.take.ensures.taken ∙ ap (λ b. taken b c.take.new.self) c.if-not-take.false)
