use Rattle.std.proofs.Common.{◌≡◌, None, refl, ap, ◌∙◌}
use Rattle.std.specs.Prelude.{option_map}
use Rattle.lp_definitions.specs.LinearProgram.{variables}
use Rattle.walk_definitions.specs.Tables.{part_slots, table_in}
use Rattle.listing_words.specs.Read.{sheet_view}
use Rattle.listing_claims.specs.Numbers.{number_in}
use Rattle.listing_answers.proofs.reader.Reader.read_interval.Goals as goal

pub returns-in_default : goal.returns-in_default
returns-in_default g c =
    let of = number_in g.T.Checks.checker c.args.self.now.by in
    let sheet = sheet_view c.args.self.now.sheet in
    (rw c.in_default.is at c.in_ok-to.ensures)
    (λ to rest. option_map (λ got. (record { from = c.args.from.now; to = to; lines = got.0 }, got.1))
    (table_in of sheet part_slots (variables sheet.lp.matrix) rest))

pub returns-in_default-2 : goal.returns-in_default-2
returns-in_default-2 g c =
    let of = number_in g.T.Checks.checker c.args.self.now.by in
    let sheet = sheet_view c.args.self.now.sheet in
    let to = c.in-Some.to in
    let none : table_in of sheet part_slots (variables sheet.lp.matrix) c.part_end.new.cursor ≡ None = rw c.in_default-2.is at c.in_ok-columns.ensures in
    (rw c.in-Some.is at c.in_ok-to.ensures)
    (λ to rest. option_map (λ got. (record { from = c.args.from.now; to = to; lines = got.0 }, got.1))
    (table_in of sheet part_slots (variables sheet.lp.matrix) rest))
    ∙ ap (option_map (λ got. (record { from = c.args.from.now; to = to; lines = got.0 }, got.1))) none

pub returns : goal.returns
returns g c =
    let of = number_in g.T.Checks.checker c.args.self.now.by in
    let sheet = sheet_view c.args.self.now.sheet in
    let to = c.in-Some.to in
    let read = rw c.in-Some-2.is at c.in_ok-columns.ensures in
    record {
      answer = record { from = c.args.from.now; to = to; lines = read.answer };
      is_found =
          (rw c.in-Some.is at c.in_ok-to.ensures)
          (λ to rest. option_map (λ got. (record { from = c.args.from.now; to = to; lines = got.0 }, got.1))
          (table_in of sheet part_slots (variables sheet.lp.matrix) rest))
          ∙ ap (option_map (λ got. (record { from = c.args.from.now; to = to; lines = got.0 }, got.1))) read.is_found;
      shows = record { begins = refl; ends = refl; columns = read.shows };
    }
