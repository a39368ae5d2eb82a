use Rattle.std.proofs.Common.{map, length, ap, sym, ◌∙◌}
use Rattle.lp_definitions.specs.LinearProgram.{size, numbers_from}
use Rattle.walk_definitions.specs.Tables.{pair_slots, table_in}
use Rattle.listing_readers.specs.declared.tables.Place.TheVariants.{First, Second}
use Rattle.listing_readers.specs.declared.tables.Shape.TheVariants.{Pair}
use Rattle.listing_readers.specs.Tables.{at_place}
use Rattle.listing_words.specs.Read.{sheet_view}
use Rattle.listing_claims.specs.Numbers.{number_in}
use Rattle.listing_answers.proofs.Tables.{column_is, column_length, lines_counted}
use Rattle.listing_answers.proofs.reader.Reader.read_pair.Goals as goal

pub returns : goal.returns
returns g c =
    let of = number_in g.T.Checks.checker c.args.self.now.by in
    let sheet = sheet_view c.args.self.now.sheet in
    let read = rw c.in-Some.is at c.in_ok-numbers.ensures in
    let numbers = c.in-Some.numbers.items in
    let table = ap (λ n. table_in of sheet pair_slots (numbers_from 1 n) c.args.cursor.now) (sym c.number_of_variables-count.ensures.size) ∙ read.1 in
    let places = lines_counted of sheet pair_slots c.args.cursor.now read.0 c.table.new.cursor table in
    let point =
    column_is Pair (at_place First) numbers read.0 c.in_ok-point.point.items read.2
    (c.in_ok-point.ensures ∙ ap (map (at_place First)) c.deref.ensures.value) in
    let direction = column_is Pair (at_place Second) numbers read.0 c.in_ok-direction.direction.items read.2
    (c.in_ok-direction.ensures ∙ ap (map (at_place Second)) c.deref-2.ensures.value) in
    record {
      answer = read.0;
      is_found = table;
      shows = record {
        is_point = point;
        is_direction = direction;
        fits = (
          ap length point ∙ column_length 0 (size sheet.lp.matrix) read.0 places,
          ap length direction
              ∙ column_length 1 (size sheet.lp.matrix) read.0 places,
        );
      };
    }
