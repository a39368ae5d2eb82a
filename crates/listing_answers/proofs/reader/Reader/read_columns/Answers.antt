use Rattle.std.proofs.Common.{map, length, ap, sym, ◌∙◌}
use Rattle.lp_definitions.specs.LinearProgram.{size, numbers_from}
use Rattle.walk_definitions.specs.Tables.{part_slots, table_in}
use Rattle.listing_readers.specs.declared.tables.Place.TheVariants.{First, Second, Third, Fourth}
use Rattle.listing_readers.specs.declared.tables.Shape.TheVariants.{Part}
use Rattle.listing_readers.specs.Tables.{at_place}
use Rattle.listing_words.specs.Read.{sheet_view}
use Rattle.listing_claims.specs.Numbers.{number_in}
use Rattle.listing_answers.proofs.Tables.{column_is, column_length, lines_counted}
use Rattle.listing_answers.proofs.reader.Reader.read_columns.Goals as goal

pub returns : goal.returns
returns g c =
    let of = number_in g.T.Checks.checker c.args.self.now.by in
    let sheet = sheet_view c.args.self.now.sheet in
    let n = size sheet.lp.matrix in
    let read = rw c.in-Some.is at c.in_ok-numbers.ensures in
    let numbers = c.in-Some.numbers.items in
    let table = ap (λ n. table_in of sheet part_slots (numbers_from 1 n) c.args.cursor.now) (sym c.number_of_variables-count.ensures.size) ∙ read.1 in
    let places = lines_counted of sheet part_slots c.args.cursor.now read.0 c.table.new.cursor table in
    let value =
    column_is Part (at_place First) numbers read.0 c.in_ok-value.value.items read.2
    (c.in_ok-value.ensures ∙ ap (map (at_place First)) c.deref.ensures.value) in
    let value_rate =
    column_is Part (at_place Second) numbers read.0 c.in_ok-value_rate.value_rate.items read.2
    (c.in_ok-value_rate.ensures ∙ ap (map (at_place Second)) c.deref-2.ensures.value) in
    let price =
    column_is Part (at_place Third) numbers read.0 c.in_ok-price.price.items read.2
    (c.in_ok-price.ensures ∙ ap (map (at_place Third)) c.deref-3.ensures.value) in
    let price_rate = column_is Part (at_place Fourth) numbers read.0 c.in_ok-price_rate.price_rate.items read.2
    (c.in_ok-price_rate.ensures ∙ ap (map (at_place Fourth)) c.deref-4.ensures.value) in
    record {
      answer = read.0;
      is_found = table;
      shows = record {
        value = value;
        value_rate = value_rate;
        price = price;
        price_rate = price_rate;
        counted = record {
          value = ap length value ∙ column_length 1 n read.0 places;
          value_rate = ap length value_rate ∙ column_length 2 n read.0 places;
          price = ap length price ∙ column_length 3 n read.0 places;
          price_rate = ap length price_rate ∙ column_length 4 n read.0 places;
        };
      };
    }
