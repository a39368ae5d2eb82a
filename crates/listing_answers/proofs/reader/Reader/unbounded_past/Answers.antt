use Rattle.std.proofs.Common.{◌≡◌, None, refl, ap, ◌∙◌}
use Rattle.std.specs.Prelude.{option_map}
use Rattle.lp_definitions.specs.LinearProgram.{variables}
use Rattle.listing_definitions.specs.Report.{UnboundedPast}
use Rattle.walk_definitions.specs.Tables.{table_in, pair_slots}
use Rattle.listing_words.specs.Read.{sheet_view}
use Rattle.listing_claims.specs.Numbers.{number_in}
use Rattle.listing_answers.proofs.reader.Reader.unbounded_past.Goals as goal

pub returns-in_default : goal.returns-in_default
returns-in_default g c =
    let of = number_in g.T.Checks.checker c.args.self.now.by in
    let sheet = sheet_view c.args.self.now.sheet in
    (rw c.in_default.is at c.in_ok-value.ensures)
    (λ t after. option_map (λ got. (UnboundedPast t got.0, got.1)) (table_in of sheet pair_slots (variables sheet.lp.matrix) after))

pub returns-in_default-2 : goal.returns-in_default-2
returns-in_default-2 g c =
    let of = number_in g.T.Checks.checker c.args.self.now.by in
    let sheet = sheet_view c.args.self.now.sheet in
    let t = c.in-Some.value in
    let none : table_in of sheet pair_slots (variables sheet.lp.matrix) c.value_line.new.cursor ≡ None = rw c.in_default-2.is at c.in_ok-pair.ensures in
    (rw c.in-Some.is at c.in_ok-value.ensures)
    (λ t after. option_map (λ got. (UnboundedPast t got.0, got.1)) (table_in of sheet pair_slots (variables sheet.lp.matrix) after))
    ∙ ap (option_map (λ got. (UnboundedPast t got.0, got.1))) none

pub returns : goal.returns
returns g c =
    let of = number_in g.T.Checks.checker c.args.self.now.by in
    let sheet = sheet_view c.args.self.now.sheet in
    let t = c.in-Some.value in
    let read = rw c.in-Some-2.is at c.in_ok-pair.ensures in
    record {
      answer = UnboundedPast t read.answer;
      is_found =
          (rw c.in-Some.is at c.in_ok-value.ensures)
          (λ t after. option_map (λ got. (UnboundedPast t got.0, got.1)) (table_in of sheet pair_slots (variables sheet.lp.matrix) after))
          ∙ ap (option_map (λ got. (UnboundedPast t got.0, got.1))) read.is_found;
      shows = (refl, read.shows);
    }
